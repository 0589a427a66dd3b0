-- Examples that show the definitions to say what is meant; no proof cites them.
-- The tallies of the small games, by computation.
use Rattle.std.proofs.Common.{◌≡◌, ℕ, zero, suc, ◌<◌, ◌≤◌, true, false, refl, arith}
use Rattle.game_core.specs.Fallen.{has_fallen}
use Rattle.game_core.specs.Tally.{IsReachTally, IsKeepTally}
use Rattle.game_core.specs.inside.SmallGames.{line, line_rows, line_tally, corridor, corridor_rows, corridor_tally, one_way, one_way_rows, one_way_tally}

pub line_counts : IsReachTally line line_rows line_tally
line_counts = record { cuts = refl; offers = refl; rounds = refl }

pub corridor_counts : IsReachTally corridor corridor_rows corridor_tally
corridor_counts = record { cuts = refl; offers = refl; rounds = refl }

-- the first cell of the way falls in round 4, and not before
last_round : (d : ℕ) → has_fallen one_way d 0 ≡ true → 4 ≤ d
last_round zero e = absurd (let f : false ≡ true = e in cc)
last_round (suc zero) e = absurd (let f : false ≡ true = e in cc)
last_round (suc (suc zero)) e = absurd (let f : false ≡ true = e in cc)
last_round (suc (suc (suc zero))) e = absurd (let f : false ≡ true = e in cc)
last_round (suc (suc (suc (suc d)))) e = omega arith

fell : (c : ℕ) → c < 5 → has_fallen one_way 4 c ≡ true
fell zero lt = refl
fell (suc zero) lt = refl
fell (suc (suc zero)) lt = refl
fell (suc (suc (suc zero))) lt = refl
fell (suc (suc (suc (suc zero)))) lt = refl
fell (suc (suc (suc (suc (suc c))))) lt = absurd (omega arith)

pub one_way_counts : IsKeepTally one_way one_way_rows one_way_tally
one_way_counts = record {
  cuts = refl;
  offers = refl;
  all_fell = λ c lt e. (4, omega arith, fell c lt);
  no_sooner = λ n before. let first = before 0 (omega arith) refl in let late = last_round first.0 first.2 in let lt = first.1 in omega arith;
}
