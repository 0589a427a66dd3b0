-- Examples that show the definitions to say what is meant; no proof cites them.
-- What the definitions say of the game with traps, by computation.
use Rattle.std.proofs.Common.{◌≡◌, ℕ, zero, suc, ◌<◌, ◌≤◌, ◌++◌, Some, None, map, length, true, false, refl, arith}
use Rattle.std.specs.List.{range_with_len}
use Rattle.game_core.specs.declared.game.Row.{Row}
use Rattle.game_core.specs.Fallen.{has_fallen}
use Rattle.game_core.specs.Solution.{row_of}
use Rattle.game_core.specs.Tally.{IsKeepTally, all_pairs, unkept_in}
use Rattle.safety_game.specs.KeepBoards.{enabled_at}
use Rattle.safety_game.specs.KeepReckoned.{lost_at}
use Rattle.safety_game.specs.inside.SmallKeepGames.{traps, traps_rows, traps_tally, traps_starts, traps_cuts}

-- cell 4 falls in round 2, and not before
last_round : (d : ℕ) → has_fallen traps d 4 ≡ true → 2 ≤ d
last_round zero e = absurd (let f : false ≡ true = e in cc)
last_round (suc zero) e = absurd (let f : false ≡ true = e in cc)
last_round (suc (suc d)) e = omega arith

some_row : (row : Row) → Some row ≡ None → ⊥
some_row row e = cc

fell : (c : ℕ) → c < 6 → row_of traps_rows c ≡ None → has_fallen traps 2 c ≡ true
fell zero lt e = absurd (some_row (record { rank = 0; input = 0 }) e)
fell (suc zero) lt e = refl
fell (suc (suc zero)) lt e = refl
fell (suc (suc (suc zero))) lt e = refl
fell (suc (suc (suc (suc zero)))) lt e = refl
fell (suc (suc (suc (suc (suc zero))))) lt e = absurd (some_row (record { rank = 0; input = 1 }) e)
fell (suc (suc (suc (suc (suc (suc c)))))) lt e = absurd (omega arith)

pub traps_count : IsKeepTally traps traps_rows traps_tally
traps_count = record {
  cuts = refl;
  offers = refl;
  all_fell = λ c lt e. (2, omega arith, fell c lt e);
  no_sooner = λ n before. let first = before 4 (omega arith) refl in let late = last_round first.0 first.2 in let lt = first.1 in omega arith;
}

pub traps_start : map length traps.successors ++ map (enabled_at traps) (range_with_len 0 6) ≡ traps_starts
traps_start = refl

pub traps_are_cut : map (unkept_in traps traps_rows) (all_pairs traps) ++ map (lost_at traps traps_rows) (range_with_len 0 6) ≡ traps_cuts
traps_are_cut = refl
