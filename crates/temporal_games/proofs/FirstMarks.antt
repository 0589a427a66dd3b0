-- The marks with which the turns begin, one turn after another.
use Rattle.std.proofs.Common.{inl, inr, ◌≡◌, ℕ, ◌+◌, ◌<◌, List, [], ◌∷◌, ◌++◌, length, Option, arith, sym, subst}
use Rattle.std.proofs.lemmas.Bool.{cases_lt}
use Rattle.std.proofs.lemmas.List.{get_or_append_left, get_or_push}
use Rattle.game_core.specs.declared.game.Mark.{Mark}
use Rattle.game_core.specs.declared.game.Row.{Row}
use Rattle.game_core.specs.Game.{Game}
use Rattle.plant_record.specs.Description.{Description}
use Rattle.temporal_games.specs.inside.PatrolSearch.{marks_for, AreFirstMarks}

-- one turn more
pub one_turn_more : (p : Description) (g : Game) (kept : List (Option Row)) (n : ℕ) (lists more : List (List Mark)) (marks : List Mark) → length lists ≡ n → ((j : ℕ) → j < n → AreFirstMarks p g kept j (marks_for lists j)) → AreFirstMarks p g kept n marks →
    more ≡ lists ++ marks ∷ [] → (j : ℕ) → j < n + 1 → AreFirstMarks p g kept j (marks_for more j)
one_turn_more p g kept n lists more marks long before here is j lj =
    subst (λ (all : List (List Mark)). AreFirstMarks p g kept j (marks_for all j)) (sym is)
    (elim (cases_lt j n) [
      | inl earlier ↦ subst (AreFirstMarks p g kept j) (sym (get_or_append_left lists (marks ∷ []) [] j (omega (arith, earlier, long)))) (before j earlier)
      | inr past ↦
          let last : n ≡ j = omega (arith, past, lj) in
          subst (AreFirstMarks p g kept j) (sym (get_or_push lists marks [] j (omega (arith, long, last)))) (subst (λ (k : ℕ). AreFirstMarks p g kept k marks) last here)
    ])
