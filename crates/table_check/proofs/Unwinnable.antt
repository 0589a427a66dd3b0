-- A cell is right to have no row exactly where no input leads to rows alone.
use Rattle.std.proofs.Common.{inl, inr, ◌≡◌, ℕ, ◌<◌, ◌↔◌, List, Option, Some, arith}
use Rattle.std.proofs.lemmas.List.Elements.{All-weaker, All-contains}
use Rattle.game_core.specs.declared.game.Row.{Row}
use Rattle.game_core.specs.Game.{Game, successors_of}
use Rattle.game_core.specs.Solution.{row_of, HasRow, HasRowBelow}
use Rattle.game_core.specs.Right.{IsUnwinnable}
use Rattle.game_core.proofs.Right.{rowless}
use Rattle.table_check.specs.inside.Below.{NoneLeadsBelow}

pub unwinnable_by_bound : (g : Game) (rows : List (Option Row)) (k : ℕ) → ((c : ℕ) (row : Row) → row_of rows c ≡ Some row → row.rank < k) → (c : ℕ) → NoneLeadsBelow g rows c 0 g.inputs k ↔ IsUnwinnable g rows c
unwinnable_by_bound g rows k bound c = (
  λ none v enabled.
      elim (rowless rows (successors_of g c v)) [
        | inl all ↦ absurd (none v (omega arith) enabled.0 (enabled.1, All-weaker (HasRow rows) (HasRowBelow rows k) (λ s r. record { row = r.0; is = r.1; below = bound s r.0 r.1 }) (successors_of g c v) all))
        | inr found ↦ found
      ],
  λ lost v from to below.
      let found = lost v (to, below.0) in
      let has = All-contains (HasRowBelow rows k) (successors_of g c v) found.0 below.1 found.1 in
      let is = has.is in
      let none = found.2 in
      cc,
)
