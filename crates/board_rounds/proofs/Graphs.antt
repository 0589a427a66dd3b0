-- What a graph's limits say of one pair.
use Rattle.std.proofs.Common.{ℕ, ◌/◌, ◌^◌, ◌<◌, ◌≤◌, [], length, All, arith}
use Rattle.std.proofs.lemmas.List.Sums.{get_or-le-sum_by}
use Rattle.std.proofs.lemmas.Nat.{div_below}
use Rattle.game_core.specs.Game.{Game, IsGraph, pairs_of, successors_at}

module _ (g : Game) (a : IsGraph g) where
  pub successors_within : (pair : ℕ) → pair < pairs_of g → All (λ s. s < g.cells) (successors_at g pair)
  successors_within pair lt = let n = a.game.one_list_each in a.game.within pair [] (omega arith)

  pub few_successors : (pair : ℕ) → pair < pairs_of g → length (successors_at g pair) ≤ 2 ^ 25
  few_successors pair lt =
      omega (arith, get_or-le-sum_by length g.successors pair [] (omega arith))

  pub cell_below : (pair : ℕ) → pair < pairs_of g → pair / g.inputs < g.cells
  cell_below pair lt = let some' = a.some_input in div_below pair g.inputs g.cells (omega arith) lt
