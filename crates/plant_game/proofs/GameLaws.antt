-- What proofs of the crates above cite: pairs by their numbers, where a state of a plant lies among the cells of its game, and where a step lands.
use Rattle.std.proofs.Common.{◌≡◌, ◌≢◌, ℕ, zero, suc, ◌+◌, ◌*◌, ◌/◌, ◌%◌, ◌<◌, List, arith, refl}
use Rattle.std.specs.Prelude.{ℤ}
use Rattle.std.specs.List.{Contains}
use Rattle.std.proofs.lemmas.List.Elements.{All-contains}
use Rattle.std.proofs.lemmas.Nat.{div_below, mod_below, div-add-mod'}
use Rattle.std.proofs.Math.Nat.{mul-zero}
use Rattle.game_core.specs.declared.game.Mark.TheVariants.{Goal, Obstacle}
use Rattle.game_core.specs.Game.{Game, IsEnabled, mark_of, pair_of, successors_of}
use Rattle.game_core.proofs.Rows.{successors_below}
use Rattle.grid_quantiser.specs.CellBoxes.{IsInBox, Touches, LiesInside}
use Rattle.grid_quantiser.specs.Cells.{IsInDomain, cell_of}
use Rattle.plant_record.specs.Description.{Description, axes_of}
use Rattle.plant_record.specs.CellMarks.{IsGoalCell, IsObstacleCell}
use Rattle.plant_record.specs.Plants.{IsPlant}
use Rattle.plant_record.specs.States.{LiesInSome, IsClear}
use Rattle.plant_record.specs.Steps.{step_of, IsNoise}
use Rattle.plant_game.specs.Abstraction.{IsGameOf}
use Rattle.plant_game.specs.Refinement.{IsRefinement}
use Rattle.plant_game.proofs.Refining.{games_refine}
use Rattle.base.proofs.Lists.{Any-weaker}

-- a pair has a cell and an input
pub pair_split : (pair cells vectors : ℕ) → pair < cells * vectors → (pair / vectors < cells) × (pair % vectors < vectors) × ((pair / vectors) * vectors + pair % vectors ≡ pair)
pair_split pair cells zero lt = absurd (omega (arith, lt, mul-zero cells))
pair_split pair cells (suc v) lt = (div_below pair (suc v) cells (omega arith) lt, mod_below pair (suc v) (omega arith), div-add-mod' pair (suc v))

-- a game refines the plant whose game it is
pub refines : (p : Description) (g : Game) → IsPlant p → IsGameOf p g → IsRefinement p g
refines = games_refine

module _ (p : Description) (g : Game) (a : IsGameOf p g) (r : IsRefinement p g) where
  -- a state in a cell that is no obstacle is clear
  pub clear_at : (x : List ℤ) → IsInDomain (axes_of p) x → cell_of (axes_of p) x < g.cells → mark_of g (cell_of (axes_of p) x) ≢ Obstacle → IsClear p x
  clear_at x inside lt clear = (
    inside,
    λ met.
        let c : ℕ = cell_of (axes_of p) x in
        let touched : IsObstacleCell p c = Any-weaker (λ b. IsInBox (axes_of p) b.low b.high x) (λ b. Touches (axes_of p) c b.low b.high) p.obstacles (λ b is. (x, (inside, refl), is)) met in
        clear ((a.marks c lt).1.1 touched),
  )

  -- a state in a goal cell lies in a target
  pub in_target : (x : List ℤ) → IsInDomain (axes_of p) x → cell_of (axes_of p) x < g.cells → mark_of g (cell_of (axes_of p) x) ≡ Goal → LiesInSome p p.targets x
  in_target x inside lt m =
      let c : ℕ = cell_of (axes_of p) x in
      let goal : IsGoalCell p c = (a.marks c lt).0.0 m in
      Any-weaker (λ b. LiesInside (axes_of p) c b.low b.high) (λ b. IsInBox (axes_of p) b.low b.high x) p.targets (λ b all. all x (inside, refl)) goal.1

  -- a step under an enabled input lands in a successor
  pub lands : (x w : List ℤ) (u : ℕ) → IsInDomain (axes_of p) x → cell_of (axes_of p) x < g.cells → IsEnabled g (cell_of (axes_of p) x) u → IsNoise p.noises w
      → IsInDomain (axes_of p) (step_of p x u w) × Contains (successors_of g (cell_of (axes_of p) x) u) (cell_of (axes_of p) (step_of p x u w)) × (cell_of (axes_of p) (step_of p x u w) < g.cells)
  lands x w u inside lt on noise =
      let c : ℕ = cell_of (axes_of p) x in
      let next : List ℤ = step_of p x u w in
      let among = r.among c u x w lt on (inside, refl) noise in (
        r.inside c u x w lt on (inside, refl) noise,
        among,
        All-contains (λ s. s < g.cells) (successors_of g c u) (cell_of (axes_of p) next) (successors_below g a.game (pair_of g c u)) among,
      )
