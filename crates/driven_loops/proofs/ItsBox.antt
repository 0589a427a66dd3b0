-- A next state that lies in its box lies in a successor, in the game of the plant.
use Rattle.std.proofs.Common.{◌≡◌, ℕ, ◌%◌, ◌<◌, List, [], ◌∷◌, Some, sym, subst₂, ◌∙◌, arith}
use Rattle.std.specs.List.{Contains}
use Rattle.grid_quantiser.specs.declared.axis.Axis.{Axis}
use Rattle.grid_quantiser.specs.Axes.{cells_of}
use Rattle.grid_quantiser.specs.Cells.{cell_of}
use Rattle.grid_quantiser.specs.CellBoxes.{cells_between}
use Rattle.grid_quantiser.proofs.BetweenCells.{IsBetween, between_from_contains, contains_from_between}
use Rattle.grid_quantiser.proofs.Domain.{cell_below}
use Rattle.game_core.specs.Game.{Game, IsEnabled, successors_of}
use Rattle.plant_record.specs.Description.{Description, axes_of, vector_of, vectors_of}
use Rattle.plant_record.specs.Plants.{IsPlant}
use Rattle.plant_record.proofs.lemmas.SoundPlants.{sound}
use Rattle.plant_game.specs.Abstraction.{IsGameOf}
use Rattle.successor_box.specs.SuccessorBoxes.{IsEnabledAt, AreSuccessors, IsBoxOf}
use Rattle.successor_box.proofs.Enabled.{box_successors, enabled_exactly}
use Rattle.text_control.specs.Followed.{FollowedSample, IsInItsBox}
use Rattle.text_control.proofs.SameBox.{same_box}
use Rattle.driven_loops.specs.Followed.{LiesBetween}
use Rattle.driven_loops.specs.FollowedLaws.{IndicesTell}

-- ---- cells of boxes

-- two lists of the same successors have the same cells, where there are some
cells_of_both : (p : Description) (c u d : ℕ) (xs ys : List ℕ) → AreSuccessors p c u xs → AreSuccessors p c u ys → IsEnabledAt p c u → Contains xs d → Contains ys d
cells_of_both p c u d xs ys f g enabled has = ((g.enabled enabled).exactly d).1 (((f.enabled enabled).exactly d).0 has)

-- an input that may be applied in the game of a plant is one of its vectors, and has its box within the domain
pub enabled_in : (p : Description) (g : Game) (c u : ℕ) → IsPlant p → IsGameOf p g → c < g.cells → IsEnabled g c u → (u < vectors_of p.inputs) × IsEnabledAt p c u
enabled_in p g c u plant abstraction lt on = let known = on.0 in let same = abstraction.inputs in (omega (arith, known, same), (enabled_exactly p c u (successors_of g c u) (sound p plant) (abstraction.successors c u lt on.0)).0 on.1)

pub in_successor : (p : Description) (g : Game) (s : FollowedSample) (u : ℕ) → IsPlant p → IsGameOf p g → cell_of (axes_of p) s.state < g.cells → IsEnabled g (cell_of (axes_of p) s.state) u → s.values ≡ vector_of p.inputs u → IsInItsBox p s
    → Contains (successors_of g (cell_of (axes_of p) s.state) u) (cell_of (axes_of p) s.next)
in_successor p g s u plant abstraction lt on are b =
    let c : ℕ = cell_of (axes_of p) s.state in
    let successors = abstraction.successors c u lt on.0 in
    let enabled : IsEnabledAt p c u = (enabled_in p g c u plant abstraction lt on).1 in
    let box : IsBoxOf p c u (Some b.box) = same_box p c b.input u (Some b.box) (sym b.are ∙ are) b.is_box in
    cells_of_both p c u (cell_of (axes_of p) s.next) (cells_between (axes_of p) b.box.first b.box.last) (successors_of g c u) (box_successors p c u (Some b.box) box) successors enabled b.among

-- ---- indices

lies_between : (axes : List Axis) (f l c : ℕ) → IsBetween axes f l c → LiesBetween axes f l c
lies_between [] f l c b = tt
lies_between (a ∷ axes) f l c b = (b.0, b.1, lies_between axes (f % cells_of axes) (l % cells_of axes) (c % cells_of axes) b.2)

is_between : (axes : List Axis) (f l c : ℕ) → LiesBetween axes f l c → IsBetween axes f l c
is_between [] f l c b = tt
is_between (a ∷ axes) f l c b = (b.0, b.1, is_between axes (f % cells_of axes) (l % cells_of axes) (c % cells_of axes) b.2)

pub indices_tell : IndicesTell
indices_tell p s input box plant below are is_box = (
  λ b.
      let c : ℕ = cell_of (axes_of p) s.state in
      let other : IsBoxOf p c input (Some b.box) = same_box p c b.input input (Some b.box) (sym b.are ∙ are) b.is_box in
      let first : b.box.first ≡ box.first = other.corners.first_is ∙ sym is_box.corners.first_is in
      let last : b.box.last ≡ box.last = other.corners.last_is ∙ sym is_box.corners.last_is in
      let there = between_from_contains (axes_of p) b.box.first b.box.last (cell_of (axes_of p) s.next) (sound p plant).axes.each other.corners.ordered b.among in
      (b.inside, subst₂ (λ (f l : ℕ). LiesBetween (axes_of p) f l (cell_of (axes_of p) s.next)) first last (lies_between (axes_of p) b.box.first b.box.last (cell_of (axes_of p) s.next) there)),
  λ h.
      let each = (sound p plant).axes.each in
      record {
        input = input;
        below = below;
        are = are;
        box = box;
        is_box = is_box;
        inside = h.0;
        among = contains_from_between (axes_of p) box.first box.last (cell_of (axes_of p) s.next) each (cell_below (axes_of p) s.next each h.0) (is_between (axes_of p) box.first box.last (cell_of (axes_of p) s.next) h.1);
      },
)
