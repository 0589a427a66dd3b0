use Rattle.std.proofs.Common.{◌≡◌, ℕ, ◌<◌, Some}
use Rattle.std.specs.Prelude.{slice_get}
use Rattle.grid_quantiser.specs.CellBoxes.{IsInBox}
use Rattle.plant_record.specs.declared.aims.StateBox.{StateBox}
use Rattle.plant_record.specs.Description.{axes_of}
use Rattle.plant_refine.proofs.targets.lies_in_target.Given as goal

abbrev pub invariant-loop-k : goal.invariant-loop-k
invariant-loop-k l = (k : ℕ) (b : StateBox) → k < l.k → slice_get l.p.targets k ≡ Some b → IsInBox (axes_of l.p) b.low b.high l.x → ⊥
