use Rattle.std.proofs.Common.{◌≡◌, ℕ, ◌<◌, drop, length, get_or}
use Rattle.grid_quantiser.specs.Axes.{cells_of}
use Rattle.plant_record.specs.Description.{axes_of}
use Rattle.pair_boxes.specs.declared.terms.StateTerms.{StateTerms}
use Rattle.pair_boxes.specs.inside.Terms.{AreTermsOf}
use Rattle.pair_boxes.proofs.terms.build_tables.Given as goal

-- the tables so far, and how many cells the later axes make
abbrev pub invariant-loop-state : goal.invariant-loop-state
invariant-loop-state g l = record {
  count : length l.tables.items ≡ l.state;
  stride : l.stride ≡ cells_of (drop l.state (axes_of l.sampled.plant.now));
  each : (i : ℕ) (d : StateTerms) → i < l.state → AreTermsOf l.sampled.plant.now i (get_or l.tables.items i d);
}
