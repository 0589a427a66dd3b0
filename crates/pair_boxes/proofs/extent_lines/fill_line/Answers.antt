use Rattle.std.proofs.Common.{ℕ, All, List, length, sym, subst}
use Rattle.plant_record.proofs.lemmas.SoundPlants.{sound as sound_plant}
use Rattle.successor_box.specs.CellLines.{AreCellsOn}
use Rattle.pair_boxes.specs.declared.digits.Digit.{Digit}
use Rattle.pair_boxes.specs.inside.Digits.{IsReadable, AreIndicesAt}
use Rattle.pair_boxes.proofs.EquationDigits.{readable}
use Rattle.pair_boxes.proofs.SlotLines.{AreSlotsAlong, lies_in_grid, cells_in_lanes, input_here, extents_in_line}
use Rattle.pair_boxes.proofs.extent_lines.fill_line.Goals as goal
use Rattle.pair_boxes.proofs.extent_lines.fill_line.Goals.{After-indices_at-indices}

pub indices_at-indices-requires : goal.indices_at-indices-requires
indices_at-indices-requires c =
    let p = c.args.of.now.sampled.plant.now in
    let plant = c.args.of.now.sampled.within.plant in
    subst (All IsReadable) (sym c.deref.ensures.value) (readable p plant (sound_plant p plant) c.args.of.now.state c.args.digits.now.each.items c.args.digits.now.slots c.requires.digits)

-- the slots, and the cells in the lanes
slots : (c : After-indices_at-indices) → AreSlotsAlong c.args.of.now.sampled.plant.now c.args.of.now.state c.args.digits.now.each.items c.args.digits.now.slots c.args.along c.args.slot (length c.args.line.now) c.indices_at-indices.result
slots c = record {
  plant = c.args.of.now.sampled.within.plant;
  sound = sound_plant c.args.of.now.sampled.plant.now c.args.of.now.sampled.within.plant;
  are = c.requires.digits;
  state = c.requires.along;
  hold = subst (λ (ds : List Digit). AreIndicesAt ds c.args.slot c.indices_at-indices.result) c.deref.ensures.value c.indices_at-indices.ensures;
  line = c.requires.line;
}

cells : (c : After-indices_at-indices) → (cell : ℕ → ℕ) × AreCellsOn c.args.of.now.sampled.plant.now c.indices_at-indices.result c.args.along (length c.args.line.now) cell
cells c = cells_in_lanes (slots c) c.requires.some

pub new-cells-requires-clause-within : goal.new-cells-requires-clause-within
new-cells-requires-clause-within c = lies_in_grid (slots (goal.at.new-cells-requires-clause-within c).After-indices_at-indices)

pub new-cells-requires-clause-input : goal.new-cells-requires-clause-input
new-cells-requires-clause-input c = input_here (slots (goal.at.new-cells-requires-clause-input c).After-indices_at-indices)

pub extents_under-requires-clause-line : goal.extents_under-requires-clause-line
extents_under-requires-clause-line c = let lanes = cells (goal.at.extents_under-requires-clause-line c).After-indices_at-indices in (lanes.0, c.new-cells.ensures.cells lanes.0 lanes.1)

pub returns-clause-each : goal.returns-clause-each
returns-clause-each c =
    let here = (goal.at.returns-clause-each c).After-indices_at-indices in
    let lanes = cells here in
    extents_in_line (slots here) c.args.of.now.equation lanes.0 c.new-cells.result.input lanes.1 c.new-cells.ensures.input c.extents_under.new.extents c.extents_under.ensures.long c.requires.few (c.extents_under.ensures.each lanes.0 (c.new-cells.ensures.cells lanes.0 lanes.1))
