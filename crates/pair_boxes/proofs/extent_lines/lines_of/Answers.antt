use Rattle.std.proofs.Common.{sym, arith}
use Rattle.plant_record.proofs.lemmas.SoundPlants.{sound as sound_plant}
use Rattle.pair_boxes.proofs.SlotLines.{lowest_lines}
use Rattle.pair_boxes.proofs.extent_lines.lines_of.Goals as goal

pub returns-then-lowest-states : goal.returns-then-lowest-states
returns-then-lowest-states c =
    let plant = c.args.of.now.sampled.within.plant in
    lowest_lines c.args.of.now.sampled.plant.now plant (sound_plant c.args.of.now.sampled.plant.now plant) c.args.of.now.state c.args.digits.now.slots c.args.digits.now.each.items c.index-lowest.result.now c.index-lowest.result.now
    c.requires (omega (arith, c.if-len-gt0.true, c.len.ensures)) (sym c.index-lowest.ensures) (omega (arith, c.if-lowest-states.true, c.states.ensures))
