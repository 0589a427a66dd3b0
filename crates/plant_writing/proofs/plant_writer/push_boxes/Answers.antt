use Rattle.std.proofs.Common.{◌<◌, [], get_or, length, sym, ◌∙◌}
use Rattle.std.proofs.lemmas.List.{append-nil, get_or_default}
use Rattle.plant_record.specs.declared.aims.StateBox.{StateBox}
use Rattle.plant_writing.specs.CanonicalText.{box_line}
use Rattle.plant_writing.proofs.lemmas.WrittenLines.{pieces_more, pieces_all}
use Rattle.plant_writing.proofs.plant_writer.push_boxes.Goals as goal

pub loop-b-init : goal.loop-b-init
loop-b-init c = sym (append-nil c.args.text.now.items)

pub loop-b-preserved : goal.loop-b-preserved
loop-b-preserved c =
    let boxes = c.args.boxes.now in
    let i = c.loop-b.b-index in
    let b : StateBox = get_or boxes i (record { low = []; high = [] }) in
    let within : i < length boxes = c.loop-b-test.true in
    rw (c.in_ok-push_box.ensures, c.loop-b.invariant)
    (pieces_more (box_line c.args.keyword.now c.args.states) c.args.text.now.items boxes i b within (get_or_default boxes i (record { low = []; high = [] }) b within))

pub returns : goal.returns
returns c = c.loop-b.invariant ∙ pieces_all (box_line c.args.keyword.now c.args.states) c.args.text.now.items c.args.boxes.now c.loop-b.b-index c.loop-b-test.false
