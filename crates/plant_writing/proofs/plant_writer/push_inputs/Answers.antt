use Rattle.std.proofs.Common.{sym, ◌∙◌}
use Rattle.std.proofs.lemmas.List.{append-nil}
use Rattle.plant_writing.specs.CanonicalText.{input_line}
use Rattle.plant_writing.proofs.lemmas.WrittenLines.{pieces_more, pieces_all}
use Rattle.plant_writing.proofs.plant_writer.push_inputs.Goals as goal

pub loop-input-init : goal.loop-input-init
loop-input-init c = sym (append-nil c.args.text.now.items)

pub loop-input-preserved : goal.loop-input-preserved
loop-input-preserved c =
    rw (c.in_ok-push_input.ensures, c.loop-input.invariant)
    (pieces_more input_line c.args.text.now.items c.args.inputs.now c.loop-input.input-index c.input-item.result c.loop-input-test.true c.input-item.is)

pub returns : goal.returns
returns c = c.loop-input.invariant ∙ pieces_all input_line c.args.text.now.items c.args.inputs.now c.loop-input.input-index c.loop-input-test.false
