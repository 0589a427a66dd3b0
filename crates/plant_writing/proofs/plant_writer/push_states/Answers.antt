use Rattle.std.proofs.Common.{sym, ◌∙◌}
use Rattle.std.proofs.lemmas.List.{append-nil}
use Rattle.plant_writing.specs.CanonicalText.{state_line}
use Rattle.plant_writing.proofs.lemmas.WrittenLines.{pieces_more, pieces_all}
use Rattle.plant_writing.proofs.plant_writer.push_states.Goals as goal

pub loop-state-init : goal.loop-state-init
loop-state-init c = sym (append-nil c.args.text.now.items)

pub loop-state-preserved : goal.loop-state-preserved
loop-state-preserved c =
    rw (c.in_ok-push_state.ensures, c.loop-state.invariant)
    (pieces_more state_line c.args.text.now.items c.args.states.now c.loop-state.state-index c.state-item.result c.loop-state-test.true c.state-item.is)

pub returns : goal.returns
returns c = c.loop-state.invariant ∙ pieces_all state_line c.args.text.now.items c.args.states.now c.loop-state.state-index c.loop-state-test.false
