use Rattle.std.proofs.Common.{rules}
use Rattle.text_control.specs.declared.reply.Reply.TheVariants.{Apply, Arrived, NoRow}
use Rattle.text_control.proofs.ByText.{by_text}
use Rattle.text_control.proofs.at_state.control.Goals as goal

pub returns-in_default-clause-text : goal.returns-in_default-clause-text
returns-in_default-clause-text c = by_text c.args.text.now c.args.state.now c.args.input.now c.args.input.now NoRow (search rules)

pub returns-then-not-applies-clause-text : goal.returns-then-not-applies-clause-text
returns-then-not-applies-clause-text c = by_text c.args.text.now c.args.state.now c.args.input.now c.args.input.now Arrived (search rules)

pub returns-clause-text : goal.returns-clause-text
returns-clause-text c = by_text c.args.text.now c.args.state.now c.args.input.now c.apply.new.input Apply (search rules)
