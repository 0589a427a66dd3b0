use Rattle.std.proofs.Common.{rules}
use Rattle.text_control.specs.declared.visits.Visit.TheVariants.{Same}
use Rattle.text_control.proofs.TurnChanges.{visit_by_text}
use Rattle.text_control.proofs.turns.visit.Goals as goal

pub returns-in-None-clause-text : goal.returns-in-None-clause-text
returns-in-None-clause-text c = visit_by_text c.args.text.now c.args.state.now c.args.text.now Same (search rules)
