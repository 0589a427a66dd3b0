use Rattle.std.proofs.Common.{sym, subst}
use Rattle.text_control.specs.Texts.{IsReadFrom}
use Rattle.controller_c.proofs.opening.boxed_text.Goals as goal

pub returns-in-Ok-clause-read : goal.returns-in-Ok-clause-read
returns-in-Ok-clause-read c = subst (IsReadFrom c.args.bytes.now) (sym c.in-Ok.ensures.ok) c.in_ok-text.ensures.read
