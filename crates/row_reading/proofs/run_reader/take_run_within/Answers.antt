use Rattle.std.proofs.Common.{◌≡◌, ℕ, List, ◌++◌, subst, ap, sym, ◌∙◌}
use Rattle.row_reading.specs.RowsTexts.{IsRunWithin}
use Rattle.row_reading.specs.TurnSteps.{MayStandAfter}
use Rattle.row_reading.proofs.RunWords.{one_run, spelled_run}
use Rattle.row_reading.proofs.run_reader.take_run_within.Goals as goal
use Rattle.row_reading.proofs.run_reader.take_run_within.Goals.{else-may_follow-via-then-may_follow+else-is_within, else-may_follow-via-else-may_follow}

pub returns-else-may_follow : goal.returns-else-may_follow
returns-else-may_follow c = λ y h.
    let rules = c.args.rules in
    let run = c.in_ok-run.run' in
    let after = c.in_ok-run.after.now in
    let next = h.1 in
    let found = c.in_ok-run.ensures in
    let same : run ≡ y.0 = one_run rules.version rules.format run y.0 after y.1 found.0 (spelled_run rules y.0 c.requires next.cells next.within) (sym found.1 ∙ h.2 ∙ ap (λ (x : List ℕ). x ++ y.1) next.line_is) in
    let fits : IsRunWithin rules run = subst (IsRunWithin rules) (sym same) next.within in
    let follows : MayStandAfter rules.version c.args.before run = subst (MayStandAfter rules.version c.args.before) (sym same) next.follows in
    elim c.else-may_follow.branch [
      | else-may_follow-via-then-may_follow+else-is_within w ↦ (let yes = w.is_within.ensures.1 fits in let no = w.if-is_within.false in cc)
      | else-may_follow-via-else-may_follow w ↦ (let yes = c.may_follow.ensures.1 follows in let no = w.if-may_follow.false in cc)
    ]
