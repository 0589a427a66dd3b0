use Rattle.std.proofs.Common.{sym, ◌∙◌}
use Rattle.text_control.proofs.ByText.{none_ranked}
use Rattle.text_control.proofs.rows.rank_at.Goals as goal

pub returns-in_err-row_at : goal.returns-in_err-row_at
returns-in_err-row_at c =
    let none = sym c.row_at.ensures.row ∙ c.in_err-row_at.was in
    rw c.from_residual.ensures (none, λ bytes tells. none_ranked c.args.text.now c.args.state.now bytes tells none)
