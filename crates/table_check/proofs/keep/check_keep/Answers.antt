use Rattle.std.proofs.Common.{◌≡◌, ℕ, ◌<◌, length, sym, ◌∙◌, subst}
use Rattle.game_core.specs.Keep.{IsKeepRow, IsKeepSolution}
use Rattle.game_core.specs.Solution.{row_of}
use Rattle.game_core.proofs.Keep.{same_keep_row, one_keep_solution}
use Rattle.table_check.specs.Verdicts.{IsVerdict}
use Rattle.table_check.proofs.Verdicts.{same_verdict}
use Rattle.table_check.proofs.keep.check_keep.Goals as goal

pub compare-requires : goal.compare-requires
compare-requires g c = c.answer.ensures.fit.one_each ∙ sym (c.in_ok-kept.ensures.one_each ∙ c.requires.cells)

pub returns : goal.returns
returns g c =
    let game = g.G.Graph.game c.args.g.now in
    let rows = c.args.t.now.rows in
    let kept = c.in_ok-kept.kept in
    let solution : IsKeepSolution game kept = c.in_ok-kept.ensures in
    let kept_row : (b : ℕ) → b < length kept → IsKeepRow game b (row_of kept b) = λ b lt. solution.each b (subst (λ n. b < n) solution.one_each lt) in
    subst (λ n. IsVerdict (IsKeepSolution game rows) (λ b. IsKeepRow game b (row_of rows b)) n c.compare.result) solution.one_each
    (same_verdict (rows ≡ kept) (λ b. row_of rows b ≡ row_of kept b) (length kept) (IsKeepSolution game rows) (λ b. IsKeepRow game b (row_of rows b)) c.compare.result
    (λ e. subst (IsKeepSolution game) (sym e) solution, λ s. one_keep_solution game rows kept s solution)
    (λ b lt. (λ e. subst (IsKeepRow game b) (sym e) (kept_row b lt), λ h. same_keep_row game b (row_of rows b) (row_of kept b) h (kept_row b lt)))
    (rw c.answer.ensures.rows at c.compare.ensures))
