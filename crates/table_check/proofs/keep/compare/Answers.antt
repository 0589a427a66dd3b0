use Rattle.std.proofs.Common.{◌≡◌, ℕ, ◌<◌, None, length, arith}
use Rattle.std.proofs.lemmas.List.{ext_get_or}
use Rattle.game_core.specs.Solution.{row_of}
use Rattle.table_check.proofs.Verdicts.{valid_verdict}
use Rattle.table_check.proofs.keep.compare.Goals as goal

pub returns : goal.returns
returns c =
    let rows = c.args.rows.now in
    let kept = c.args.kept.now in
    let count = c.cells-c-end.ensures in
    let done = c.loop-c-test.false in
    let same : (b : ℕ) → b < length kept → row_of rows b ≡ row_of kept b = λ b lt. c.loop-c.invariant b (omega arith) in
    valid_verdict (rows ≡ kept) (λ b. row_of rows b ≡ row_of kept b) (length kept) (ext_get_or None rows kept c.requires (λ b lt. same b (omega (arith, lt, c.requires)))) same
