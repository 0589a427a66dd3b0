use Rattle.std.proofs.Common.{◌≡◌, ◌<◌, ◌≤◌, true, inl, inr, arith, subst}
use Rattle.std.proofs.lemmas.Bool.{cases_lt}
use Rattle.game_core.specs.Right.{IsRight}
use Rattle.table_check.proofs.judge.RowJudgeCellJudge.first_wrong.Goals as goal

pub loop-c-preserved : goal.loop-c-preserved
loop-c-preserved g c = λ b low high.
    let here = c.has_right_row.ensures.0 c.if-not-has_right_row.false in
    elim (cases_lt b c.loop-c.c) [
      | inl before ↦ c.loop-c.invariant b low before
      | inr past ↦ let same : c.loop-c.c ≡ b = omega (arith, past, high) in subst (IsRight (g.G.Forward.game c.args.g.now) c.args.self.now.rows.now) same here
    ]

pub returns-then-not-has_right_row : goal.returns-then-not-has_right_row
returns-then-not-has_right_row g c =
    let low : c.args.from ≤ c.loop-c.c = omega arith in
    let high : c.loop-c.c < c.args.to = omega arith in (
      low,
      high,
      λ right. let holds : c.has_right_row.result ≡ true = c.has_right_row.ensures.1 right in cc,
      c.loop-c.invariant,
    )

pub returns : goal.returns
returns g c = λ b low high.
    let done = c.loop-c-test.false in
    c.loop-c.invariant b low (omega arith)
