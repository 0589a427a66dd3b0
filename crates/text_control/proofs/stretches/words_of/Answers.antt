use Rattle.std.proofs.Common.{◌≡◌, ◌+◌, ℕ, List, Vec, Global, length, refl, sym, ap, subst, ◌∙◌, arith}
use Rattle.text_control.proofs.Told.{ToldBelow, told_same, told_more, told_all}
use Rattle.text_control.proofs.stretches.words_of.Goals as goal
use Rattle.text_control.proofs.stretches.words_of.Goals.{then-not-goes_on+in_ok-push, else-not-goes_on}

pub loop-cell-preserved : goal.loop-cell-preserved
loop-cell-preserved c =
    let rows = c.args.answer.now in
    let cell : ℕ = c.loop-cell.cell in
    let words = c.loop-cell.words.items in
    elim c.if-not-goes_on.branch [
      | then-not-goes_on+in_ok-push w ↦
          subst (λ (ws : List ℕ). ToldBelow rows ws (cell + 1)) (sym (ap (λ (v : Vec ℕ Global). v.items) w.words-is ∙ w.in_ok-push.ensures.items))
          (told_more rows words w.word_of.result cell c.loop-cell.invariant w.word_of.ensures.cell (w.word_of.ensures.row ∙ w.row.ensures))
      | else-not-goes_on w ↦
          let on = w.if-not-goes_on.ensures.0 refl in
          subst (λ (ws : List ℕ). ToldBelow rows ws (cell + 1)) (sym (ap (λ (v : Vec ℕ Global). v.items) w.words-is)) (told_same rows words cell c.loop-cell.invariant on.0 on.1)
    ]

pub returns-clause-rows : goal.returns-clause-rows
returns-clause-rows c =
    let rows = c.args.answer.now in
    let all : c.loop-cell.cell ≡ length rows = omega (arith, c.loop-cell-test.false, c.loop-cell.auto.cell-end, c.cells-cell-end.ensures) in
    told_all rows c.loop-cell.words.items (subst (ToldBelow rows c.loop-cell.words.items) all c.loop-cell.invariant)
