use Rattle.std.proofs.Common.{◌≡◌, length, sym, ap, ◌∙◌, subst, Option, Some, None}
use Rattle.std.specs.Prelude.{IfSome}
use Rattle.plant_record.specs.Description.{Description}
use Rattle.controller_table.specs.Tables.{TableModel}
use Rattle.live_script.specs.Questions.{answer_of}
use Rattle.live_run.proofs.TablesMore.{answers_choice, by_readers}
use Rattle.live_run.proofs.session.Session.answer.Goals as goal
use Rattle.live_run.proofs.session.Session.answer.Goals.{in-Some, in-None, in-Some-answered, in-None-answered}

pub returns-clause-answer : goal.returns-clause-answer
returns-clause-answer c =
    let s = c.self.inside in
    let t = c.in_ok-table.table.now in
    let numbers = c.args.question.now in
    let result = c.match-answered.result in
    let size : length numbers ≡ length t.plant.states = sym c.count.ensures ∙ c.if-count-states.false ∙ c.states.ensures ∙ ap (λ (p : Description). length p.states) c.plant.ensures in
    let answered : result ≡ answer_of t numbers = elim c.match-answered.branch [
      | in-Some-answered w ↦ elim c.match-self.branch [
        | in-Some x ↦ rw w.result-is (by_readers x.in-Some.readers s.readers s.count s.table t numbers c.point-point.result x.choice-answered.result w.in-Some-answered.choice
            c.self.invariant.1 x.in-Some.is c.in_ok-table.ensures.value size c.point-point.ensures x.choice-answered.ensures.answer (sym x.answered-is ∙ w.in-Some-answered.is))
        | in-None x ↦ (let clash : None ≡ Some w.in-Some-answered.choice = sym x.answered-is ∙ w.in-Some-answered.is in absurd (cc))
      ]
      | in-None-answered w ↦ rw w.result-is (w.choice.ensures ∙ answers_choice t numbers c.point-point.result size c.point-point.ensures)
    ] in
    rw (← c.self.view_is) (subst (λ (o : Option TableModel). IfSome o (λ table. result ≡ answer_of table numbers)) c.in_ok-table.ensures.value answered)
