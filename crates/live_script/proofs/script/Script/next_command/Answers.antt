use Rattle.std.proofs.Common.{◌≡◌, ℕ, false, true, List, [], length, inl, refl, sym, ap, ◌∙◌, arith, rules}
use Rattle.std.specs.Prelude.{◌==◌}
use Rattle.live_script.proofs.Taking.{table_taken, question_taken}
use Rattle.live_script.proofs.script.Script.next_command.Goals as goal
use Rattle.live_script.proofs.script.Script.next_command.Goals.{else-is_empty-via-then-is_empty+else-self-gt0, else-is_empty-via-else-is_empty}

pub returns-in-Some-clause-taken : goal.returns-in-Some-clause-taken
returns-in-Some-clause-taken c =
    rw (← c.self.view_is) (table_taken c.self.inside.tables c.self.inside.line c.in-Some.size c.self.inside.rest.now c.in-Some.after.now c.in_ok-table.text.now c.in_ok-table.rest.now c.in_ok-table.table c.line_count.result c.in-Some.ensures c.in_ok-table.ensures.few c.in_ok-table.ensures.table c.in_ok-table.ensures.cut.0 c.in_ok-table.ensures.cut.1 c.line_count.ensures.count)

pub returns-in_default-question_after-clause-refused : goal.returns-in_default-question_after-clause-refused
returns-in_default-question_after-clause-refused c = λ _.
    let s = c.self.inside in
    let unfinished : s.rest.now ≡ [] → s.tables ≡ 0 = λ none. elim c.else-is_empty.branch [
      | else-is_empty-via-then-is_empty+else-self-gt0 w ↦ omega (arith, w.if-self-gt0.false)
      | else-is_empty-via-else-is_empty w ↦ (let clash : false ≡ true = sym w.if-is_empty.false ∙ c.is_empty.ensures ∙ ap (λ (bytes : List ℕ). length bytes == 0) none in cc)
    ] in
    rw (← c.self.view_is) (inl (
      refl,
      record {
        unfinished = unfinished;
        no_table = λ size after told _. c.in_default.ensures (size, after) told;
        no_question = λ numbers after some question at. c.in_default-question_after.ensures (numbers, after) (some, (question, at));
      },
    ))

pub returns-clause-taken : goal.returns-clause-taken
returns-clause-taken c =
    let s = c.self.inside in
    let found = c.in-Some-question_after in
    let taken = question_taken s.tables s.line s.rest.now found.rest.now found.question found.ensures.0 found.ensures.1.0 found.ensures.1.1 in
    rw (← c.self.view_is) (search (rules, taken))
