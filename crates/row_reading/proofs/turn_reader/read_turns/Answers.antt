use Rattle.std.proofs.Common.{◌≡◌, ◌+◌, List, [], ◌∷◌, ◌++◌, length, length-append, ℕ, ap, subst, sym, ◌∙◌, rules, arith}
use Rattle.std.specs.Prelude.{codes}
use Rattle.std.specs.List.{concat}
use Rattle.std.proofs.lemmas.List.{nil_from_length}
use Rattle.row_reading.specs.RowsTexts.{lines_from, AreTurnsText}
use Rattle.row_reading.specs.TurnSteps.{AreTurnsRefusedAt, IsRefusedAt}
use Rattle.row_reading.specs.inside.ReadTurns.{IsTurnRefused, AreTurnsRead}
use Rattle.row_reading.proofs.Further.{fault_on}
use Rattle.row_reading.proofs.TurnsRead.{nothing_read, lines_are_few, turn_read, turn_refused, no_end, more_after, whole_text, line_bound}
use Rattle.row_reading.proofs.turn_reader.read_turns.Goals as goal

pub loop-turn-init : goal.loop-turn-init
loop-turn-init c = let none : c.new-answers.result.items ≡ [] = search rules in subst (AreTurnsRead _ 0 0 _ _) (sym none) (nothing_read _ _)

pub take_turn-requires-clause-size : goal.take_turn-requires-clause-size
take_turn-requires-clause-size c =
    omega (arith, ap length c.loop-turn.invariant.text, length-append (concat (lines_from c.args.rules 0 c.loop-turn.answers.items)) c.loop-turn.rest.now, c.requires.size)

pub overflow_add-lines-in-Ok : goal.overflow_add-lines-in-Ok
overflow_add-lines-in-Ok c =
    let more = turn_read c.args.rules c.args.bytes.now c.loop-turn.turn c.loop-turn.lines c.loop-turn.rest.now c.loop-turn.answers.items c.loop-turn.invariant c.in-Ok.count c.in-Ok.answer c.in-Ok.after.now c.in-Ok.ensures.read in
    let few = lines_are_few c.args.rules c.args.bytes.now (c.loop-turn.turn + 1) (c.loop-turn.lines + (1 + c.in-Ok.count)) c.in-Ok.after.now (c.loop-turn.answers.items ++ c.in-Ok.answer ∷ []) more (omega (arith, c.loop-turn-test.true)) in
    omega (arith, few, c.requires.size)

pub loop-turn-preserved : goal.loop-turn-preserved
loop-turn-preserved c =
    let pushed : c.push.new.self.items ≡ c.loop-turn.answers.items ++ c.in-Ok.answer ∷ [] = search rules in
    subst (AreTurnsRead c.args.rules (c.loop-turn.turn + 1) (c.loop-turn.lines + (1 + c.in-Ok.count)) c.args.bytes.now c.in-Ok.after.now) (sym pushed)
    (turn_read c.args.rules c.args.bytes.now c.loop-turn.turn c.loop-turn.lines c.loop-turn.rest.now c.loop-turn.answers.items c.loop-turn.invariant c.in-Ok.count c.in-Ok.answer c.in-Ok.after.now c.in-Ok.ensures.read)

pub after-requires : goal.after-requires
after-requires c = λ line is.
    let refused = rw is at c.in-Err.ensures.refused in
    let all = turn_refused c.args.rules c.args.bytes.now c.loop-turn.turn c.loop-turn.lines c.loop-turn.rest.now c.loop-turn.answers.items c.loop-turn.invariant c.loop-turn-test.true line refused in
    omega (arith, line_bound c.args.rules c.args.bytes.now (c.loop-turn.lines + line) all, c.requires.size)

pub returns-in-Err-clause-refused : goal.returns-in-Err-clause-refused
returns-in-Err-clause-refused c =
    subst (IsRefusedAt (AreTurnsRefusedAt c.args.rules c.args.bytes.now)) (sym c.after.ensures)
    (fault_on (IsTurnRefused c.args.rules c.loop-turn.turn c.loop-turn.rest.now) (AreTurnsRefusedAt c.args.rules c.args.bytes.now) c.loop-turn.lines
    (turn_refused c.args.rules c.args.bytes.now c.loop-turn.turn c.loop-turn.lines c.loop-turn.rest.now c.loop-turn.answers.items c.loop-turn.invariant c.loop-turn-test.true) c.in-Err.fault c.in-Err.ensures.refused)

pub new-requires : goal.new-requires
new-requires c = let size = c.loop-turn.invariant.size in omega (arith, size, c.loop-turn.auto.turn-end)

pub overflow_add-result : goal.overflow_add-result
overflow_add-result c =
    let few = lines_are_few c.args.rules c.args.bytes.now c.loop-turn.turn c.loop-turn.lines c.loop-turn.rest.now c.loop-turn.answers.items c.loop-turn.invariant c.loop-turn.auto.turn-end in
    omega (arith, few, c.requires.size)

pub overflow_add-result-in-None : goal.overflow_add-result-in-None
overflow_add-result-in-None c =
    let few = lines_are_few c.args.rules c.args.bytes.now c.loop-turn.turn c.loop-turn.lines c.loop-turn.rest.now c.loop-turn.answers.items c.loop-turn.invariant c.loop-turn.auto.turn-end in
    omega (arith, few, c.requires.size)

pub returns-in-Some-empty-clause-read : goal.returns-in-Some-empty-clause-read
returns-in-Some-empty-clause-read c =
    let none : c.in-Some-empty.field-0.now ≡ [] = nil_from_length c.in-Some-empty.field-0.now (omega (arith, c.in-Some-empty.len_below)) in
    let all : c.loop-turn.turn ≡ c.args.rules.turns = omega (arith, c.loop-turn-test.false, c.loop-turn.auto.turn-end) in
    subst (AreTurnsText c.args.rules c.args.bytes.now) (sym c.new.ensures)
    (whole_text c.args.rules c.args.bytes.now c.loop-turn.turn c.loop-turn.lines c.loop-turn.rest.now c.loop-turn.answers.items c.loop-turn.invariant all (c.in-Some-empty.ensures ∙ ap (λ (x : List ℕ). codes "end\n" ++ x) none))

pub returns-in-Some-clause-refused : goal.returns-in-Some-clause-refused
returns-in-Some-clause-refused c =
    more_after c.args.rules c.args.bytes.now c.loop-turn.turn c.loop-turn.lines c.loop-turn.rest.now c.loop-turn.answers.items c.loop-turn.invariant (omega (arith, c.loop-turn-test.false, c.loop-turn.auto.turn-end))
    c.in-Some.field-0.now (λ none. omega (arith, ap length none, c.in-Some.len_at_least)) c.in-Some.ensures

pub returns-in-None-clause-refused : goal.returns-in-None-clause-refused
returns-in-None-clause-refused c =
    no_end c.args.rules c.args.bytes.now c.loop-turn.turn c.loop-turn.lines c.loop-turn.rest.now c.loop-turn.answers.items c.loop-turn.invariant (omega (arith, c.loop-turn-test.false, c.loop-turn.auto.turn-end)) c.in-None.ensures
