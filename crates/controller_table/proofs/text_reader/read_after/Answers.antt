use Rattle.std.proofs.Common.{◌≡◌, ◌≤◌, ◌++◌, length-drop, drop, sym, subst, rules, arith}
use Rattle.std.proofs.lemmas.List.{length-take-le, take_rest}
use Rattle.row_reading.specs.declared.row_rules.TurnRules.{TurnRules}
use Rattle.row_reading.proofs.TurnsRead.{line_bound}
use Rattle.base.proofs.Results.{passed_on}
use Rattle.controller_table.specs.declared.text_fault.TextFault.TheVariants.{Memory}
use Rattle.controller_table.specs.TextKinds.{first_line, turn_rules, HasFewTurnsFor}
use Rattle.controller_table.specs.KindTexts.{RowsModel, IsTextOf}
use Rattle.controller_table.specs.HeadedTexts.{Only, AreLinesRefusedFor}
use Rattle.controller_table.proofs.EachKind.{few_cells}
use Rattle.controller_table.proofs.TextsRead.{many_turns, text_told, rows_fault, plant_fault, told_by, refused_by}
use Rattle.controller_table.proofs.text_reader.read_after.Goals as goal

pub returns-in_err-plant-clause-refused : goal.returns-in_err-plant-clause-refused
returns-in_err-plant-clause-refused c =
    passed_on c.from_residual.result c.in_err-plant.field-0.0 (λ fault. (fault ≡ Memory → ⊥) → AreLinesRefusedFor (Only c.args.kind) (first_line c.args.kind ++ c.args.rest.now) fault) c.from_residual.ensures.1
    (plant_fault c.args.kind c.args.rest.now _ c.in_err-plant.ensures.refused)

pub returns-then-not-has_few_turns-clause-refused : goal.returns-then-not-has_few_turns-clause-refused
returns-then-not-has_few_turns-clause-refused c =
    let at = c.in_ok-plant.ensures.read in
    let few = c.has_few_turns.ensures in
    let many = c.if-not-has_few_turns.true in
    λ _. many_turns c.args.kind c.args.rest.now c.in_ok-plant.field-0.plant c.in_ok-plant.field-0.length at.0 at.1 (λ h. (let yes = few.1 h in cc))

pub read_turns-requires-clause-cells : goal.read_turns-requires-clause-cells
read_turns-requires-clause-cells c =
    subst (λ (r : TurnRules). r.rows.cells ≤ 1048576) (sym c.rules.ensures) (few_cells c.args.kind c.in_ok-plant.field-0.plant c.in_ok-plant.ensures.read.1)

pub new-requires : goal.new-requires
new-requires c =
    let p = c.in_ok-plant.field-0.plant in
    let told = told_by _ (turn_rules c.args.kind p) _ (drop c.in_ok-plant.field-0.length c.args.rest.now) _ c.rules.ensures (take_rest c.args.rest.now c.in_ok-plant.field-0.length) c.in-Ok.ensures.read in
    let few : HasFewTurnsFor c.args.kind p = search rules in
    record { limits = c.in_ok-plant.ensures.read.1; few = few; within = told.within }

pub returns-in-Ok-clause-read : goal.returns-in-Ok-clause-read
returns-in-Ok-clause-read c =
    let p = c.in_ok-plant.field-0.plant in
    let length = c.in_ok-plant.field-0.length in
    let at = c.in_ok-plant.ensures.read in
    let few : HasFewTurnsFor c.args.kind p = search rules in
    let told = told_by _ (turn_rules c.args.kind p) _ (drop length c.args.rest.now) _ c.rules.ensures (take_rest c.args.rest.now length) c.in-Ok.ensures.read in
    subst (λ (t : RowsModel). IsTextOf c.args.kind (first_line c.args.kind ++ c.args.rest.now) t.plant t.turns) (sym c.new.ensures) (text_told c.args.kind c.args.rest.now p length at.0 at.1 few c.in-Ok.turns told)

pub after-requires : goal.after-requires
after-requires c = λ line is.
    let p = c.in_ok-plant.field-0.plant in
    let length = c.in_ok-plant.field-0.length in
    let at = c.in_ok-plant.ensures.read in
    let refused = rw is at (refused_by _ (turn_rules c.args.kind p) _ (drop length c.args.rest.now) _ c.rules.ensures (take_rest c.args.rest.now length) c.in-Err.ensures.refused) in
    let bound = line_bound (turn_rules c.args.kind p) (drop length c.args.rest.now) line refused in
    omega (arith, bound, length-drop length c.args.rest.now, length-take-le length c.args.rest.now at.0.within, at.0.within, c.line_count.ensures.bound, c.requires)

pub returns-in-Err-clause-refused : goal.returns-in-Err-clause-refused
returns-in-Err-clause-refused c =
    let p = c.in_ok-plant.field-0.plant in
    let length = c.in_ok-plant.field-0.length in
    let at = c.in_ok-plant.ensures.read in
    let few : HasFewTurnsFor c.args.kind p = search rules in
    let refused = refused_by _ (turn_rules c.args.kind p) _ (drop length c.args.rest.now) c.in-Err.fault c.rules.ensures (take_rest c.args.rest.now length) c.in-Err.ensures.refused in
    let told = rows_fault c.args.kind c.args.rest.now p length at.0 at.1 few c.line_count.result c.line_count.ensures.count c.in-Err.fault refused in
    rw (c.into.ensures, c.after.ensures) told
