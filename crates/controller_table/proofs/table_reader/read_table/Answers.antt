use Rattle.std.proofs.Common.{inl, ℕ, List, Option, refl, sym, subst, ◌∙◌}
use Rattle.game_core.specs.declared.game.Row.{Row}
use Rattle.plant_record.specs.Description.{Description}
use Rattle.row_runs.specs.declared.run.TableVersion.{TableVersion}
use Rattle.controller_table.specs.declared.text_kind.TextKind.TheVariants.{Table}
use Rattle.controller_table.specs.declared.table_fault.TableFault.TheVariants as tables
use Rattle.controller_table.specs.KindTexts.{IsTextOf}
use Rattle.controller_table.specs.HeadedTexts.{AnyTable}
use Rattle.controller_table.proofs.TextsRead.{no_table_begins, never_many, refused_among}
use Rattle.controller_table.proofs.OneRefusal.{same_fault}
use Rattle.controller_table.proofs.table_reader.read_table.Goals as goal

pub returns-in_default-clause-refused : goal.returns-in_default-clause-refused
returns-in_default-clause-refused c = λ _. (c.if-bytes-gt-TABLE_LIMIT.false, inl (refl, no_table_begins c.args.bytes.now c.in_default.ensures))

pub without_turns-requires : goal.without_turns-requires
without_turns-requires c = λ turns.
    let refused = rw turns at c.in-Err.ensures.refused in
    never_many (Table c.in-Some.version) _ (λ p. tt) (refused (λ e. cc))

pub returns-in-Ok-clause-read : goal.returns-in-Ok-clause-read
returns-in-Ok-clause-read c =
    let told = c.of.ensures.table in
    subst (λ (x : TableVersion × List ℕ × Description × List (List (Option Row))). IsTextOf (Table x.0) x.1 x.2 x.3) (λ i. (sym told.0 i, sym c.in-Some.ensures i, sym told.1 i, c.of.ensures.rows i)) c.in-Ok.ensures.read

pub returns-in-Err-clause-refused : goal.returns-in-Err-clause-refused
returns-in-Err-clause-refused c = λ some.
    let told = c.without_turns.ensures in
    let refused = c.in-Err.ensures.refused (λ memory. some (same_fault c.without_turns.result tables.Memory (told ∙ memory))) in
    rw told (refused_among AnyTable (Table c.in-Some.version) c.args.bytes.now c.in-Some.rest.now c.if-bytes-gt-TABLE_LIMIT.false tt c.in-Some.ensures c.in-Err.fault refused)
