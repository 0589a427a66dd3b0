-- A table's text is the text of one turn.
use Rattle.std.proofs.Common.{◌≡◌, ℕ, List, [], ◌∷◌, Option, refl, sym, subst, arith}
use Rattle.std.proofs.lemmas.List.Elements.{recursion_from_All, All-from_recursion}
use Rattle.game_core.specs.declared.game.Row.{Row}
use Rattle.plant_record.specs.Description.{Description}
use Rattle.plant_record.specs.Limits.{IsWithinLimits}
use Rattle.row_runs.specs.declared.run.TableVersion.{TableVersion}
use Rattle.row_runs.specs.declared.run.TableVersion.TheVariants.{Second}
use Rattle.row_reading.specs.declared.row_rules.TurnRules.{TurnRules}
use Rattle.row_reading.specs.RowsTexts.{AreRowsWithin, AreTurnsWithin}
use Rattle.controller_table.specs.declared.text_kind.TextKind.{TextKind}
use Rattle.controller_table.specs.declared.text_kind.TextKind.TheVariants.{Table}
use Rattle.controller_table.specs.Tables.{RowsFit, IsTableIn}
use Rattle.controller_table.specs.TextKinds.{turn_rules}
use Rattle.controller_table.specs.KindTexts.{table_text, HoldsRows}
use Rattle.controller_table.proofs.Fitting.{within_in}

pub one_within : (rules : TurnRules) (rows : List (Option Row)) → rules.turns ≡ 1 → AreRowsWithin rules.rows rows → AreTurnsWithin rules (rows ∷ [])
one_within rules rows one within = record { one_list_each = sym one; each = All-from_recursion (AreRowsWithin rules.rows) (rows ∷ []) (within, tt) }

pub within_one : (rules : TurnRules) (rows : List (Option Row)) → AreTurnsWithin rules (rows ∷ []) → AreRowsWithin rules.rows rows
within_one rules rows within = (recursion_from_All (AreRowsWithin rules.rows) (rows ∷ []) within.each).0

-- the rows of the only turn
pub only_turn : (rules : TurnRules) (turns : List (List (Option Row))) → rules.turns ≡ 1 → AreTurnsWithin rules turns → (rows : List (Option Row)) × (turns ≡ rows ∷ [])
only_turn rules [] one within = absurd (omega (arith, within.one_list_each, one))
only_turn rules (rows ∷ []) one within = (rows, refl)
only_turn rules (rows ∷ s ∷ turns) one within = absurd (omega (arith, within.one_list_each, one))

-- rows that fit a plant are those of a table of it
pub table_held : (v : TableVersion) (p : Description) (rows : List (Option Row)) → IsWithinLimits p → RowsFit p rows → HoldsRows (record { kind = Table v; plant = p; turns = rows ∷ [] })
table_held v p rows limits fit = record { limits = limits; few = tt; within = one_within (turn_rules (Table v) p) rows refl (within_in Second v p rows fit) }

-- and their text is one
pub as_table : (v : TableVersion) (bytes : List ℕ) (p : Description) (rows : List (Option Row)) → IsWithinLimits p → RowsFit p rows → bytes ≡ table_text v p rows → IsTableIn v bytes p rows
as_table v bytes p rows limits fit text = record { limits = limits; few = tt; within = (table_held v p rows limits fit).within; text = text }

-- rows that the text of a table holds fit its plant
pub rows_held : (v : TableVersion) (kind : TextKind) (p : Description) (turns : List (List (Option Row))) (rows : List (Option Row)) → kind ≡ Table v → turns ≡ rows ∷ [] → AreTurnsWithin (turn_rules kind p) turns → RowsFit p rows
rows_held v kind p turns rows is only within =
    within_in v Second p rows (within_one (turn_rules (Table v) p) rows (subst (λ (x : TextKind × List (List (Option Row))). AreTurnsWithin (turn_rules x.0 p) x.1) (λ i. (is i, only i)) within))
