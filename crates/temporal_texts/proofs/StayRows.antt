-- A stay text is the text of its kind, of one turn.
use Rattle.std.proofs.Common.{◌≡◌, List, [], ◌∷◌, Option, refl, subst}
use Rattle.game_core.specs.declared.game.Row.{Row}
use Rattle.plant_record.specs.Description.{Description}
use Rattle.plant_record.specs.Limits.{IsWithinLimits}
use Rattle.row_reading.specs.RowsTexts.{AreRowsWithin, AreTurnsWithin}
use Rattle.controller_table.specs.declared.text_kind.TextKind.{TextKind}
use Rattle.controller_table.specs.declared.text_kind.TextKind.TheVariants.{Stay}
use Rattle.controller_table.specs.TextKinds.{stay_rules, turn_rules}
use Rattle.controller_table.specs.KindTexts.{HoldsRows}
use Rattle.controller_table.proofs.TableTexts.{one_within, within_one}

-- rows that fit a plant are those of a stay text of it
pub stay_held : (p : Description) (rows : List (Option Row)) → IsWithinLimits p → AreRowsWithin (stay_rules p) rows → HoldsRows (record { kind = Stay; plant = p; turns = rows ∷ [] })
stay_held p rows limits within = record { limits = limits; few = tt; within = one_within (turn_rules Stay p) rows refl within }

-- rows that a stay text holds fit its plant
pub rows_held : (kind : TextKind) (p : Description) (turns : List (List (Option Row))) (rows : List (Option Row)) → kind ≡ Stay → turns ≡ rows ∷ [] → AreTurnsWithin (turn_rules kind p) turns → AreRowsWithin (stay_rules p) rows
rows_held kind p turns rows is only within =
    within_one (turn_rules Stay p) rows (subst (λ (x : TextKind × List (List (Option Row))). AreTurnsWithin (turn_rules x.0 p) x.1) (λ i. (is i, only i)) within)
