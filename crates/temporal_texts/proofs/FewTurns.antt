-- A plant whose bytes are a patrol text has few enough turns.
use Rattle.std.proofs.Common.{◌≡◌, ℕ, List, ◌++◌, Option, sym, subst, ◌∙◌, append_assoc}
use Rattle.game_core.specs.declared.game.Row.{Row}
use Rattle.plant_record.specs.Description.{Description}
use Rattle.plant_record.specs.Limits.{IsWithinLimits}
use Rattle.plant_writing.specs.CanonicalText.{text_of}
use Rattle.plant_text.proofs.lemmas.CanonicalFronts.{one_plant_at_the_front}
use Rattle.controller_table.specs.declared.text_kind.TextKind.TheVariants.{Patrol}
use Rattle.controller_table.specs.TextKinds.{first_line, HasFewTurns}
use Rattle.controller_table.proofs.EachKind.{one_kind}
use Rattle.controller_table.proofs.HeadedLaws.{after_plant}
use Rattle.temporal_texts.specs.PatrolText.{patrol_text, IsPatrolText}

-- the bytes written for a plant begin with the text of no other
pub few_turns : (p q : Description) (rows others : List (List (Option Row))) → IsWithinLimits p → IsPatrolText (patrol_text p rows) q others → HasFewTurns p
few_turns p q rows others within text =
    let mine : List ℕ = after_plant Patrol p rows in
    let other : List ℕ = after_plant Patrol q others in
    let after = one_kind Patrol Patrol (text_of p ++ mine) (text_of q ++ other) (sym (append_assoc (first_line Patrol) (text_of p) mine) ∙ text.text ∙ append_assoc (first_line Patrol) (text_of q) other) in
    let same = one_plant_at_the_front p q mine other within.plant text.limits.plant after.1 in
    subst HasFewTurns (sym same.0) text.few
