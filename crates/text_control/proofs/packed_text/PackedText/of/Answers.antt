use Rattle.std.proofs.Common.{◌≡◌, List, Option, sym, subst, ◌∙◌, rules}
use Rattle.std.proofs.lemmas.List.{take_all}
use Rattle.game_core.specs.declared.game.Row.{Row}
use Rattle.controller_table.specs.KindTexts.{HoldsRows}
use Rattle.text_control.proofs.packed_text.PackedText.of.Goals as goal

pub invariant_of-result : goal.invariant_of-result
invariant_of-result c =
    let parts = c.into_parts-kind in
    let holds : List (List (Option Row)) → Type 0 = λ turns. HoldsRows (record { kind = parts.result.0; plant = parts.result.1; turns = turns }) in
    let rows : List (List (Option Row)) = c.rows.inside.answers.items in
    let held : holds rows = subst holds (sym c.rows.view_is) (subst HoldsRows (sym parts.ensures.parts) parts.ensures.holds) in
    let all : c.loop-turn.turns.items ≡ rows = c.loop-turn.invariant ∙ take_all c.loop-turn.turn rows (search rules) in
    record { rows = subst holds (sym all) held; slopes_are = search rules }
