-- Bytes are the table of one plant and of one list of rows.
use Rattle.std.proofs.Common.{◌≡◌, ℕ, List, [], ◌∷◌, Option, sym, ap, ◌∙◌}
use Rattle.game_core.specs.declared.game.Row.{Row}
use Rattle.plant_record.specs.Description.{Description}
use Rattle.base.proofs.Lists.{same_head}
use Rattle.row_runs.specs.declared.run.TableVersion.{TableVersion}
use Rattle.controller_table.specs.declared.text_kind.TextKind.TheVariants.{Table}
use Rattle.controller_table.specs.Tables.{IsTable}
use Rattle.controller_table.specs.Choice.{row_at, choice_at}
use Rattle.controller_table.specs.Laws.{OneChoice, OneRank}
use Rattle.controller_table.proofs.HeadedLaws.{one_text}
use Rattle.std.proofs.lemmas.Option.{same_Some}

-- ---- one table

same_version : (v w : TableVersion) → Table v ≡ Table w → v ≡ w
same_version v w e = cc

pub one_table : (bytes : List ℕ) (p q : Description) (rows others : List (Option Row)) (table : IsTable bytes p rows) (other : IsTable bytes q others) → (p ≡ q) × (rows ≡ others) × (table.0 ≡ other.0)
one_table bytes p q rows others h k =
    let same = one_text (Table h.0) (Table k.0) bytes p q (rows ∷ []) (others ∷ []) h.1 k.1 in
    (same.1, same_head rows others [] [] same.2, same_version h.0 k.0 same.0)

-- ---- one row and one choice at a state

-- tables of the same bytes say the same
same_of : {A : Type 0} (said : Description → List (Option Row) → A) (bytes : List ℕ) (p q : Description) (rows others : List (Option Row)) → IsTable bytes p rows → IsTable bytes q others → said p rows ≡ said q others
same_of said bytes p q rows others h k =
    let same = one_table bytes p q rows others h k in
    ap (said p) same.1 ∙ ap (λ (d : Description). said d others) same.0

pub one_choice : OneChoice
one_choice bytes x u v a b = same_Some u v (sym a.chosen ∙ same_of (λ p rows. choice_at p rows x) bytes a.plant b.plant a.rows b.rows a.table b.table ∙ b.chosen)

pub one_rank : OneRank
one_rank bytes x j k a b =
    let row = same_Some a.row b.row (sym a.has ∙ same_of (λ p rows. row_at p rows x) bytes a.plant b.plant a.rows b.rows a.table b.table ∙ b.has) in
    sym a.ranked ∙ ap (λ (r : Row). r.rank) row ∙ b.ranked
