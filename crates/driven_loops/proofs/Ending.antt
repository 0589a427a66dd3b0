-- A followed loop by the table of a plant: one that is to reach its targets falls in rank with each sample, and
-- one that is to be kept stays in cells with rows.
use Rattle.std.proofs.Common.{◌≡◌, ◌≢◌, ℕ, zero, suc, ◌+◌, ◌<◌, ◌≤◌, List, Some, None, refl, sym, ap, subst, ◌∙◌, arith}
use Rattle.std.specs.Prelude.{ℤ, pos}
use Rattle.std.proofs.lemmas.List.Elements.{All-contains}
use Rattle.std.proofs.lemmas.Option.{none-some, same_Some}
use Rattle.std.specs.List.{All}
use Rattle.game_core.specs.declared.game.Row.{Row}
use Rattle.game_core.specs.declared.game.Mark.TheVariants.{Goal, Obstacle}
use Rattle.game_core.specs.Game.{IsEnabled, mark_of, successors_of}
use Rattle.game_core.specs.Solution.{row_of, HasRowBelow, LeadsToGoals}
use Rattle.game_core.proofs.Promises.{leads_to_goals}
use Rattle.game_core.proofs.Rows.{below_cells}
use Rattle.plant_record.specs.declared.aims.GoalKind.{GoalKind}
use Rattle.plant_record.specs.declared.aims.GoalKind.TheVariants.{Reach, Keep}
use Rattle.plant_record.specs.Description.{Description}
use Rattle.controller_table.specs.Choice.{applied, HasRowAt}
use Rattle.controller_table.specs.TableText.{written_version}
use Rattle.controller_table.specs.declared.text_kind.TextKind.TheVariants.{Table}
use Rattle.controller_table.proofs.Applied.{applies_above_zero, above_zero}
use Rattle.controller_table.proofs.RowsAtStates.{in_cell}
use Rattle.text_control.specs.declared.reply.Reply.{Reply}
use Rattle.text_control.specs.declared.reply.Reply.TheVariants.{Apply, Arrived, NoRow, WrongSizes}
use Rattle.text_control.specs.Texts.{TextModel, due_rows}
use Rattle.text_control.specs.Control.{AreSized, IsReply, reply_number}
use Rattle.driven_loops.specs.LoopPromises.{LoopsEnd, LoopsKeep}
use Rattle.driven_loops.specs.Followed.{IsFollowedLoop}
use Rattle.driven_loops.specs.FollowedLaws.{FollowedTablesEnd, FollowedTablesKeep}
use Rattle.driven_loops.proofs.ReadBack.{HoldsTable, says, holds_table}
use Rattle.driven_loops.proofs.LeadingOn.{LeadOn, HasNext, clear_at, in_target, led}
use Rattle.driven_loops.proofs.RowAnswers.{row_answers, has_rank}
use Rattle.plant_refine.proofs.KeepRows.{cell_below, clear_of, enabled, leads_on}

-- a rank falls with each sample
abbrev Fallen : ℕ → ℕ → ℕ → Type 0
Fallen n r k = k + n ≤ r

module _ (p : Description) (t : TextModel) (goal : p.goal ≡ Reach) (h : HoldsTable Reach p t) where
  abbrev m : TextModel
  m = says (Table written_version) p h.turns

  promised : LeadsToGoals h.game (due_rows m)
  promised = leads_to_goals h.game (due_rows m) h.abstraction.game h.solution

  applies_above : (row : Row) (u : ℕ) → applied p.goal row ≡ Some u → 0 < row.rank
  applies_above row u applies = above_zero row u (subst (λ (g : GoalKind). applied g row ≡ Some u) goal applies)

  descends : (c rank u : ℕ) → row_of (due_rows m) c ≡ Some (record { rank = rank; input = u }) → 0 < rank → IsEnabled h.game c u × All (HasRowBelow (due_rows m) rank) (successors_of h.game c u)
  descends c zero u is some = absurd (omega (arith, some))
  descends c (suc k) u is some = promised.descends c k u is

  no_obstacle : (c : ℕ) (row : Row) → row_of (due_rows m) c ≡ Some row → mark_of h.game c ≢ Obstacle
  no_obstacle c row is marked = let none : row_of (due_rows m) c ≡ None = promised.clear c marked in cc

  pub falling_rows : LeadOn m (HasNext (due_rows m) Fallen)
  falling_rows = record {
    plant = h.plant;
    game = h.game;
    abstraction = h.abstraction;
    below = λ c row is. below_cells (due_rows m) h.game.cells c row h.solution.one_each is;
    clear = no_obstacle;
    enabled = λ c row is applies. (descends c row.rank row.input is (applies_above row row.input applies)).0;
    leads = λ c row is applies d lt among.
        let down = descends c row.rank row.input is (applies_above row row.input applies) in
        let lower = All-contains (HasRowBelow (due_rows m) row.rank) (successors_of h.game c row.input) d down.1 among in
        let less = lower.below in
        (lower.row, lower.is, omega (arith, less));
  }

  applies : (row : Row) → 0 < row.rank → applied p.goal row ≡ Some row.input
  applies row some = ap (λ (g : GoalKind). applied g row) goal ∙ applies_above_zero row some

  arrived : (y before after : List ℤ) (row : Row) → HasRowAt p (due_rows m) y row → row.rank ≡ 0 → AreSized m y before → (reply : Reply) → IsReply m y before after reply → reply_number reply ≡ pos 0
  arrived y before after row has none sized Apply is =
      let c = is.1 in
      let some = applies_above c.row c.input c.applies in
      let same = ap (λ (r : Row). r.rank) (same_Some c.row row (sym c.has ∙ has)) in
      absurd (omega (arith, some, same, none))
  arrived y before after row has none sized Arrived is = refl
  arrived y before after row has none sized NoRow is = absurd (none-some row (sym is.1 ∙ has))
  arrived y before after row has none sized WrongSizes is = absurd (is.0 sized)

  goal_at : (c : ℕ) (row : Row) → row_of (due_rows m) c ≡ Some row → row.rank ≡ 0 → mark_of h.game c ≡ Goal
  goal_at c row is none = promised.arrived c row.input (subst (λ (n : ℕ). row_of (due_rows m) c ≡ Some (record { rank = n; input = row.input })) none is)

  ends : LoopsEnd IsFollowedLoop p m
  unfolding falling_rows
  ends = (
    refl,
    λ x y k samples rank loop.
        let end = led {After = Fallen} falling_rows (λ r. omega arith) (λ n r i j one rest. omega (arith, one, rest)) x y k samples rank loop in
        let last : Row = end.row in (
          clear_at falling_rows y last end.has,
          (
            last.rank,
            has_rank m y last end.has,
            end.after,
            λ some. row_answers m y last end.has (applies last some),
            λ none. (
              in_target falling_rows y last end.has (goal_at _ last (in_cell p (due_rows m) y last end.has).1 none),
              λ before after number sized encodes. encodes.1 ∙ arrived y before after last end.has none sized encodes.0 encodes.2,
            ),
          ),
        ),
  )

pub followed_tables_end : FollowedTablesEnd
followed_tables_end p bytes text t spells goal given read =
    let h = holds_table p bytes text t spells Reach goal given read in
    subst (LoopsEnd IsFollowedLoop p) (sym h.is) (ends p t goal h)

-- any rank may come
abbrev AnyRank : ℕ → ℕ → ℕ → Type 0
AnyRank n r k = Unit {0}

module _ (p : Description) (t : TextModel) (goal : p.goal ≡ Keep) (h : HoldsTable Keep p t) where
  abbrev kept : TextModel
  kept = says (Table written_version) p h.turns

  pub kept_rows : LeadOn kept (HasNext (due_rows kept) AnyRank)
  kept_rows = record {
    plant = h.plant;
    game = h.game;
    abstraction = h.abstraction;
    below = cell_below h.solution;
    clear = clear_of h.solution;
    enabled = λ c row is applies. enabled h.solution c row is;
    leads = λ c row is applies d lt among. let next = leads_on h.solution c row is d lt among in (next.0, next.1, tt);
  }

  keeps : LoopsKeep IsFollowedLoop p kept
  keeps = (
    refl,
    λ x y k samples rank loop.
        let end = led {After = AnyRank} kept_rows (λ r. tt) (λ n r i j one rest. tt) x y k samples rank loop in
        let applies = ap (λ (g : GoalKind). applied g end.row) goal in
        (clear_at kept_rows y end.row end.has, row_answers kept y end.row end.has applies, (end.row.rank, has_rank kept y end.row end.has)),
  )

pub followed_tables_keep : FollowedTablesKeep
followed_tables_keep p bytes text t spells goal given read =
    let h = holds_table p bytes text t spells Keep goal given read in
    subst (LoopsKeep IsFollowedLoop p) (sym h.is) (keeps p t goal h)
