-- A followed loop by the text of reach and stay falls in rank with each sample, down to 0, and stays there.
use Rattle.std.proofs.Common.{ℕ, ◌-◌, ◌≤◌, refl, sym, subst, arith}
use Rattle.plant_record.specs.Description.{Description}
use Rattle.temporal_promises.proofs.Settling.{cell_below, stayed, clear_of, goal_of, leads_lower}
use Rattle.controller_table.proofs.RowsAtStates.{in_cell}
use Rattle.controller_table.specs.declared.text_kind.TextKind.TheVariants.{Stay}
use Rattle.text_control.specs.Texts.{TextModel, due_rows}
use Rattle.driven_loops.specs.Followed.{IsFollowedLoop}
use Rattle.driven_loops.specs.LoopPromises.{LoopsSettle}
use Rattle.driven_loops.specs.FollowedLaws.{FollowedStayTextsSettle}
use Rattle.driven_loops.proofs.ReadBack.{HoldsStay, says, holds_stay}
use Rattle.driven_loops.proofs.LeadingOn.{LeadOn, HasNext, clear_at, in_target, led}
use Rattle.driven_loops.proofs.RowAnswers.{row_answers, has_rank}

-- a rank falls with each sample, down to 0
abbrev FallenToZero : ℕ → ℕ → ℕ → Type 0
FallenToZero n r k = k ≤ r - n

module _ (p : Description) (t : TextModel) (h : HoldsStay p t) where
  abbrev m : TextModel
  m = says Stay p h.turns

  pub settling_rows : LeadOn m (HasNext (due_rows m) FallenToZero)
  settling_rows = record {
    plant = h.plant;
    game = h.game;
    abstraction = h.abstraction;
    below = cell_below h.solution;
    clear = clear_of h.solution;
    enabled = λ c row is applies. (stayed h.solution c row is).leads.0;
    leads = λ c row is applies. leads_lower h.solution c row is;
  }

  settles : LoopsSettle IsFollowedLoop p m
  unfolding settling_rows
  settles = (
    refl,
    λ x y k samples rank loop.
        let end = led {After = FallenToZero} settling_rows (λ r. omega arith) (λ n r i j one rest. omega (arith, one, rest)) x y k samples rank loop in
        let low = end.after in (
          clear_at settling_rows y end.row end.has,
          row_answers m y end.row end.has refl,
          λ le. in_target settling_rows y end.row end.has (goal_of h.solution _ end.row (in_cell p (due_rows m) y end.row end.has).1 (omega (arith, le, low))),
          (end.row.rank, has_rank m y end.row end.has, low),
        ),
  )

pub followed_stay_texts_settle : FollowedStayTextsSettle
followed_stay_texts_settle p bytes text t spells given read =
    let h = holds_stay p bytes text t spells given read in
    subst (LoopsSettle IsFollowedLoop p) (sym h.is) (settles p t h)
