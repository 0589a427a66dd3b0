-- When the turn changes, by each patrol text that says the same.
use Rattle.std.proofs.Common.{inl, inr, ◌≡◌, ℕ, List, sym, ap, subst}
use Rattle.std.specs.Prelude.{ℤ}
use Rattle.game_core.specs.declared.game.Row.{Row}
use Rattle.temporal_texts.specs.PatrolText.{IsArrivalIn}
use Rattle.text_control.specs.declared.visits.Visit.{Visit}
use Rattle.text_control.specs.declared.visits.Visit.TheVariants.{Next, Same, WrongSize}
use Rattle.controller_table.specs.declared.text_kind.TextKind.{TextKind}
use Rattle.controller_table.specs.declared.text_kind.TextKind.TheVariants.{Patrol}
use Rattle.controller_table.specs.TextRows.{HasTextRow}
use Rattle.controller_table.proofs.TextRows.{row_told}
use Rattle.text_control.specs.Texts.{TextModel, Tells}
use Rattle.text_control.specs.Visits.{turn_after, HasArrivedInTurn, IsVisit, IsVisitByText}
use Rattle.text_control.proofs.OneText.{text_row}

module _ (t : TextModel) (x : List ℤ) (bytes : List ℕ) (tells : Tells bytes t) (patrol : t.kind ≡ Patrol) where
  arrival_in : (a : HasArrivedInTurn t x) → IsArrivalIn bytes t.plant t.turn x a.row
  arrival_in a = record { target = a.target; next = subst (λ (kind : TextKind). HasTextRow kind bytes (turn_after t) x a.row) patrol (text_row bytes t tells x (turn_after t) a.row a.next) }

  pub arrived : (row : Row) → IsArrivalIn bytes t.plant t.turn x row → HasArrivedInTurn t x
  arrived row a = record {
    patrol = patrol;
    target = a.target;
    row = row;
    next = (row_told t.kind bytes t.plant t.turns tells (turn_after t) x row (subst (λ (kind : TextKind). HasTextRow kind bytes (turn_after t) x row) (sym patrol) a.next)).1;
  }

pub visit_by_text : (t : TextModel) (x : List ℤ) (after : TextModel) (visit : Visit) → IsVisit t x after visit → IsVisitByText t x after visit
visit_by_text t x after Next is = λ bytes tells patrol. inl (is.1.row, arrival_in t x bytes tells patrol is.1, ap (λ (m : TextModel). m.turn) is.2)
visit_by_text t x after Same is = λ bytes tells patrol. inr (λ row a. is.1 (arrived t x bytes tells patrol row a), ap (λ (m : TextModel). m.turn) is.2)
visit_by_text t x after WrongSize is = tt
