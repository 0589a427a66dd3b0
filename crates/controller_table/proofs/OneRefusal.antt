-- A text has one reason to be refused as a table, none where it is one, and no text is neither.
use Rattle.std.proofs.Common.{◌≡◌, ℕ, List, [], ◌∷◌, Option, refl, sym, ap, subst, ◌∙◌}
use Rattle.game_core.specs.declared.game.Row.{Row}
use Rattle.plant_record.specs.Description.{Description}
use Rattle.controller_table.specs.declared.table_fault.TableFault.{TableFault}
use Rattle.controller_table.specs.declared.table_fault.TableFault.TheVariants as tables
use Rattle.controller_table.specs.declared.text_fault.TextFault.{TextFault}
use Rattle.controller_table.specs.declared.text_fault.TextFault.TheVariants as faults
use Rattle.controller_table.specs.declared.text_kind.TextKind.{TextKind}
use Rattle.controller_table.specs.declared.text_kind.TextKind.TheVariants.{Table, Stay, Patrol}
use Rattle.controller_table.specs.TextKinds.{turn_rules, HasFewTurnsFor}
use Rattle.controller_table.specs.KindTexts.{IsTextOf}
use Rattle.controller_table.specs.HeadedTexts.{AnyTable, Accept, IsTextRefusedFor, text_fault}
use Rattle.controller_table.specs.Tables.{IsTable}
use Rattle.controller_table.specs.TableRefusals.{IsTableRefusedFor}
use Rattle.controller_table.proofs.HeadedLaws as headed
use Rattle.controller_table.proofs.TableTexts.{only_turn}

-- ---- one reason

fault_of : TextFault → TableFault
fault_of (faults.Malformed line) = tables.Malformed line
fault_of (faults.Limit what) = tables.Limit what
fault_of faults.Turns = tables.Memory
fault_of faults.Memory = tables.Memory

back : (f : TableFault) → fault_of (text_fault f) ≡ f
unfolding fault_of
back (tables.Malformed line) = refl
back (tables.Limit what) = refl
back tables.Memory = refl

pub same_fault : (f g : TableFault) → text_fault f ≡ text_fault g → f ≡ g
same_fault f g e = sym (back f) ∙ ap fault_of e ∙ back g

pub one_table_refusal : (bytes : List ℕ) (f g : TableFault) → IsTableRefusedFor bytes f → IsTableRefusedFor bytes g → f ≡ g
one_table_refusal bytes f g h k = same_fault f g (headed.one_refusal AnyTable bytes (text_fault f) (text_fault g) h k)

-- ---- never both

pub no_table_is_refused : (bytes : List ℕ) (p : Description) (rows : List (Option Row)) (f : TableFault) → IsTable bytes p rows → IsTableRefusedFor bytes f → ⊥
no_table_is_refused bytes p rows f t refused = headed.no_text_is_refused AnyTable (Table t.0) bytes p (rows ∷ []) (text_fault f) tt t.1 refused

-- ---- never neither

-- a table has no limit on its turns
few_turns : (kind : TextKind) (p : Description) → Accept AnyTable kind → HasFewTurnsFor kind p
few_turns (Table version) p accepted = tt
few_turns Stay p accepted = tt
few_turns Patrol p accepted = absurd accepted

module _ (bytes : List ℕ) (no_table : (p : Description) (rows : List (Option Row)) → IsTable bytes p rows → ⊥) (no_refusal : (f : TableFault) → IsTableRefusedFor bytes f → ⊥) where
  no_text : (kind : TextKind) (p : Description) (turns : List (List (Option Row))) → Accept AnyTable kind → IsTextOf kind bytes p turns → ⊥
  no_text (Table version) p turns accepted t =
      let only = only_turn (turn_rules (Table version) p) turns refl t.within in
      no_table p only.0 (version, subst (IsTextOf (Table version) bytes p) only.1 t)
  no_text Stay p turns accepted t = accepted
  no_text Patrol p turns accepted t = accepted

  no_fault : (f : TextFault) → IsTextRefusedFor AnyTable bytes f → ⊥
  no_fault (faults.Malformed line) h = no_refusal (tables.Malformed line) h
  no_fault (faults.Limit what) h = no_refusal (tables.Limit what) h
  no_fault faults.Turns h = h.1.many (few_turns h.1.kind h.1.plant h.1.accepted)
  no_fault faults.Memory h = h.1

  pub no_table_is_neither : ⊥
  no_table_is_neither = headed.no_text_is_neither AnyTable bytes no_text no_fault
