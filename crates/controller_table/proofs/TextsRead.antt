-- What is read after the first line of a text, and why it is refused.
use Rattle.std.proofs.Common.{inl, inr, ◌≡◌, ℕ, ◌+◌, ◌≤◌, List, ◌++◌, length, take, drop, cond, Option, refl, sym, ap, subst, ◌∙◌, append_assoc}
use Rattle.std.specs.Prelude.{◌==◌}
use Rattle.std.proofs.lemmas.List.{take-append-drop}
use Rattle.std.proofs.lemmas.List.Sums.{sum_by-append}
use Rattle.game_core.specs.declared.game.Row.{Row}
use Rattle.plant_record.specs.declared.limit_kind.LimitKind.TheVariants.{PlantText, TableText, Vectors, Cells, Pairs, Edges}
use Rattle.plant_record.specs.Description.{Description}
use Rattle.plant_record.specs.Limits.{IsWithinLimits}
use Rattle.plant_writing.specs.CanonicalText.{text_of}
use Rattle.plant_text.specs.declared.plant_fault.PlantFault.{PlantFault}
use Rattle.plant_text.specs.declared.plant_fault.PlantFault.TheVariants as front
use Rattle.plant_text.specs.CanonicalFronts.{IsFront, IsFrontRefusedFor}
use Rattle.row_runs.specs.declared.run.TableVersion.{TableVersion}
use Rattle.row_runs.specs.declared.run.TableVersion.TheVariants.{First, Second}
use Rattle.row_reading.specs.declared.row_fault.RowFault.{RowFault}
use Rattle.row_reading.specs.declared.row_fault.RowFault.TheVariants as rows
use Rattle.row_reading.specs.declared.row_rules.TurnRules.{TurnRules}
use Rattle.row_reading.specs.Counting.{line_count}
use Rattle.row_reading.specs.RowsTexts.{AreTurnsText}
use Rattle.row_reading.specs.TurnSteps.{AreTurnsRefusedAt, IsRefusedAt, fault_after}
use Rattle.controller_table.specs.declared.text_kind.TextKind.{TextKind}
use Rattle.controller_table.specs.declared.text_kind.TextKind.TheVariants.{Table, Stay, Patrol}
use Rattle.controller_table.specs.declared.text_fault.TextFault.{TextFault}
use Rattle.controller_table.specs.declared.text_fault.TextFault.TheVariants as faults
use Rattle.controller_table.specs.TextKinds.{first_line, turn_rules, HasFewTurnsFor}
use Rattle.controller_table.specs.KindTexts.{IsTextOf}
use Rattle.controller_table.specs.HeadedTexts.{Kinds, AnyTable, Only, Accept, most_bytes_of, HasNoFirstLine, IsPlantRefusedFor, HasManyTurns, AreRowsRefusedAt, AreLinesRefusedFor, IsTextRefusedFor, fault_of_rows}
use Rattle.controller_table.specs.inside.TextReading.{IsPlantRefused}

-- ---- the first line

pub no_kind : (bytes : List ℕ) → ((rest : List ℕ) → bytes ≡ first_line (Table Second) ++ rest → ⊥) → ((rest : List ℕ) → bytes ≡ first_line (Table First) ++ rest → ⊥) → ((rest : List ℕ) → bytes ≡ first_line Stay ++ rest → ⊥)
    → ((rest : List ℕ) → bytes ≡ first_line Patrol ++ rest → ⊥) → (y : TextKind × List ℕ) → bytes ≡ first_line y.0 ++ y.1 → ⊥
no_kind bytes second first stay patrol (Table First, rest) h = first rest h
no_kind bytes second first stay patrol (Table Second, rest) h = second rest h
no_kind bytes second first stay patrol (Stay, rest) h = stay rest h
no_kind bytes second first stay patrol (Patrol, rest) h = patrol rest h

pub no_table_begins : (bytes : List ℕ) → ((y : TableVersion × List ℕ) → bytes ≡ first_line (Table y.0) ++ y.1 → ⊥) → HasNoFirstLine AnyTable bytes
no_table_begins bytes none (Table version) accepted first = none (version, first.0) first.1
no_table_begins bytes none Stay accepted first = accepted
no_table_begins bytes none Patrol accepted first = accepted

-- it is one line
one : (kind : TextKind) → line_count (first_line kind) ≡ 1
one (Table First) = refl
one (Table Second) = refl
one Stay = refl
one Patrol = refl

counted : (kind : TextKind) (x : List ℕ) → line_count (first_line kind ++ x) ≡ 1 + line_count x
counted kind x = sum_by-append (λ (b : ℕ). cond (b == 10) 1 0) (first_line kind) x ∙ ap (λ (n : ℕ). n + line_count x) (one kind)

-- ---- what stands after it

module _ (kind : TextKind) (rest : List ℕ) (p : Description) (count : ℕ) (at : IsFront rest p count) (limits : IsWithinLimits p) where
  abbrev bytes : List ℕ
  bytes = first_line kind ++ rest

  are : bytes ≡ first_line kind ++ text_of p ++ drop count rest
  are =
      ap (λ (x : List ℕ). first_line kind ++ x) (sym (take-append-drop count rest) ∙ ap (λ (x : List ℕ). x ++ drop count rest) at.text)
      ∙ sym (append_assoc (first_line kind) (text_of p) (drop count rest))

  pub many_turns : (HasFewTurnsFor kind p → ⊥) → HasManyTurns (Only kind) bytes
  many_turns many = record { kind = kind; accepted = refl; plant = p; limits = limits; rest = drop count rest; are = are; many = many }

  pub text_told : HasFewTurnsFor kind p → (turns : List (List (Option Row))) → AreTurnsText (turn_rules kind p) (drop count rest) turns → IsTextOf kind bytes p turns
  text_told few turns told = record { limits = limits; few = few; within = told.within; text = are ∙ ap (λ (x : List ℕ). first_line kind ++ text_of p ++ x) told.text }

  pub rows_refused : HasFewTurnsFor kind p → (line lines : ℕ) → lines ≡ line_count (take count rest) → AreTurnsRefusedAt (turn_rules kind p) (drop count rest) line → AreRowsRefusedAt (Only kind) bytes (1 + lines + line)
  rows_refused few line lines before refused = record {
    kind = kind;
    accepted = refl;
    plant = p;
    limits = limits;
    few = few;
    rest = drop count rest;
    are = are;
    line = line;
    refused = refused;
    number = ap (λ (n : ℕ). n + line) (ap (λ (n : ℕ). 1 + n) (before ∙ ap line_count at.text) ∙ sym (counted kind (text_of p)));
  }

  pub rows_fault : HasFewTurnsFor kind p → (lines : ℕ) → lines ≡ line_count (take count rest) → (fault : RowFault) → IsRefusedAt (AreTurnsRefusedAt (turn_rules kind p) (drop count rest)) fault
      → (fault_of_rows (fault_after (1 + lines) fault) ≡ faults.Memory → ⊥) → AreLinesRefusedFor (Only kind) bytes (fault_of_rows (fault_after (1 + lines) fault))
  rows_fault few lines before (rows.Malformed line) refused some = inr (inr (rows_refused few line lines before refused))
  rows_fault few lines before rows.Memory refused some = absurd (some refl)

pub plant_refused : (kind : TextKind) (rest : List ℕ) (fault : PlantFault) → IsFrontRefusedFor rest fault → IsPlantRefusedFor (Only kind) (first_line kind ++ rest) fault
plant_refused kind rest fault refused = record { kind = kind; accepted = refl; rest = rest; are = refl; refused = refused }

pub plant_fault : (kind : TextKind) (rest : List ℕ) (fault : TextFault) → IsPlantRefused rest fault → (fault ≡ faults.Memory → ⊥) → AreLinesRefusedFor (Only kind) (first_line kind ++ rest) fault
plant_fault kind rest (faults.Malformed n) h some = inr (inl (h.0, h.1, plant_refused kind rest (front.Malformed h.0) h.2))
plant_fault kind rest (faults.Limit what) h some = plant_refused kind rest (front.Limit what) h
plant_fault kind rest faults.Turns h some = absurd h
plant_fault kind rest faults.Memory h some = absurd (some refl)

-- what is read by rules is read by equal ones, of equal bytes
pub told_by : (r s : TurnRules) (x y : List ℕ) (turns : List (List (Option Row))) → r ≡ s → x ≡ y → AreTurnsText r x turns → AreTurnsText s y turns
told_by r s x y turns e same told = subst (λ (z : List ℕ). AreTurnsText s z turns) same (subst (λ (q : TurnRules). AreTurnsText q x turns) e told)

pub refused_by : (r s : TurnRules) (x y : List ℕ) (fault : RowFault) → r ≡ s → x ≡ y → IsRefusedAt (AreTurnsRefusedAt r x) fault → IsRefusedAt (AreTurnsRefusedAt s y) fault
refused_by r s x y fault e same refused = subst (λ (z : List ℕ). IsRefusedAt (AreTurnsRefusedAt s z) fault) same (subst (λ (q : TurnRules). IsRefusedAt (AreTurnsRefusedAt q x) fault) e refused)

-- a kind that has no limit on its turns has no text with too many
pub never_many : (kind : TextKind) (all : List ℕ) → ((p : Description) → HasFewTurnsFor kind p) → HasManyTurns (Only kind) all → ⊥
never_many kind all few h = h.many (subst (λ (k : TextKind). HasFewTurnsFor k h.plant) (sym h.accepted) (few h.plant))

-- ---- why a text is refused where its kind is accepted

module _ (kinds : Kinds) (kind : TextKind) (bytes rest : List ℕ) (short : length bytes ≤ most_bytes_of kinds) (accepted : Accept kinds kind) (begun : bytes ≡ first_line kind ++ rest) where
  among : (k : TextKind) → k ≡ kind → Accept kinds k
  among k is = subst (Accept kinds) (sym is) accepted

  no_plant : (f : PlantFault) → IsPlantRefusedFor (Only kind) (first_line kind ++ rest) f → IsPlantRefusedFor kinds bytes f
  no_plant f h = record { kind = h.kind; accepted = among h.kind h.accepted; rest = h.rest; are = begun ∙ h.are; refused = h.refused }

  pub refused_among : (fault : TextFault) → AreLinesRefusedFor (Only kind) (first_line kind ++ rest) fault → IsTextRefusedFor kinds bytes fault
  refused_among (faults.Malformed n) (inl bare) = absurd (bare.1 kind refl (rest, refl))
  refused_among (faults.Malformed n) (inr (inl plant)) = (short, inr (inl (plant.0, plant.1, no_plant (front.Malformed plant.0) plant.2)))
  refused_among (faults.Malformed n) (inr (inr h)) = (
    short,
    inr
        (inr
        (record { kind = h.kind; accepted = among h.kind h.accepted; plant = h.plant; limits = h.limits; few = h.few; rest = h.rest; are = begun ∙ h.are; line = h.line; refused = h.refused; number = h.number })),
  )
  refused_among (faults.Limit PlantText) h = (short, no_plant (front.Limit PlantText) h)
  refused_among (faults.Limit TableText) h = absurd h.refused.3
  refused_among (faults.Limit Vectors) h = (short, no_plant (front.Limit Vectors) h)
  refused_among (faults.Limit Cells) h = (short, no_plant (front.Limit Cells) h)
  refused_among (faults.Limit Pairs) h = (short, no_plant (front.Limit Pairs) h)
  refused_among (faults.Limit Edges) h = (short, no_plant (front.Limit Edges) h)
  refused_among faults.Turns h = (short, record { kind = h.kind; accepted = among h.kind h.accepted; plant = h.plant; limits = h.limits; rest = h.rest; are = begun ∙ h.are; many = h.many })
  refused_among faults.Memory h = absurd h
