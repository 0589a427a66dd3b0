-- Why bytes are refused, by the kind whose first line they begin with.
use Rattle.std.proofs.Common.{inl, ◌≡◌, ℕ, ◌≤◌, List, ◌++◌, length, refl, sym, ◌∙◌}
use Rattle.base.specs.declared.limits.TheConstants.{TABLE_LIMIT}
use Rattle.plant_record.specs.declared.limit_kind.LimitKind.TheVariants.{TableText}
use Rattle.row_runs.specs.declared.run.TableVersion.TheVariants.{First}
use Rattle.controller_table.specs.declared.text_fault.TextFault.{TextFault}
use Rattle.controller_table.specs.declared.text_fault.TextFault.TheVariants as faults
use Rattle.controller_table.specs.declared.text_kind.TextKind.{TextKind}
use Rattle.controller_table.specs.declared.text_kind.TextKind.TheVariants.{Table, Stay, Patrol}
use Rattle.controller_table.specs.TextKinds.{first_line, most_bytes}
use Rattle.controller_table.specs.HeadedTexts.{AnyTable, Only, BeginsAs, AreLinesRefusedFor}
use Rattle.controller_table.proofs.EachKind.{one_kind}
use Rattle.controller_table.proofs.TextsRead.{no_table_begins, refused_among}
use Rattle.text_control.specs.declared.control_fault.ControlFault.TheVariants.{Malformed, Limit}
use Rattle.text_control.specs.Texts.{control_fault, IsRefusedAs, IsNoTextFor}

-- bytes begin with the first line of one kind
pub one_beginning : (k l : TextKind) (bytes : List ℕ) → BeginsAs k bytes → BeginsAs l bytes → k ≡ l
one_beginning k l bytes h m = (one_kind k l h.0 m.0 (sym h.1 ∙ m.1)).0

module _ (bytes : List ℕ) where
  no_other : (k l : TextKind) (rest : List ℕ) → bytes ≡ first_line k ++ rest → (k ≡ l → ⊥) → BeginsAs l bytes → ⊥
  no_other k l rest begun other h = other (one_beginning k l bytes (rest, begun) h)

  refused_as : (kind : TextKind) (rest : List ℕ) (fault : TextFault) → bytes ≡ first_line kind ++ rest → length bytes ≤ most_bytes kind → AreLinesRefusedFor (Only kind) (first_line kind ++ rest) fault → IsRefusedAs kind bytes fault
  refused_as (Table v) rest fault begun short refused =
      (no_other (Table v) Stay rest begun (λ e. cc), no_other (Table v) Patrol rest begun (λ e. cc), refused_among AnyTable (Table v) bytes rest short tt begun fault refused)
  refused_as Stay rest fault begun short refused = ((rest, begun), refused_among (Only Stay) Stay bytes rest short refl begun fault refused)
  refused_as Patrol rest fault begun short refused = ((rest, begun), refused_among (Only Patrol) Patrol bytes rest short refl begun fault refused)

  pub refused_after : (kind : TextKind) (rest : List ℕ) (fault : TextFault) → bytes ≡ first_line kind ++ rest → length bytes ≤ most_bytes kind → AreLinesRefusedFor (Only kind) (first_line kind ++ rest) fault → IsNoTextFor bytes (control_fault fault)
  refused_after kind rest fault begun short refused = (kind, fault, refl, refused_as kind rest fault begun short refused)

  long_as : (kind : TextKind) (rest : List ℕ) → bytes ≡ first_line kind ++ rest → (length bytes ≤ most_bytes kind → ⊥) → IsRefusedAs kind bytes (faults.Limit TableText)
  long_as (Table v) rest begun long = (no_other (Table v) Stay rest begun (λ e. cc), no_other (Table v) Patrol rest begun (λ e. cc), long)
  long_as Stay rest begun long = ((rest, begun), long)
  long_as Patrol rest begun long = ((rest, begun), long)

  pub too_long : (kind : TextKind) (rest : List ℕ) → bytes ≡ first_line kind ++ rest → (length bytes ≤ most_bytes kind → ⊥) → IsNoTextFor bytes Limit
  too_long kind rest begun long = (kind, faults.Limit TableText, refl, long_as kind rest begun long)

  module _ (none : (y : TextKind × List ℕ) → bytes ≡ first_line y.0 ++ y.1 → ⊥) where
    no_first_line : (kind : TextKind) → BeginsAs kind bytes → ⊥
    no_first_line kind first = none (kind, first.0) first.1

    pub none_too_long : (length bytes ≤ TABLE_LIMIT → ⊥) → IsNoTextFor bytes Limit
    none_too_long long = (Table First, faults.Limit TableText, refl, (no_first_line Stay, no_first_line Patrol, long))

    pub none_begins : length bytes ≤ TABLE_LIMIT → IsNoTextFor bytes (Malformed 1)
    none_begins short =
        (Table First, faults.Malformed 1, refl, (no_first_line Stay, no_first_line Patrol, (short, inl (refl, no_table_begins bytes (λ y. none (Table y.0, y.1))))))
