-- What is known of each kind: its first line gives it, its numbers are small, and its turns are few or many.
use Rattle.std.proofs.Common.{inl, inr, ◌≡◌, ◌⊎◌, ℕ, ◌+◌, ◌-◌, ◌*◌, ◌^◌, ◌≤◌, ◌==◌, List, ◌++◌, get_or, refl, sym, ap, ◌∙◌, arith}
use Rattle.std.specs.Prelude.{if◌then◌else◌, length}
use Rattle.std.proofs.lemmas.Bool.{cases_lt}
use Rattle.std.proofs.lemmas.List.{append_cancel_left}
use Rattle.grid_quantiser.specs.Axes.{cells_of}
use Rattle.plant_record.specs.declared.aims.GoalKind.{GoalKind}
use Rattle.plant_record.specs.declared.aims.GoalKind.TheVariants.{Reach, Keep}
use Rattle.plant_record.specs.Description.{Description, axes_of}
use Rattle.plant_record.specs.Limits.{IsWithinLimits}
use Rattle.row_runs.specs.declared.run.TableVersion.TheVariants.{First, Second}
use Rattle.row_reading.specs.inside.RunReading.{AreSmallTurns}
use Rattle.controller_table.specs.declared.text_kind.TextKind.{TextKind}
use Rattle.controller_table.specs.declared.text_kind.TextKind.TheVariants.{Table, Stay, Patrol}
use Rattle.controller_table.specs.TextKinds.{first_line, most_rank_of, turn_rules, HasFewTurnsFor}
use Rattle.controller_table.proofs.RowLengths.{AreShort}

-- ---- the first line

-- the first and the seventh byte give the kind
number_at : List ℕ → ℕ
number_at bytes = get_or bytes 0 0 * 256 + get_or bytes 6 0

kind_at : ℕ → TextKind
kind_at n = if n == 29745 then Table First else if n == 29746 then Table Second else if n == 29450 then Stay else Patrol

told : (k : TextKind) (rest : List ℕ) → kind_at (number_at (first_line k ++ rest)) ≡ k
unfolding kind_at number_at
told (Table First) rest = refl
told (Table Second) rest = refl
told Stay rest = refl
told Patrol rest = refl

pub one_kind : (k l : TextKind) (s t : List ℕ) → first_line k ++ s ≡ first_line l ++ t → (k ≡ l) × (s ≡ t)
one_kind k l s t e =
    let same : k ≡ l = sym (told k s) ∙ ap (λ (x : List ℕ). kind_at (number_at x)) e ∙ told l t in
    (same, append_cancel_left (first_line k) s t (e ∙ ap (λ (m : TextKind). first_line m ++ t) (sym same)))

-- ---- its numbers

most_rank : (goal : GoalKind) (cells : ℕ) → cells ≤ 2 ^ 20 → most_rank_of goal cells ≤ 2 ^ 20
most_rank Reach cells le = omega (arith, le)
most_rank Keep cells le = omega arith

less : (n : ℕ) → n ≤ 2 ^ 20 → n - 1 ≤ 2 ^ 20
less n le = omega (arith, le)

pub short_rows : (k : TextKind) (p : Description) → IsWithinLimits p → AreShort (turn_rules k p).rows
short_rows (Table v) p within = record { cells = within.cells; vectors = within.vectors; most_rank = most_rank p.goal (cells_of (axes_of p)) within.cells }
short_rows Stay p within = record { cells = within.cells; vectors = within.vectors; most_rank = less (cells_of (axes_of p)) within.cells }
short_rows Patrol p within = record { cells = within.cells; vectors = within.vectors; most_rank = within.cells }

pub few_turns : (k : TextKind) (p : Description) → IsWithinLimits p → (turn_rules k p).turns ≤ 2 ^ 20
few_turns (Table v) p within = omega arith
few_turns Stay p within = omega arith
few_turns Patrol p within = let bound = within.plant.targets_bound in omega (arith, bound)

pub small_turns : (k : TextKind) (p : Description) → IsWithinLimits p → AreSmallTurns (turn_rules k p)
small_turns k p within =
    let short = short_rows k p within in
    record {
      rows = record { cells = omega (arith, short.cells); vectors = omega (arith, short.vectors); most_rank = omega (arith, short.most_rank) };
      turns = let few = few_turns k p within in omega (arith, few);
    }

pub few_cells : (k : TextKind) (p : Description) → IsWithinLimits p → (turn_rules k p).rows.cells ≤ 2 ^ 20
few_cells k p within = (short_rows k p within).cells

-- ---- its turns

pub few_or_many : (k : TextKind) (p : Description) → HasFewTurnsFor k p ⊎ (HasFewTurnsFor k p → ⊥)
few_or_many (Table version) p = inl tt
few_or_many Stay p = inl tt
few_or_many Patrol p = elim (cases_lt 4194304 (cells_of (axes_of p) * length p.targets)) [
  | inl many ↦ inr (λ few. omega (arith, many, few))
  | inr few ↦ inl few
]
