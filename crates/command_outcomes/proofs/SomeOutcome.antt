-- No plant text is neither refused nor a plant's, no plant demands nothing, and no text demands nothing.
use Rattle.std.proofs.Common.{inl, inr, ◌⊎◌, ℕ, ◌^◌, ◌<◌, List, length, refl, arith, ◌≡◌, Option, Some, None, sym, ◌∙◌}
use Rattle.std.specs.Prelude.{sum_by, ℤ}
use Rattle.std.proofs.lemmas.Bool.{cases_lt, cases_eq}
use Rattle.plant_record.specs.declared.limit_kind.LimitKind.TheVariants.{Edges}
use Rattle.plant_record.specs.Description.{Description, vectors_of}
use Rattle.plant_record.specs.Limits.{IsWithinLimits}
use Rattle.plant_text.specs.declared.plant_fault.PlantFault.{PlantFault}
use Rattle.plant_text.specs.declared.plant_fault.PlantFault.TheVariants as plants
use Rattle.plant_text.specs.PlantRefusals.{IsRefusedFor}
use Rattle.plant_text.proofs.lemmas.PlantEnds.{no_plant_text_is_neither}
use Rattle.successor_box.specs.Deviations.{HasNoOverflow, HasNoOverflowAt, IsFirstOverflow}
use Rattle.plant_game.specs.Abstraction.{AreEdges, IsGameOf}
use Rattle.plant_game.proofs.EdgeCounts.{games_count_their_edges}
use Rattle.controller_table.specs.declared.text_kind.TextKind.TheVariants.{Patrol}
use Rattle.controller_table.proofs.EachKind.{few_or_many}
use Rattle.command_line.specs.declared.outcome.Refusal.{Refusal}
use Rattle.command_line.specs.declared.outcome.Refusal.TheVariants.{Malformed, Overflow, Limit, TooManyTurns, Invalid, NoRow}
use Rattle.command_outcomes.specs.IsOutcomeFor.{IsAccepted, IsSolvable, HasEdges, IsPatrollable, IsAnswerable}
use Rattle.command_outcomes.specs.Stages.{IsRefused, IsPlantRefusal, IsPatrolRefusal, SpellPlantWith, IsOverflow, IsTextRefusal, IsRowsRefusal, IsStartRefusal, AreTableWith, IsTableRefusal, IsStagedRefusal}
use Rattle.command_outcomes.proofs.Undeniable.{first_without}
use Rattle.command_outcomes.proofs.SomeGame.{some_game}
use Rattle.grid_quantiser.specs.Cells.{point_of}
use Rattle.game_core.specs.declared.game.Row.{Row}
use Rattle.game_core.specs.Game.{Game, IsGame}
use Rattle.game_core.proofs.Right.{right_rows_are_the_solution}
use Rattle.plant_record.specs.declared.aims.GoalKind.{GoalKind}
use Rattle.plant_record.specs.declared.aims.GoalKind.TheVariants.{Reach, Keep}
use Rattle.plant_game.specs.PlantSolution.{Solves}
use Rattle.table_check.specs.Verdicts.{IsRightFor}
use Rattle.controller_table.specs.Choice.{row_at}
use Rattle.controller_table.specs.declared.table_fault.TableFault.{TableFault}
use Rattle.controller_table.specs.declared.table_fault.TableFault.TheVariants as tables
use Rattle.controller_table.specs.Tables.{IsTable}
use Rattle.controller_table.specs.TableRefusals.{IsTableRefusedFor}
use Rattle.controller_table.proofs.OneRefusal.{no_table_is_neither}
use Rattle.controller_table.proofs.TableTexts.{within_one}
use Rattle.command_line.specs.declared.command.Command.TheVariants.{Synth, Check, Upgrade, Sim, Demo, Stay, Patrol}
use Rattle.command_line.specs.declared.command.Command.{Command}
use Rattle.command_line.specs.declared.outcome.Outcome.TheVariants.{Done, Refused}
use Rattle.command_outcomes.specs.Traces.{HasRowFor, HasNoRowFor}
use Rattle.command_outcomes.specs.OutcomeLaws.{SomeOutcomePerText}
use Rattle.command_outcomes.proofs.Stages.{PassCheck, unstaged}

-- ---- a plant

-- no number leaves the range, or there is a first overflow
pub some_overflow : (p : Description) → (HasNoOverflow p ⊎ ((i : ℕ) × (u : ℕ) × IsFirstOverflow p i u) → ⊥) → ⊥
some_overflow p deny =
    first_without (λ i. (u : ℕ) → u < vectors_of p.inputs → HasNoOverflowAt p i u) (length p.equations) (λ found. elim found [
      | inl all ↦ deny (inl (λ i u equation input. all i equation u input))
      | inr (i, first) ↦ first_without (HasNoOverflowAt p i) (vectors_of p.inputs) (λ at. elim at [
        | inl fits ↦ first.2 fits
        | inr (u, here) ↦ deny (inr (
          i,
          u,
          record {
            equation = first.1;
            input = here.1;
            overflow = here.2;
            equations_before = λ j v lt input. first.3 j (omega arith) lt v input;
            inputs_before = λ v lt. here.3 v (omega arith) lt;
          },
        ))
      ])
    ])

-- how a plant within the limits ends: it can be solved, a number leaves the range, or its game has too many edges
pub data PlantEnd (p : Description) : Type 0 where
  is_solvable : IsSolvable p → PlantEnd p
  overflows : (i u : ℕ) → IsFirstOverflow p i u → PlantEnd p
  has_many_edges : (edges : ℕ) × HasEdges p edges × (2 ^ 25 < edges) → PlantEnd p

pub plant_end : (p : Description) → IsWithinLimits p → (PlantEnd p → ⊥) → ⊥
plant_end p limits deny =
    some_overflow p (λ found. elim found [
      | inl fits ↦ some_game p limits (λ (g, is). by_count fits (sum_by length g.successors) (games_count_their_edges p g is))
      | inr (i, u, first) ↦ deny (overflows i u first)
    ])
  where
    by_count : HasNoOverflow p → (edges : ℕ) → AreEdges p edges → ⊥
    by_count fits edges counted =
        elim (cases_lt (2 ^ 25) edges) [
          | inl many ↦ deny (has_many_edges (edges, record { fits = fits; counted = counted }, many))
          | inr few ↦ deny (is_solvable (edges, record { fits = fits; counted = counted }, few))
        ]

-- what passes, or is refused
abbrev pub IsDecided : Type 0 → (Refusal → Type 0) → Type 0
IsDecided Passes Refuses = Passes ⊎ ((r : Refusal) × Refuses r)

-- what such a plant demands
pub plant_decided : (p : Description) → PlantEnd p → IsDecided (IsSolvable p) (IsPlantRefusal p)
plant_decided p (is_solvable s) = inl s
plant_decided p (overflows i u first) = inr (Overflow i u, inl (i, u, refl, first))
plant_decided p (has_many_edges many) = inr (Limit Edges, inr (refl, many))

-- what it demands of a patrol
pub patrol_decided : (p : Description) → PlantEnd p → IsDecided (IsPatrollable p) (IsPatrolRefusal p)
patrol_decided p (is_solvable s) =
    elim (few_or_many Patrol p) [
      | inl few ↦ inl (s, few)
      | inr many ↦ inr (TooManyTurns, inr (refl, s, many))
    ]
patrol_decided p (overflows i u first) = inr (Overflow i u, inl (inl (i, u, refl, first)))
patrol_decided p (has_many_edges many) = inr (Limit Edges, inl (inr (refl, many)))

-- ---- a text

text_end : (bytes : List ℕ) → ((r : Refusal) → IsRefused bytes r → ⊥) → ((p : Description) → IsAccepted bytes p → ⊥) → ⊥
text_end bytes unrefused unaccepted = no_plant_text_is_neither bytes (λ p spells short limits. unaccepted p (record { short = short; spells = spells; limits = limits })) by_fault
  where
    by_fault : (f : PlantFault) → IsRefusedFor bytes f → ⊥
    by_fault (plants.Malformed n) refused = unrefused (Malformed n) (inl (n, refl, refused))
    by_fault (plants.Limit what) refused = unrefused (Limit what) (inr (what, refl, refused))
    by_fault plants.Memory refused = refused

-- ---- a plant text

by_text : (bytes : List ℕ) (Passes : Description → Type 0) (Refuses : Description → Refusal → Type 0) → ((p : Description) → PlantEnd p → IsDecided (Passes p) (Refuses p))
    → (IsDecided (SpellPlantWith Passes bytes) (IsTextRefusal Refuses bytes) → ⊥) → ⊥
by_text bytes Passes Refuses decided deny = text_end bytes (λ r h. deny (inr (r, inl h))) (λ p h. plant_end p h.limits (λ end. elim (decided p end) [
  | inl passes ↦ deny (inl (p, h, passes))
  | inr (r, refuses) ↦ deny (inr (r, inr (p, h, refuses)))
]))

-- ---- a table

solved : (goal : GoalKind) (g : Game) (rows : List (Option Row)) → IsGame g → length rows ≡ g.cells → ((c : ℕ) → c < g.cells → IsRightFor goal g rows c) → Solves goal g rows
solved Reach g rows game size each = right_rows_are_the_solution g rows game (record { one_each = size; each = each })
solved Keep g rows game size each = record { one_each = size; each = each }

verdict : (bytes : List ℕ) (p : Description) (rows : List (Option Row)) → IsTable bytes p rows → PlantEnd p → (IsDecided (PassCheck p rows) (IsRowsRefusal p rows) → ⊥) → ⊥
verdict bytes p rows table (overflows i u first) deny = deny (inr (Overflow i u, inl (inl (i, u, refl, first))))
verdict bytes p rows table (has_many_edges many) deny = deny (inr (Limit Edges, inl (inr (refl, many))))
verdict bytes p rows table (is_solvable s) deny =
    some_game p table.1.limits (λ game. by_game game.0 game.1)
  where
    by_game : (g : Game) → IsGameOf p g → ⊥
    by_game g is = first_without (IsRightFor p.goal g rows) g.cells (λ found. elim found [
      | inl all ↦ deny (inl (s, record { game = g; abstraction = is; solution = solved p.goal g rows is.game ((within_one _ rows table.1.within).one_each ∙ sym is.cells) all }))
      | inr (c, wrong) ↦ deny (inr (Invalid c, inr (c, refl, s, record { game = g; abstraction = is; wrong = wrong })))
    ])

by_table : (bytes : List ℕ) (Passes : Description → List (Option Row) → Type 0) (Refuses : Description → List (Option Row) → Refusal → Type 0)
    → ((p : Description) (rows : List (Option Row)) → IsTable bytes p rows → (IsDecided (Passes p rows) (Refuses p rows) → ⊥) → ⊥)
    → (IsDecided (AreTableWith Passes bytes) (IsTableRefusal Refuses bytes) → ⊥) → ⊥
by_table bytes Passes Refuses decided deny = no_table_is_neither bytes by_rows by_fault
  where
    by_rows : (p : Description) (rows : List (Option Row)) → IsTable bytes p rows → ⊥
    by_rows p rows h = decided p rows h (λ d. elim d [
      | inl passes ↦ deny (inl (p, rows, h, passes))
      | inr (r, refuses) ↦ deny (inr (r, inr (p, rows, h, refuses)))
    ])

    by_fault : (f : TableFault) → IsTableRefusedFor bytes f → ⊥
    by_fault (tables.Malformed line) h = deny (inr (Malformed line, inl (inl (line, refl, h))))
    by_fault (tables.Limit what) h = deny (inr (Limit what, inl (inr (what, refl, h))))
    by_fault tables.Memory h = h.1

-- ---- a table that is written anew, or drives its plant

range : (p : Description) → (IsDecided (HasNoOverflow p) (IsOverflow p) → ⊥) → ⊥
range p deny = some_overflow p (λ found. elim found [
  | inl fits ↦ deny (inl fits)
  | inr (i, u, first) ↦ deny (inr (Overflow i u, (i, u, refl, first)))
])

row_or_none : (p : Description) (rows : List (Option Row)) (start : List ℤ) → HasRowFor p rows start ⊎ HasNoRowFor p rows start
row_or_none p rows start =
    elim (cases_eq (length start) (length p.states)) [
      | inr other ↦ inr (inl other)
      | inl same ↦ by_row same (row_at p rows (point_of start)) refl
    ]
  where
    by_row : length start ≡ length p.states → (o : Option Row) → row_at p rows (point_of start) ≡ o → HasRowFor p rows start ⊎ HasNoRowFor p rows start
    by_row same None e = inr (inr e)
    by_row same (Some row) e = inl (record { one_each = same; row = row; has = e })

driven : (p : Description) (rows : List (Option Row)) (start : List ℤ) → (IsDecided (HasNoOverflow p × HasRowFor p rows start) (IsStartRefusal start p rows) → ⊥) → ⊥
driven p rows start deny = some_overflow p (λ found. elim found [
  | inl fits ↦ elim (row_or_none p rows start) [
    | inl has ↦ deny (inl (fits, has))
    | inr none ↦ deny (inr (NoRow, inr (refl, fits, none)))
  ]
  | inr (i, u, first) ↦ deny (inr (Overflow i u, inl (i, u, refl, first)))
])

-- ---- commands

decided : (command : Command) (bytes : List ℕ) → (IsDecided (IsAnswerable command bytes) (IsStagedRefusal command bytes) → ⊥) → ⊥
decided (Synth workers) bytes deny = by_text bytes IsSolvable IsPlantRefusal plant_decided deny
decided Check bytes deny = by_table bytes PassCheck IsRowsRefusal (λ p rows table refute. plant_end p table.1.limits (λ end. verdict bytes p rows table end refute)) deny
decided Upgrade bytes deny = by_table bytes (λ p rows. HasNoOverflow p) (λ p rows r. IsOverflow p r) (λ p rows table refute. range p refute) deny
decided (Sim samples seed start) bytes deny = by_table bytes (λ p rows. HasNoOverflow p × HasRowFor p rows start) (IsStartRefusal start) (λ p rows table refute. driven p rows start refute) deny
decided (Demo number workers) bytes deny = deny (inl tt)
decided (Stay workers) bytes deny = by_text bytes IsSolvable IsPlantRefusal plant_decided deny
decided (Patrol workers) bytes deny = by_text bytes IsPatrollable IsPatrolRefusal patrol_decided deny

pub some_outcome : SomeOutcomePerText
some_outcome command bytes deny = decided command bytes (λ d. elim d [
  | inl answerable ↦ deny Done answerable
  | inr (r, refuses) ↦ deny (Refused r) (unstaged command bytes r refuses)
])
