-- A text demands one thing: it is answered, or refused for one reason.
use Rattle.std.proofs.Common.{inl, inr, ◌≡◌, ℕ, ◌^◌, ◌<◌, ◌≤◌, List, Option, Some, None, sym, ap, subst, ◌∙◌, refl, arith}
use Rattle.std.specs.Prelude.{◌⊎◌, ℤ}
use Rattle.std.proofs.lemmas.Bool.{cases_order}
use Rattle.plant_record.specs.declared.limit_kind.LimitKind.{LimitKind}
use Rattle.plant_text.specs.declared.plant_fault.PlantFault.{PlantFault}
use Rattle.plant_text.specs.declared.plant_fault.PlantFault.TheVariants as plants
use Rattle.plant_record.specs.declared.aims.GoalKind.{GoalKind}
use Rattle.plant_record.specs.declared.aims.GoalKind.TheVariants.{Reach, Keep}
use Rattle.plant_record.specs.Description.{Description}
use Rattle.plant_record.specs.Plants.{IsPlant}
use Rattle.plant_text.specs.PlantRefusals.{IsRefusedFor}
use Rattle.successor_box.specs.Deviations.{HasNoOverflow, IsFirstOverflow}
use Rattle.game_core.specs.declared.game.Row.{Row}
use Rattle.game_core.specs.Game.{Game, IsGame}
use Rattle.game_core.proofs.Right.{solutions_are_right}
use Rattle.plant_game.specs.PlantSolution.{Solves, IsSolutionOf}
use Rattle.table_check.specs.Verdicts.{IsRightFor}
use Rattle.plant_game.proofs.EdgeCounts.{one_edge_count}
use Rattle.plant_game.proofs.OneGame.{one_game}
use Rattle.controller_table.specs.declared.table_fault.TableFault.{TableFault}
use Rattle.controller_table.specs.declared.table_fault.TableFault.TheVariants as tables
use Rattle.controller_table.specs.Tables.{IsTable}
use Rattle.controller_table.specs.TableRefusals.{IsTableRefusedFor}
use Rattle.controller_table.specs.TextKinds.{HasFewTurns}
use Rattle.game_core.specs.Judging.{IsFirstFailure}
use Rattle.command_line.specs.declared.command.Command.{Command}
use Rattle.command_line.specs.declared.command.Command.TheVariants.{Synth, Check, Upgrade, Sim, Demo, Stay, Patrol}
use Rattle.command_line.specs.declared.outcome.Refusal.{Refusal}
use Rattle.command_line.specs.declared.outcome.Refusal.TheVariants.{Malformed, Overflow, Limit, TooManyTurns, Invalid, NoRow}
use Rattle.command_line.specs.declared.outcome.Outcome.TheVariants.{Done, Usage, Refused, Failed}
use Rattle.command_outcomes.specs.IsOutcomeFor.{IsAccepted, IsSolvable, HasEdges, IsPatrollable, IsFirstWrong, IsAnswerable, IsRefusalFor}
use Rattle.command_outcomes.specs.Stages.{SpellPlantWith, IsReadRefusal, IsRefused, IsOverflow, HasManyEdges, IsPlantRefusal, IsPatrolRefusal, IsTextRefusal, IsRowsRefusal, IsStartRefusal, AreTableWith, IsRefusedTable, IsTableRefusal, IsStagedRefusal}
use Rattle.command_outcomes.specs.Traces.{HasRowFor, HasNoRowFor}
use Rattle.command_outcomes.specs.OutcomeLaws.{OneOutcomePerText}
use Rattle.command_outcomes.proofs.Stages.{PassCheck, staged}
use Rattle.command_outcomes.proofs.Below.{one_plant_per_text, one_refusal, no_plant_text_is_refused, one_table, one_table_refusal, no_table_is_refused}
use Rattle.table_check.proofs.Verdicts.{one_first}

-- ---- what passes isn't refused, and what is refused has one reason

record IsExact (Passes : Type 0) (Refuses : Refusal → Type 0) : Type 0 where
  one : (r s : Refusal) → Refuses r → Refuses s → r ≡ s
  never_both : Passes → (r : Refusal) → Refuses r → ⊥

exact_by : {P Q : Type 0} {R S : Refusal → Type 0} → IsExact P R → (Q → P) → ((r : Refusal) → S r → R r) → IsExact Q S
exact_by exact passes refuses = record {
  one = λ r s f g. exact.one r s (refuses r f) (refuses s g);
  never_both = λ q r f. exact.never_both (passes q) r (refuses r f);
}

-- one reason more, of what passes so far
one_more : (P Q : Type 0) (R S : Refusal → Type 0) → IsExact P R → ((r : Refusal) → S r → P) → ((r s : Refusal) → S r → S s → r ≡ s) → (Q → (r : Refusal) → S r → ⊥) → IsExact (P × Q) (λ r. R r ⊎ S r)
one_more P Q R S exact passed one both = record {
  one = λ r s f g. elim f [
    | inl first ↦ elim g [
      | inl also ↦ exact.one r s first also
      | inr later ↦ absurd (exact.never_both (passed s later) r first)
    ]
    | inr later ↦ elim g [
      | inl first ↦ absurd (exact.never_both (passed r later) s first)
      | inr also ↦ one r s later also
    ]
  ];
  never_both = λ (p, q) r f. elim f [
    | inl first ↦ exact.never_both p r first
    | inr later ↦ both q r later
  ];
}

-- what is read as one thing, or refused, and then that thing's reasons
read_then : {A : Type 0} (Reads : A → Type 0) (R : Refusal → Type 0) (Passes : A → Type 0) (Refuses : A → Refusal → Type 0)
    → ((a b : A) → Reads a → Reads b → a ≡ b) → ((r s : Refusal) → R r → R s → r ≡ s) → ((a : A) → Reads a → (r : Refusal) → R r → ⊥)
    → ((a : A) → Reads a → IsExact (Passes a) (Refuses a)) → IsExact ((a : A) × Reads a × Passes a) (λ r. R r ⊎ ((a : A) × Reads a × Refuses a r))
read_then {A = A} Reads R Passes Refuses one_thing one either exact = record {
  one = λ r s f g. elim f [
    | inl refused ↦ elim g [
      | inl also ↦ one r s refused also
      | inr read ↦ absurd (either read.0 read.1 r refused)
    ]
    | inr read ↦ elim g [
      | inl refused ↦ absurd (either read.0 read.1 s refused)
      | inr also ↦ (exact also.0 also.1).one r s (subst (λ (a : A). Refuses a r) (one_thing read.0 also.0 read.1 also.1) read.2) also.2
    ]
  ];
  never_both = λ passed r f. elim f [
    | inl refused ↦ either passed.0 passed.1 r refused
    | inr read ↦ (exact read.0 read.1).never_both (subst Passes (one_thing passed.0 read.0 passed.1 read.1) passed.2) r read.2
  ];
}

-- ---- a plant

-- of two that are first neither is earlier
first_is : (i j : ℕ) → (i < j → ⊥) → (j < i → ⊥) → i ≡ j
first_is i j above below = elim (cases_order i j) [
  | inl e ↦ e
  | inr (inl lt) ↦ absurd (above lt)
  | inr (inr lt) ↦ absurd (below lt)
]

same_overflow : (p : Description) (i u j v : ℕ) → IsFirstOverflow p i u → IsFirstOverflow p j v → Overflow i u ≡ Overflow j v
same_overflow p i u j v f g =
    let equation : i ≡ j = first_is i j (λ lt. f.overflow (g.equations_before i u lt f.input)) (λ lt. g.overflow (f.equations_before j v lt g.input)) in
    let here : IsFirstOverflow p j u = subst (λ (k : ℕ). IsFirstOverflow p k u) equation f in
    let input : u ≡ v = first_is u v (λ lt. here.overflow (g.inputs_before u lt)) (λ lt. g.overflow (here.inputs_before v lt)) in
    ap (λ (k : ℕ). Overflow k u) equation ∙ ap (λ (k : ℕ). Overflow j k) input

pub fits_or_not : (p : Description) (i u : ℕ) → HasNoOverflow p → IsFirstOverflow p i u → ⊥
fits_or_not p i u fits first = first.overflow (fits i u first.equation first.input)

few_or_many : (p : Description) (m n : ℕ) → IsPlant p → HasEdges p m → HasEdges p n → m ≤ 2 ^ 25 → 2 ^ 25 < n → ⊥
few_or_many p m n plant f g few many = let same : m ≡ n = one_edge_count p m n plant f.counted g.counted in omega (arith, same, few, many)

range_exact : (p : Description) → IsExact (HasNoOverflow p) (IsOverflow p)
range_exact p = record {
  one = λ r s f g. f.2 ∙ same_overflow p f.0 f.1 g.0 g.1 f.3 g.3 ∙ sym g.2;
  never_both = λ fits r f. fits_or_not p f.0 f.1 fits f.3;
}

plant_exact : (p : Description) → IsPlant p → IsExact (IsSolvable p) (IsPlantRefusal p)
plant_exact p plant =
    exact_by
    (one_more (HasNoOverflow p) (IsSolvable p) (IsOverflow p) (HasManyEdges p) (range_exact p) (λ r f. f.1.1.fits) (λ r s f g. f.0 ∙ sym g.0)
    (λ solvable r f. few_or_many p solvable.0 f.1.0 plant solvable.1 f.1.1 solvable.2 f.1.2))
    (λ solvable. (solvable.1.fits, solvable)) (λ r f. f)

patrol_exact : (p : Description) → IsPlant p → IsExact (IsPatrollable p) (IsPatrolRefusal p)
patrol_exact p plant =
    one_more (IsSolvable p) (HasFewTurns p) (IsPlantRefusal p) (λ r. (r ≡ TooManyTurns) × IsSolvable p × (HasFewTurns p → ⊥)) (plant_exact p plant) (λ r f. f.1) (λ r s f g. f.0 ∙ sym g.0)
    (λ few r f. f.2 few)

-- ---- rows

one_wrong : (p : Description) (rows : List (Option Row)) (b c : ℕ) → IsPlant p → IsFirstWrong p rows b → IsFirstWrong p rows c → b ≡ c
one_wrong p rows b c plant f g =
    one_first (IsRightFor p.goal g.game rows) g.game.cells b c
    (subst (λ (h : Game). IsFirstFailure (IsRightFor p.goal h rows) 0 h.cells (Some b)) (one_game p f.game g.game plant f.abstraction g.abstraction) f.wrong)
    g.wrong

-- each row of a solution is right for its goal
each_right : (goal : GoalKind) (g : Game) (rows : List (Option Row)) (c : ℕ) → IsGame g → Solves goal g rows → c < g.cells → IsRightFor goal g rows c
each_right Reach g rows c game solution lt = (solutions_are_right g rows game solution).each c lt
each_right Keep g rows c game solution lt = solution.each c lt

-- the solution has no wrong row
no_wrong : (p : Description) (rows : List (Option Row)) (c : ℕ) → IsPlant p → IsSolutionOf p rows → IsFirstWrong p rows c → ⊥
no_wrong p rows c plant solution wrong =
    let same : wrong.game ≡ solution.game = one_game p wrong.game solution.game plant wrong.abstraction solution.abstraction in
    let first = subst (λ (h : Game). IsFirstFailure (IsRightFor p.goal h rows) 0 h.cells (Some c)) same wrong.wrong in
    first.2 (each_right p.goal solution.game rows c solution.abstraction.game solution.solution first.1)

rows_exact : (p : Description) (rows : List (Option Row)) → IsPlant p → IsExact (PassCheck p rows) (IsRowsRefusal p rows)
rows_exact p rows plant =
    one_more (IsSolvable p) (IsSolutionOf p rows) (IsPlantRefusal p) (λ r. (cell : ℕ) × (r ≡ Invalid cell) × IsSolvable p × IsFirstWrong p rows cell) (plant_exact p plant) (λ r f. f.2)
    (λ r s f g. f.1 ∙ ap Invalid (one_wrong p rows f.0 g.0 plant f.3 g.3) ∙ sym g.1)
    (λ solution r f. no_wrong p rows f.0 plant solution f.3)

row_or_none : (p : Description) (rows : List (Option Row)) (start : List ℤ) → HasRowFor p rows start → HasNoRowFor p rows start → ⊥
row_or_none p rows start row none =
    elim none [
      | inl others ↦ others row.one_each
      | inr past ↦ (let clash : Some row.row ≡ None = sym row.has ∙ past in cc)
    ]

start_exact : (p : Description) (rows : List (Option Row)) (start : List ℤ) → IsExact (HasNoOverflow p × HasRowFor p rows start) (IsStartRefusal start p rows)
start_exact p rows start =
    one_more (HasNoOverflow p) (HasRowFor p rows start) (IsOverflow p) (λ r. (r ≡ NoRow) × HasNoOverflow p × HasNoRowFor p rows start) (range_exact p) (λ r f. f.1) (λ r s f g. f.0 ∙ sym g.0)
    (λ row r f. row_or_none p rows start row f.2)

-- ---- texts

-- a refused text, by the fault of its reader
abbrev IsFaulty : {Fault : Type 0} → (Fault → Type 0) → (Fault → Refusal) → Refusal → Type 0
IsFaulty {Fault = Fault} IsFault refusal_of r = (fault : Fault) × IsFault fault × (r ≡ refusal_of fault)

faulty : {Fault : Type 0} (IsFault : Fault → Type 0) (refusal_of : Fault → Refusal) (malformed : ℕ → Fault) (limit : LimitKind → Fault)
    → ((line : ℕ) → Malformed line ≡ refusal_of (malformed line)) → ((what : LimitKind) → Limit what ≡ refusal_of (limit what))
    → (r : Refusal) → IsReadRefusal (λ line. IsFault (malformed line)) (λ what. IsFault (limit what)) r → IsFaulty IsFault refusal_of r
faulty IsFault refusal_of malformed limit line what r (inl f) = (malformed f.0, f.2, f.1 ∙ line f.0)
faulty IsFault refusal_of malformed limit line what r (inr f) = (limit f.0, f.2, f.1 ∙ what f.0)

abbrev refusal_of_plant : PlantFault → Refusal
refusal_of_plant (plants.Malformed line) = Malformed line
refusal_of_plant (plants.Limit what) = Limit what
refusal_of_plant plants.Memory = NoRow

faulty_plant : (bytes : List ℕ) (r : Refusal) → IsRefused bytes r → IsFaulty (IsRefusedFor bytes) refusal_of_plant r
faulty_plant bytes r h = faulty (IsRefusedFor bytes) refusal_of_plant (λ line. plants.Malformed line) (λ what. plants.Limit what) (λ line. refl) (λ what. refl) r h

abbrev refusal_of_table : TableFault → Refusal
refusal_of_table (tables.Malformed line) = Malformed line
refusal_of_table (tables.Limit what) = Limit what
refusal_of_table tables.Memory = NoRow

faulty_table : (bytes : List ℕ) (r : Refusal) → IsRefusedTable bytes r → IsFaulty (IsTableRefusedFor bytes) refusal_of_table r
faulty_table bytes r h = faulty (IsTableRefusedFor bytes) refusal_of_table (λ line. tables.Malformed line) (λ what. tables.Limit what) (λ line. refl) (λ what. refl) r h

-- plant texts demand one thing where their plants do
text_exact : (Passes : Description → Type 0) (Refuses : Description → Refusal → Type 0) → ((p : Description) → IsPlant p → IsExact (Passes p) (Refuses p)) → (bytes : List ℕ) → IsExact (SpellPlantWith Passes bytes) (IsTextRefusal Refuses bytes)
text_exact Passes Refuses exact bytes =
    read_then (IsAccepted bytes) (IsRefused bytes) Passes Refuses (λ p q f g. one_plant_per_text bytes p q f.spells g.spells)
    (λ r s f g. let x = faulty_plant bytes r f in let y = faulty_plant bytes s g in x.2 ∙ ap refusal_of_plant (one_refusal bytes x.0 y.0 x.1 y.1) ∙ sym y.2)
    (λ p accepted r f. let x = faulty_plant bytes r f in no_plant_text_is_refused bytes p x.0 accepted.spells accepted.short accepted.limits x.1)
    (λ p accepted. exact p accepted.limits.plant)

-- tables demand one thing where their plants and rows do
table_exact : (Passes : Description → List (Option Row) → Type 0) (Refuses : Description → List (Option Row) → Refusal → Type 0)
    → ((p : Description) (rows : List (Option Row)) → IsPlant p → IsExact (Passes p rows) (Refuses p rows)) → (bytes : List ℕ) → IsExact (AreTableWith Passes bytes) (IsTableRefusal Refuses bytes)
table_exact Passes Refuses exact bytes =
    exact_by
    (read_then {A = Description × List (Option Row)} (λ t. IsTable bytes t.0 t.1) (IsRefusedTable bytes) (λ t. Passes t.0 t.1) (λ t. Refuses t.0 t.1)
    (λ t u f g. let same = one_table bytes t.0 u.0 t.1 u.1 f g in λ i. (same.0 i, same.1 i))
    (λ r s f g. let x = faulty_table bytes r f in let y = faulty_table bytes s g in x.2 ∙ ap refusal_of_table (one_table_refusal bytes x.0 y.0 x.1 y.1) ∙ sym y.2)
    (λ t table r f. let x = faulty_table bytes r f in no_table_is_refused bytes t.0 t.1 x.0 table x.1)
    (λ t table. exact t.0 t.1 table.1.limits.plant))
    (λ t. ((t.0, t.1), t.2, t.3))
    (λ r f. elim f [
      | inl refused ↦ inl refused
      | inr t ↦ inr ((t.0, t.1), t.2, t.3)
    ])

-- ---- commands

staged_exact : (command : Command) (bytes : List ℕ) → IsExact (IsAnswerable command bytes) (IsStagedRefusal command bytes)
staged_exact (Synth workers) bytes = text_exact IsSolvable IsPlantRefusal plant_exact bytes
staged_exact Check bytes = table_exact PassCheck IsRowsRefusal rows_exact bytes
staged_exact Upgrade bytes = table_exact (λ p rows. HasNoOverflow p) (λ p rows r. IsOverflow p r) (λ p rows plant. range_exact p) bytes
staged_exact (Sim samples seed start) bytes = table_exact (λ p rows. HasNoOverflow p × HasRowFor p rows start) (IsStartRefusal start) (λ p rows plant. start_exact p rows start) bytes
staged_exact (Demo number workers) bytes = record { one = λ r s f g. absurd f; never_both = λ passes r f. f }
staged_exact (Stay workers) bytes = text_exact IsSolvable IsPlantRefusal plant_exact bytes
staged_exact (Patrol workers) bytes = text_exact IsPatrollable IsPatrolRefusal patrol_exact bytes

command_exact : (command : Command) (bytes : List ℕ) → IsExact (IsAnswerable command bytes) (IsRefusalFor command bytes)
command_exact command bytes = exact_by (staged_exact command bytes) (λ passes. passes) (λ r refuses. staged command bytes r refuses)

pub one_outcome : OneOutcomePerText
one_outcome command bytes Done Done f g = refl
one_outcome command bytes Done (Refused s) f g = absurd ((command_exact command bytes).never_both f s g)
one_outcome command bytes (Refused r) Done f g = absurd ((command_exact command bytes).never_both g r f)
one_outcome command bytes (Refused r) (Refused s) f g = ap Refused ((command_exact command bytes).one r s f g)
one_outcome command bytes Usage b f g = absurd f
one_outcome command bytes (Failed failure) b f g = absurd f
one_outcome command bytes Done Usage f g = absurd g
one_outcome command bytes Done (Failed failure) f g = absurd g
one_outcome command bytes (Refused r) Usage f g = absurd g
one_outcome command bytes (Refused r) (Failed failure) f g = absurd g
