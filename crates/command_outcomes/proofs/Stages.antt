-- The reasons of a refusal are the same, told case by case or in stages.
use Rattle.std.proofs.Common.{inl, inr, ℕ, ◌<◌, List, Option, refl, sym, ap, subst}
use Rattle.plant_record.specs.declared.limit_kind.LimitKind.{LimitKind}
use Rattle.plant_record.specs.declared.limit_kind.LimitKind.TheVariants.{Edges}
use Rattle.plant_record.specs.Description.{Description}
use Rattle.successor_box.specs.Deviations.{IsFirstOverflow}
use Rattle.game_core.specs.declared.game.Row.{Row}
use Rattle.plant_game.specs.PlantSolution.{IsSolutionOf}
use Rattle.command_line.specs.declared.command.Command.{Command}
use Rattle.command_line.specs.declared.command.Command.TheVariants.{Synth, Check, Upgrade, Sim, Demo, Stay, Patrol}
use Rattle.command_line.specs.declared.outcome.Refusal.{Refusal}
use Rattle.command_line.specs.declared.outcome.Refusal.TheVariants.{Malformed, Overflow, Limit, TooManyTurns, Invalid, NoRow}
use Rattle.command_outcomes.specs.IsOutcomeFor.{HasEdges, IsSolvable, IsRefusalFor}
use Rattle.command_outcomes.specs.Stages.{IsOverflow, IsPlantRefusal, IsReadRefusal, IsTextRefusal, IsStagedRefusal}
use Rattle.base.specs.declared.limits.TheConstants.{EDGES_LIMIT}

-- what `check` accepts: the rows are the solution of a plant that nothing refuses
abbrev pub PassCheck : Description → List (Option Row) → Type 0
PassCheck p rows = IsSolvable p × IsSolutionOf p rows

-- ---- from case by case to stages

-- by what `synth` and `stay` are refused
of_game : (workers : ℕ) (bytes : List ℕ) (r : Refusal) → IsRefusalFor (Synth workers) bytes r → IsTextRefusal IsPlantRefusal bytes r
of_game workers bytes (Malformed line) h = inl (inl (line, refl, h))
of_game workers bytes (Limit what) h = elim h [
  | inl f ↦ inl (inr (what, refl, f))
  | inr many ↦ inr (many.2.0, many.2.1, inr (ap Limit many.0, many.2.2))
]
of_game workers bytes (Overflow equation input) h = inr (h.0, h.1, inl (equation, input, refl, h.2))
of_game workers bytes r h = absurd h

pub staged : (command : Command) (bytes : List ℕ) (r : Refusal) → IsRefusalFor command bytes r → IsStagedRefusal command bytes r
staged (Synth workers) bytes r h = of_game workers bytes r h
staged (Stay workers) bytes (Malformed line) h = of_game workers bytes (Malformed line) h
staged (Stay workers) bytes (Limit what) h = of_game workers bytes (Limit what) h
staged (Stay workers) bytes (Overflow equation input) h = of_game workers bytes (Overflow equation input) h
staged (Stay workers) bytes r h = absurd h
staged (Patrol workers) bytes (Malformed line) h = inl (inl (line, refl, h))
staged (Patrol workers) bytes (Limit what) h = elim h [
  | inl f ↦ inl (inr (what, refl, f))
  | inr many ↦ inr (many.2.0, many.2.1, inl (inr (ap Limit many.0, many.2.2)))
]
staged (Patrol workers) bytes (Overflow equation input) h = inr (h.0, h.1, inl (inl (equation, input, refl, h.2)))
staged (Patrol workers) bytes TooManyTurns h = inr (h.0, h.1, inr (refl, h.2, h.3))
staged (Patrol workers) bytes r h = absurd h
staged Check bytes (Malformed line) h = inl (inl (line, refl, h))
staged Check bytes (Limit what) h = elim h [
  | inl f ↦ inl (inr (what, refl, f))
  | inr many ↦ inr (many.2.0, many.2.1.0, many.2.1.1, inl (inr (ap Limit many.0, many.2.2)))
]
staged Check bytes (Overflow equation input) h = inr (h.0, h.1.0, h.1.1, inl (inl (equation, input, refl, h.2)))
staged Check bytes (Invalid cell) h = inr (h.0, h.1, h.2, inr (cell, refl, h.3, h.4))
staged Check bytes r h = absurd h
staged Upgrade bytes (Malformed line) h = inl (inl (line, refl, h))
staged Upgrade bytes (Limit what) h = elim h [
  | inl f ↦ inl (inr (what, refl, f))
  | inr many ↦ absurd many.1
]
staged Upgrade bytes (Overflow equation input) h = inr (h.0, h.1.0, h.1.1, (equation, input, refl, h.2))
staged Upgrade bytes r h = absurd h
staged (Sim samples seed start) bytes (Malformed line) h = inl (inl (line, refl, h))
staged (Sim samples seed start) bytes (Limit what) h = elim h [
  | inl f ↦ inl (inr (what, refl, f))
  | inr many ↦ absurd many.1
]
staged (Sim samples seed start) bytes (Overflow equation input) h = inr (h.0, h.1.0, h.1.1, inl (equation, input, refl, h.2))
staged (Sim samples seed start) bytes NoRow h = inr (h.0, h.1, h.2, inr (refl, h.3, h.4))
staged (Sim samples seed start) bytes r h = absurd h
staged (Demo number workers) bytes (Malformed line) h = absurd h
staged (Demo number workers) bytes (Limit what) h = elim h [
  | inl f ↦ absurd f
  | inr many ↦ absurd many.2.1
]
staged (Demo number workers) bytes (Overflow equation input) h = absurd h.1
staged (Demo number workers) bytes r h = absurd h

-- ---- back

of_read : (Is : Refusal → Type 0) (malformed : ℕ → Type 0) (beyond : LimitKind → Type 0) → ((line : ℕ) → malformed line → Is (Malformed line)) → ((what : LimitKind) → beyond what → Is (Limit what))
    → (r : Refusal) → IsReadRefusal malformed beyond r → Is r
of_read Is malformed beyond line limit r h = elim h [
  | inl f ↦ subst Is (sym f.1) (line f.0 f.2)
  | inr f ↦ subst Is (sym f.1) (limit f.0 f.2)
]

of_range : (Is : Refusal → Type 0) (p : Description) → ((equation input : ℕ) → IsFirstOverflow p equation input → Is (Overflow equation input)) → (r : Refusal) → IsOverflow p r → Is r
of_range Is p first r h = subst Is (sym h.2) (first h.0 h.1 h.3)

of_plant : (Is : Refusal → Type 0) (p : Description) → ((equation input : ℕ) → IsFirstOverflow p equation input → Is (Overflow equation input))
    → ((edges : ℕ) × HasEdges p edges × (EDGES_LIMIT < edges) → Is (Limit Edges)) → (r : Refusal) → IsPlantRefusal p r → Is r
of_plant Is p first many r h = elim h [
  | inl f ↦ of_range Is p first r f
  | inr f ↦ subst Is (sym f.0) (many f.1)
]

pub unstaged : (command : Command) (bytes : List ℕ) (r : Refusal) → IsStagedRefusal command bytes r → IsRefusalFor command bytes r
unstaged (Synth workers) bytes r h = elim h [
  | inl f ↦ of_read (IsRefusalFor (Synth workers) bytes) _ _ (λ line g. g) (λ what g. inl g) r f
  | inr f ↦ of_plant (IsRefusalFor (Synth workers) bytes) f.0 (λ equation input g. (f.0, f.1, g)) (λ many. inr (refl, tt, (f.0, f.1, many))) r f.2
]
unstaged (Stay workers) bytes r h = elim h [
  | inl f ↦ of_read (IsRefusalFor (Stay workers) bytes) _ _ (λ line g. g) (λ what g. inl g) r f
  | inr f ↦ of_plant (IsRefusalFor (Stay workers) bytes) f.0 (λ equation input g. (f.0, f.1, g)) (λ many. inr (refl, tt, (f.0, f.1, many))) r f.2
]
unstaged (Patrol workers) bytes r h = elim h [
  | inl f ↦ of_read (IsRefusalFor (Patrol workers) bytes) _ _ (λ line g. g) (λ what g. inl g) r f
  | inr f ↦ elim f.2 [
    | inl plant ↦ of_plant (IsRefusalFor (Patrol workers) bytes) f.0 (λ equation input g. (f.0, f.1, g)) (λ many. inr (refl, tt, (f.0, f.1, many))) r plant
    | inr turns ↦ subst (IsRefusalFor (Patrol workers) bytes) (sym turns.0) (f.0, f.1, turns.1, turns.2)
  ]
]
unstaged Check bytes r h = elim h [
  | inl f ↦ of_read (IsRefusalFor Check bytes) _ _ (λ line g. g) (λ what g. inl g) r f
  | inr f ↦ elim f.3 [
    | inl plant ↦ of_plant (IsRefusalFor Check bytes) f.0 (λ equation input g. (f.0, (f.1, f.2), g)) (λ many. inr (refl, tt, (f.0, (f.1, f.2), many))) r plant
    | inr wrong ↦ subst (IsRefusalFor Check bytes) (sym wrong.1) (f.0, f.1, f.2, wrong.2, wrong.3)
  ]
]
unstaged Upgrade bytes r h = elim h [
  | inl f ↦ of_read (IsRefusalFor Upgrade bytes) _ _ (λ line g. g) (λ what g. inl g) r f
  | inr f ↦ of_range (IsRefusalFor Upgrade bytes) f.0 (λ equation input g. (f.0, (f.1, f.2), g)) r f.3
]
unstaged (Sim samples seed start) bytes r h = elim h [
  | inl f ↦ of_read (IsRefusalFor (Sim samples seed start) bytes) _ _ (λ line g. g) (λ what g. inl g) r f
  | inr f ↦ elim f.3 [
    | inl plant ↦ of_range (IsRefusalFor (Sim samples seed start) bytes) f.0 (λ equation input g. (f.0, (f.1, f.2), g)) r plant
    | inr none ↦ subst (IsRefusalFor (Sim samples seed start) bytes) (sym none.0) (f.0, f.1, f.2, none.1, none.2)
  ]
]
unstaged (Demo number workers) bytes r h = absurd h
