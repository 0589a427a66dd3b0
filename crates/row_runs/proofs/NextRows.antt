-- The first run from a cell on: equal rows up to a cell, and another row or none after it; and none where no row is left.
use Rattle.std.proofs.Common.{◌≡◌, ℕ, suc, ◌+◌, ◌-◌, ◌<◌, ◌≤◌, List, [], ◌∷◌, Option, Some, None, drop, refl, sym, ap, ◌∙◌, subst, arith, inl, inr, ◌≢◌, length, add-one}
use Rattle.std.proofs.lemmas.Bool.{cases_lt}
use Rattle.std.proofs.lemmas.List.{get_or-drop, get_or_past, length-drop}
use Rattle.game_core.specs.declared.game.Row.{Row}
use Rattle.row_runs.specs.declared.run.Run.{Run}
use Rattle.game_core.specs.Solution.{row_of}
use Rattle.row_runs.specs.declared.run.TableVersion.TheVariants.{Second}
use Rattle.row_runs.specs.Runs.{runs_from, MayLead, AreRuns, Gives}
use Rattle.row_runs.proofs.Encoding.{gives_above, AreOf, runs_are}
use Rattle.row_runs.proofs.Uniqueness.{same_runs}
use Rattle.std.proofs.lemmas.Option.{none-some, same_Some}
use Rattle.row_runs.specs.declared.run.TableVersion.{TableVersion}

module _ (c first last : ℕ) (row : Row) (rows : List (Option Row)) (from : c ≤ first) (some : first ≤ last)
    (before : (i : ℕ) → c ≤ i → i < first → row_of rows i ≡ None) (within : (i : ℕ) → first ≤ i → i ≤ last → row_of rows i ≡ Some row) (ends : row_of rows (suc last) ≡ Some row → ⊥) where
  abbrev whole : List Run
  whole = runs_from Second c (drop c rows)

  abbrev rest : List Run
  rest = runs_from Second (suc last) (drop (suc last) rows)

  abbrev run : Run
  run = record { first = first; last = last; row = row }

  all : AreOf Second c (drop c rows) whole
  all = runs_are Second c (drop c rows)

  after : AreOf Second (suc last) (drop (suc last) rows) rest
  after = runs_are Second (suc last) (drop (suc last) rows)

  -- what runs from a cell on give is the row itself
  row_given : (k d : ℕ) (x : Row) → AreOf Second k (drop k rows) (runs_from Second k (drop k rows)) → Gives (runs_from Second k (drop k rows)) d x → row_of rows d ≡ Some x
  row_given k d x h given =
      let above = gives_above Second k (runs_from Second k (drop k rows)) d x h.are h.begin given in
      let at : k + (d - k) ≡ d = omega (arith, above) in
      ap (row_of rows) (sym at) ∙ sym (get_or-drop k rows (d - k) None) ∙ (h.encode (d - k) x).1 (subst (λ (n : ℕ). Gives (runs_from Second k (drop k rows)) n x) (sym at) given)

  given_row : (k d : ℕ) (x : Row) → AreOf Second k (drop k rows) (runs_from Second k (drop k rows)) → k ≤ d → row_of rows d ≡ Some x → Gives (runs_from Second k (drop k rows)) d x
  given_row k d x h above is =
      let at : k + (d - k) ≡ d = omega (arith, above) in
      subst (λ (n : ℕ). Gives (runs_from Second k (drop k rows)) n x) at ((h.encode (d - k) x).0 (get_or-drop k rows (d - k) None ∙ ap (row_of rows) at ∙ is))

  lead : (runs : List Run) → AreRuns Second runs → ((d : ℕ) (x : Row) → Gives runs d x → (suc last ≤ d) × (row_of rows d ≡ Some x)) → MayLead Second run runs
  lead [] are told = tt
  lead (s ∷ runs) are told =
      let here = told s.first s.row (inl (omega arith, are.0, refl)) in
      let past = here.0 in
      (omega (arith, past), λ next same. ends (ap (row_of rows) next ∙ here.1 ∙ ap (λ (r : Row). Some r) (sym same)))

  joined_are : AreRuns Second (run ∷ rest)
  joined_are = (some, lead rest after.are (λ d x given. (gives_above Second (suc last) rest d x after.are after.begin given, row_given (suc last) d x after given)), after.are)

  to : (d : ℕ) (x : Row) → Gives whole d x → Gives (run ∷ rest) d x
  to d x given =
      let is = row_given c d x all given in
      let above = gives_above Second c whole d x all.are all.begin given in
      elim (cases_lt d first) [
        | inl early ↦ absurd (none-some x (sym (before d above early) ∙ is))
        | inr late ↦ elim (cases_lt last d) [
          | inl past ↦ inr (given_row (suc last) d x after (omega (arith, past)) is)
          | inr here ↦ inl (late, here, same_Some row x (sym (within d late here) ∙ is))
        ]
      ]

  back : (d : ℕ) (x : Row) → Gives (run ∷ rest) d x → Gives whole d x
  back d x given = elim given [
    | inl here ↦ let low = here.0 in given_row c d x all (omega (arith, from, low)) (within d here.0 here.1 ∙ ap (λ (r : Row). Some r) here.2)
    | inr later ↦
        let above = gives_above Second (suc last) rest d x after.are after.begin later in
        given_row c d x all (omega (arith, from, some, above)) (row_given (suc last) d x after later)
  ]

  pub next_run : runs_from Second c (drop c rows) ≡ record { first = first; last = last; row = row } ∷ runs_from Second (suc last) (drop (suc last) rows)
  next_run = same_runs Second whole (run ∷ rest) all.are joined_are to back

-- where no cell has a row there is no run
no_runs : (v : TableVersion) (c : ℕ) (rows : List (Option Row)) → ((i : ℕ) → i < length rows → row_of rows i ≡ None) → runs_from v c rows ≡ []
no_runs v c [] none = refl
no_runs v c (o ∷ rows) none =
    ap (λ (x : Option Row). runs_from v c (x ∷ rows)) (none 0 (omega arith)) ∙ no_runs v (suc c) rows (λ i lt. none (suc i) (omega (arith, lt)))

pub no_runs_left : (v : TableVersion) (c : ℕ) (rows : List (Option Row)) → c ≤ length rows → ((i : ℕ) → c ≤ i → i < length rows → row_of rows i ≡ None) → runs_from v c (drop c rows) ≡ []
no_runs_left v c rows le none =
    no_runs v c (drop c rows) (λ i lt. get_or-drop c rows i None ∙ none (c + i) (omega arith) (omega (arith, lt, le, length-drop c rows)))

pub run_is_next : (c first last : ℕ) (row : Row) (rows : List (Option Row)) → c ≤ first → first ≤ last → ((i : ℕ) → c ≤ i → i < first → row_of rows i ≡ None) → ((i : ℕ) → first ≤ i → i ≤ last → row_of rows i ≡ Some row)
    → (last + 1 < length rows → row_of rows (last + 1) ≢ Some row) → runs_from Second c (drop c rows) ≡ record { first = first; last = last; row = row } ∷ runs_from Second (last + 1) (drop (last + 1) rows)
run_is_next c first last row rows from some before within ends =
    next_run c first last row rows from some before within stops
    ∙ ap (λ (k : ℕ). record { first = first; last = last; row = row } ∷ runs_from Second k (drop k rows)) (sym (add-one last))
  where
    stops : row_of rows (suc last) ≡ Some row → ⊥
    stops is = elim (cases_lt (suc last) (length rows)) [
      | inl lt ↦ ends (omega (arith, lt)) (ap (row_of rows) (add-one last) ∙ is)
      | inr past ↦ none-some row (sym (get_or_past rows (suc last) None past) ∙ is)
    ]
