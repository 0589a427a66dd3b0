-- The runs of rows are runs, and give the rows.
use Rattle.std.proofs.Common.{◌≡◌, ◌≢◌, ◌⊎◌, ℕ, zero, suc, ◌+◌, ◌<◌, ◌≤◌, Bool, true, false, ◌&&◌, eqb, List, [], ◌∷◌, Option, Some, None, refl, sym, ap, ◌∙◌, subst, arith, inl, inr}
use Rattle.std.specs.Prelude.{◌↔◌, if◌then◌else◌}
use Rattle.std.proofs.lemmas.Bool.{and_parts, eqb-true, eq-eqb, false≢true}
use Rattle.game_core.specs.declared.game.Row.{Row}
use Rattle.row_runs.specs.declared.run.Run.{Run}
use Rattle.game_core.specs.Solution.{row_of}
use Rattle.row_runs.specs.declared.run.TableVersion.{TableVersion}
use Rattle.row_runs.specs.declared.run.TableVersion.TheVariants.{First, Second}
use Rattle.row_runs.specs.Runs.{is_same_row, prepend_row, runs_from, MayFollow, HasCells, MayLead, AreRuns, Gives}
use Rattle.row_runs.specs.Laws.{RunsEncodeTheRows}
use Rattle.std.proofs.lemmas.Option.{none-some, same_Some}

same_row : (a b : Row) → is_same_row a b ≡ true → a ≡ b
same_row a b e =
    let parts = and_parts (eqb a.rank b.rank) (eqb a.input b.input) e in
    λ i. record { rank = eqb-true a.rank b.rank parts.0 i; input = eqb-true a.input b.input parts.1 i }

other_row : (a b : Row) → is_same_row a b ≡ false → a ≢ b
other_row a b e is =
    let first : eqb a.rank b.rank ≡ true = eq-eqb a.rank b.rank (ap (λ (r : Row). r.rank) is) in
    let second : eqb a.input b.input ≡ true = eq-eqb a.input b.input (ap (λ (r : Row). r.input) is) in
    false≢true (sym e ∙ both (eqb a.rank b.rank) (eqb a.input b.input) first second)
  where
    both : (s t : Bool) → s ≡ true → t ≡ true → (s && t) ≡ true
    both true true p q = refl
    both true false p q = absurd (false≢true q)
    both false t p q = absurd (false≢true p)

-- no run begins below a cell
abbrev pub BeginAt : ℕ → List Run → Type 0
BeginAt c [] = Unit {0}
BeginAt c (r ∷ runs) = c ≤ r.first

pub forward : (v : TableVersion) (r : Run) → HasCells v r → r.first ≤ r.last
forward First r h = omega (arith, h)
forward Second r h = h

pub later : (v : TableVersion) (r s : Run) → MayFollow v r s → r.last < s.first
later First r s h = h
later Second r s h = h.0

-- the runs after one begin after its last cell
pub begin_later : (v : TableVersion) (r : Run) (runs : List Run) → MayLead v r runs → BeginAt (suc r.last) runs
begin_later v r [] h = tt
begin_later v r (s ∷ runs) h = let below = later v r s h in omega (arith, below)

begin_lower : (c d : ℕ) (runs : List Run) → c ≤ d → BeginAt d runs → BeginAt c runs
begin_lower c d [] le h = tt
begin_lower c d (r ∷ runs) le h = omega (arith, le, h)

-- a cell that is given a row isn't below the first run
pub gives_above : (v : TableVersion) (b : ℕ) (runs : List Run) (c : ℕ) (row : Row) → AreRuns v runs → BeginAt b runs → Gives runs c row → b ≤ c
gives_above v b [] c row are begin given = absurd given
gives_above v b (r ∷ runs) c row are begin given = elim given [
  | inl here ↦ let low = here.0 in omega (arith, begin, low)
  | inr rest ↦
      let above = gives_above v (suc r.last) runs c row are.2 (begin_later v r runs are.1) rest in
      let some = forward v r are.0 in
      omega (arith, begin, above, some)
]

-- What the runs of rows from a cell on are.
pub record AreOf (v : TableVersion) (c : ℕ) (rows : List (Option Row)) (runs : List Run) : Type 0 where
  pub are : AreRuns v runs
  pub begin : BeginAt c runs
  pub encode : (i : ℕ) (row : Row) → (row_of rows i ≡ Some row) ↔ Gives runs (c + i) row

skipped : (v : TableVersion) (c : ℕ) (rows : List (Option Row)) (runs : List Run) → AreOf v (suc c) rows runs → AreOf v c (None ∷ rows) runs
skipped v c rows runs h = record { are = h.are; begin = begin_lower c (suc c) runs (omega arith) h.begin; encode = encodes }
  where
    encodes : (i : ℕ) (row : Row) → (row_of (None ∷ rows) i ≡ Some row) ↔ Gives runs (c + i) row
    encodes zero row = ((λ e. absurd (none-some row e)), (λ given. absurd (let above = gives_above v (suc c) runs (c + 0) row h.are h.begin given in omega (arith, above))))
    encodes (suc i) row =
        let same : suc c + i ≡ c + suc i = omega arith in
        subst (λ (n : ℕ). (row_of rows i ≡ Some row) ↔ Gives runs n row) same (h.encode i row)

-- a run of one cell before others
single : (v : TableVersion) (c : ℕ) (row : Row) (rows : List (Option Row)) (runs : List Run) → HasCells v (record { first = c; last = c; row = row }) → MayLead v (record { first = c; last = c; row = row }) runs → AreOf v (suc c) rows runs → AreOf v c (Some row ∷ rows) (record { first = c; last = c; row = row } ∷ runs)
single v c row rows runs one lead h = record { are = (one, lead, h.are); begin = omega arith; encode = encodes }
  where
    after : (i : ℕ) (other : Row) → Gives runs (c + suc i) other ↔ Gives runs (suc c + i) other
    after i other =
        let same : suc c + i ≡ c + suc i = omega arith in
        ((λ g. subst (λ (n : ℕ). Gives runs n other) (sym same) g), (λ g. subst (λ (n : ℕ). Gives runs n other) same g))

    encodes : (i : ℕ) (other : Row) → (row_of (Some row ∷ rows) i ≡ Some other) ↔ (((c ≤ c + i) × (c + i ≤ c) × (row ≡ other)) ⊎ Gives runs (c + i) other)
    encodes zero other = (
      (λ e. inl (omega arith, omega arith, same_Some row other e)),
      (λ given. elim given [
        | inl here ↦ ap (λ (r : Row). Some r) here.2
        | inr rest ↦ absurd (let above = gives_above v (suc c) runs (c + 0) other h.are h.begin rest in omega (arith, above))
      ]),
    )
    encodes (suc i) other = (
      (λ e. inr ((after i other).1 ((h.encode i other).0 e))),
      (λ given. elim given [
        | inl here ↦ absurd (let low = here.1 in omega (arith, low))
        | inr rest ↦ (h.encode i other).1 ((after i other).0 rest)
      ]),
    )

-- a run that goes on with the next one
joined : (c : ℕ) (row : Row) (rows : List (Option Row)) (r : Run) (runs : List Run) → r.first ≡ suc c → row ≡ r.row → AreOf Second (suc c) rows (r ∷ runs) → AreOf Second c (Some row ∷ rows) (record { first = c; last = r.last; row = row } ∷ runs)
joined c row rows r runs next same h = record { are = (cells, lead (begin_later Second r runs h.are.1) runs h.are.1, h.are.2); begin = omega arith; encode = encodes }
  where
    cells : c ≤ r.last
    cells = let some = h.are.0 in omega (arith, next, some)

    lead : BeginAt (suc r.last) runs → (runs : List Run) → MayLead Second r runs → MayLead Second (record { first = c; last = r.last; row = row }) runs
    lead begin [] may = tt
    lead begin (s ∷ more) may = (may.0, λ right is. may.1 right (sym same ∙ is))

    after : (i : ℕ) (other : Row) → Gives (r ∷ runs) (suc c + i) other ↔ Gives (record { first = c; last = r.last; row = row } ∷ runs) (c + suc i) other
    after i other =
        let at : suc c + i ≡ c + suc i = omega arith in (
          (λ given. elim given [
            | inl here ↦ let low = here.0 in let high = here.1 in inl (omega arith, omega (arith, high), same ∙ here.2)
            | inr rest ↦ inr (subst (λ (n : ℕ). Gives runs n other) at rest)
          ]),
          (λ given. elim given [
            | inl here ↦ let high = here.1 in inl (omega (arith, next), omega (arith, high), sym same ∙ here.2)
            | inr rest ↦ inr (subst (λ (n : ℕ). Gives runs n other) (sym at) rest)
          ]),
        )

    encodes : (i : ℕ) (other : Row) → (row_of (Some row ∷ rows) i ≡ Some other) ↔ Gives (record { first = c; last = r.last; row = row } ∷ runs) (c + i) other
    encodes zero other = (
      (λ e. inl (omega arith, (let low = cells in omega (arith, low)), same_Some row other e)),
      (λ given. elim given [
        | inl here ↦ ap (λ (x : Row). Some x) here.2
        | inr rest ↦ absurd (let above = gives_above Second (suc r.last) runs (c + 0) other h.are.2 (begin_later Second r runs h.are.1) rest in let low = cells in omega (arith, above, low))
      ]),
    )
    encodes (suc i) other = (
      (λ e. (after i other).0 ((h.encode i other).0 e)),
      (λ given. (h.encode i other).1 ((after i other).1 given)),
    )

put : (v : TableVersion) (c : ℕ) (row : Row) (rows : List (Option Row)) (runs : List Run) → AreOf v (suc c) rows runs → AreOf v c (Some row ∷ rows) (prepend_row v c row runs)
put First c row rows runs h = single First c row rows runs refl (lead runs h.begin) h
  where
    lead : (runs : List Run) → BeginAt (suc c) runs → MayLead First (record { first = c; last = c; row = row }) runs
    lead [] begin = tt
    lead (s ∷ runs) begin = omega (arith, begin)
put Second c row rows [] h = single Second c row rows [] (omega arith) tt h
put Second c row rows (r ∷ runs) h = by (eqb r.first (suc c)) (is_same_row row r.row) refl refl
  where
    apart : r.first ≢ suc c ⊎ (row ≢ r.row) → MayFollow Second (record { first = c; last = c; row = row }) r
    apart (inl other) = ((let begin = h.begin in omega (arith, begin)), λ right is. other (sym right))
    apart (inr other) = ((let begin = h.begin in omega (arith, begin)), λ right is. other is)

    by : (s t : Bool) → eqb r.first (suc c) ≡ s → is_same_row row r.row ≡ t → AreOf Second c (Some row ∷ rows) (if s && t then record { first = c; last = r.last; row = row } ∷ runs else record { first = c; last = c; row = row } ∷ r ∷ runs)
    by true true e f = joined c row rows r runs (eqb-true r.first (suc c) e) (same_row row r.row f) h
    by true false e f = single Second c row rows (r ∷ runs) (omega arith) (apart (inr (other_row row r.row f))) h
    by false t e f = single Second c row rows (r ∷ runs) (omega arith) (apart (inl (λ is. false≢true (sym e ∙ eq-eqb r.first (suc c) is)))) h

pub runs_are : (v : TableVersion) (c : ℕ) (rows : List (Option Row)) → AreOf v c rows (runs_from v c rows)
runs_are v c [] = record { are = tt; begin = tt; encode = λ i row. ((λ e. absurd (none-some row e)), (λ given. absurd given)) }
runs_are v c (None ∷ rows) = skipped v c rows (runs_from v (suc c) rows) (runs_are v (suc c) rows)
runs_are v c (Some row ∷ rows) = put v c row rows (runs_from v (suc c) rows) (runs_are v (suc c) rows)

pub runs_encode : RunsEncodeTheRows
runs_encode v rows =
    let h = runs_are v 0 rows in
    (h.are, λ c row. let same : 0 + c ≡ c = omega arith in subst (λ (n : ℕ). (row_of rows c ≡ Some row) ↔ Gives (runs_from v 0 rows) n row) same (h.encode c row))
