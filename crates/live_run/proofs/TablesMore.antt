-- Readers go on with a table more, and answer by the last one.
use Rattle.std.proofs.Common.{◌≡◌, ℕ, ◌+◌, ◌^◌, ◌<◌, ◌≤◌, List, [], ◌∷◌, length, refl, ap, sym, ◌∙◌, subst, arith, length-append, get_or, get_or-set_other, set, Option, Some, None, Bool, eq-eqb, ◌≢◌, inl, inr}
use Rattle.std.specs.Prelude.{ℤ, IfSome, if◌then◌else◌}
use Rattle.std.proofs.lemmas.Bool.{lt-ltb, cases_lt, ne_eqb}
use Rattle.std.proofs.lemmas.Grind.{get_or-set_at}
use Rattle.std.proofs.Math.ListN.{length-set}
use Rattle.grid_quantiser.specs.Cells.{point_of}
use Rattle.controller_table.specs.Tables.{TableModel}
use Rattle.controller_table.specs.Choice.{choice_at}
use Rattle.live_table.specs.Publishes.{Published, Listener, longer_list, EndsWith, LastChooses}
use Rattle.live_script.specs.Questions.{answer_of}
use Rattle.live_run.specs.inside.Sessions.{InStep, Fits, GoOnWith}
use Rattle.base.proofs.Lists.{same_last}

-- ---- a table more

pub fits_once_more : (readers : Option Published) (count : ℕ) (table : Option TableModel) → Fits readers count table → count < 8 → IfSome readers (λ p. length p.list + 1 < 2 ^ 32)
fits_once_more None count table fits few = tt
fits_once_more (Some p) count None fits few = absurd fits
fits_once_more (Some p) count (Some t) fits few = omega (arith, fits.0, few)

pub fits_more : (before after : Option Published) (opened : Option ℕ) (count : ℕ) (table : Option TableModel) (t : TableModel) → Fits before count table → IfSome opened (λ _. count ≡ 0) → GoOnWith before opened t after → Fits after (count + 1) (Some t)
fits_more before None opened count table t fits first on = tt
fits_more None (Some q) None count table t fits first on = absurd on
fits_more None (Some q) (Some readers) count table t fits first on = (omega (arith, ap length on, first), ([], on))
fits_more (Some p) (Some q) opened count None t fits first on = absurd fits
fits_more (Some p) (Some q) opened count (Some u) t fits first on =
    (omega (arith, ap (λ (r : Published). length r.list) on, length-append p.list (t ∷ []), fits.0), (p.list, ap (λ (r : Published). r.list) on))

-- ---- the last table answers

pub one_last : (list : List TableModel) (t u : TableModel) → EndsWith list t → EndsWith list u → t ≡ u
one_last list t u h k = same_last h.0 k.0 t u (sym h.1 ∙ k.1)

-- at the state of as many numbers as there are states a table answers what it chooses
pub answers_choice : (t : TableModel) (numbers point : List ℤ) → length numbers ≡ length t.plant.states → point ≡ point_of numbers → choice_at t.plant t.rows point ≡ answer_of t numbers
answers_choice t numbers point size at =
    ap (choice_at t.plant t.rows) at ∙ ap (λ (b : Bool). if b then choice_at t.plant t.rows (point_of numbers) else None) (sym (eq-eqb (length numbers) (length t.plant.states) size))

-- and elsewhere nothing
pub answers_nothing : (t : TableModel) (numbers : List ℤ) → length numbers ≢ length t.plant.states → None ≡ answer_of t numbers
answers_nothing t numbers other = ap (λ (b : Bool). if b then choice_at t.plant t.rows (point_of numbers) else None) (sym (ne_eqb (length numbers) (length t.plant.states) other))

-- ---- readers in step

-- who was told of less is told of all
pub in_step_again : (p : Published) (before after : Listener) → before.opening ≡ p.opening → length before.told < length p.list → after ≡ record before { told = longer_list before.told p.list } → InStep p after
in_step_again p before after opening less is =
    (ap (λ (r : Listener). r.opening) is ∙ opening, ap (λ (r : Listener). r.told) is ∙ rw (lt-ltb (length before.told) (length p.list) less) refl)

-- one more reader was told, the others after it are as before
pub told_more : (p : Published) (readers : List Listener) (i : ℕ) (v : Listener) → i < length readers → ((k : ℕ) (d : Listener) → k < i → InStep p (get_or readers k d)) → InStep p v → (k : ℕ) (d : Listener) → k < i + 1 → InStep p (get_or (set readers i v) k d)
told_more p readers i v lt told step k d below = elim (cases_lt k i) [
  | inl less ↦ (let ne : k ≢ i = λ e. omega (arith, less, e) in rw get_or-set_other (told k d less))
  | inr most ↦ (let same : k ≡ i = omega (arith, most, below) in subst (InStep p) (sym (get_or-set_at readers i k v d same lt)) step)
]

pub others_stay : (P : Listener → Type 0) (readers : List Listener) (i : ℕ) (v : Listener) → ((k : ℕ) (d : Listener) → i ≤ k → k < length readers → P (get_or readers k d)) → (k : ℕ) (d : Listener) → i + 1 ≤ k → k < length (set readers i v) → P (get_or (set readers i v) k d)
others_stay P readers i v left k d above within =
    let ne : k ≢ i = λ e. omega (arith, above, e) in
    rw get_or-set_other (left k d (omega (arith, above)) (omega (arith, within, length-set readers i v)))

-- ---- what a session answers

pub by_readers : (p : Published) (held : Option Published) (count : ℕ) (table : Option TableModel) (t : TableModel) (numbers point : List ℤ) (answered : Option (Option ℕ)) (choice : Option ℕ) → Fits held count table → held ≡ Some p → Some t ≡ table
    → length numbers ≡ length t.plant.states → point ≡ point_of numbers → IfSome answered (λ c. LastChooses p.list point c) → answered ≡ Some choice → choice ≡ answer_of t numbers
by_readers p held count table t numbers point answered choice fits is table_is size at last some =
    let mine : Fits (Some p) count (Some t) = subst (λ (z : Option Published × Option TableModel). Fits z.0 count z.1) (λ i. (is i, sym table_is i)) fits in
    let chosen : LastChooses p.list point choice = subst (λ (a : Option (Option ℕ)). IfSome a (λ c. LastChooses p.list point c)) some last in
    chosen.2 ∙ ap (λ (u : TableModel). choice_at u.plant u.rows point) (one_last p.list chosen.0 t chosen.1 mine.1) ∙ answers_choice t numbers point size at
