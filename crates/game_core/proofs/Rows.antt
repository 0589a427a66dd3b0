-- Lemmas on games and rows.
use Rattle.std.proofs.Common.{inl, inr, mul-le-mul_right, ◌≡◌, ◌≢◌, ℕ, ◌<◌, ◌⊎◌, List, [], length, set, ◌+◌, count_by, is_some, get_or-set_same, get_or-set_other, Option, Some, None, All, arith, refl, sym, ◌∙◌, ap, subst}
use Rattle.std.proofs.lemmas.List.{get_or_past}
use Rattle.std.proofs.lemmas.List.Elements.{All-get_or, All-nil}
use Rattle.std.proofs.lemmas.Bool.{cases_lt, cases_eq}
use Rattle.std.proofs.lemmas.List.Sums.{sum_by-set}
use Rattle.game_core.specs.Counts.{one_if}
use Rattle.game_core.specs.declared.game.Mark.{Mark}
use Rattle.game_core.specs.declared.game.Mark.TheVariants.{Goal, Obstacle, Plain}
use Rattle.game_core.specs.declared.game.Row.{Row}
use Rattle.game_core.specs.Game.{Game, IsGame, IsEnabled, pair_of, successors_at}
use Rattle.game_core.specs.Solution.{row_of}

-- every successor is a cell
pub successors_below : (g : Game) → IsGame g → (pair : ℕ) → All (λ s. s < g.cells) (successors_at g pair)
successors_below g h pair =
    elim (cases_lt pair (length g.successors)) [
      | inl lt ↦ All-get_or (All (λ s. s < g.cells)) g.successors pair [] lt h.within
      | inr ge ↦ subst (All (λ s. s < g.cells)) (sym (get_or_past g.successors pair [] ge)) (All-nil (λ s. s < g.cells))
    ]

-- an input is enabled at a cell alone
pub enabled_below : (g : Game) → IsGame g → (c u : ℕ) → IsEnabled g c u → c < g.cells
enabled_below g a c u enabled =
    elim (cases_lt c g.cells) [
      | inl lt ↦ lt
      | inr ge ↦ absurd (enabled.1 (get_or_past g.successors (pair_of g c u) [] (let n = a.one_list_each in let l = mul-le-mul_right g.inputs ge in omega arith)))
    ]

-- a cell past the end has no row
pub below_from_row : (rows : List (Option Row)) (c : ℕ) (row : Row) → row_of rows c ≡ Some row → c < length rows
below_from_row rows c row e =
    elim (cases_lt c (length rows)) [
      | inl lt ↦ lt
      | inr ge ↦ let n : row_of rows c ≡ None = get_or_past rows c None ge in cc
    ]

-- where there are as many rows as cells, it stands at a cell
pub below_cells : (rows : List (Option Row)) (cells c : ℕ) (row : Row) → length rows ≡ cells → row_of rows c ≡ Some row → c < cells
below_cells rows cells c row many e = omega (arith, below_from_row rows c row e, many)

-- what is neither a goal nor an obstacle is plain
pub plain_from : (m : Mark) → m ≢ Goal → m ≢ Obstacle → m ≡ Plain
plain_from Goal a b = absurd (a refl)
plain_from Obstacle a b = absurd (b refl)
plain_from Plain a b = refl

pub mark_cases : (m : Mark) → (m ≡ Goal) ⊎ (m ≢ Goal)
mark_cases Goal = inl refl
mark_cases Obstacle = inr (λ e. cc)
mark_cases Plain = inr (λ e. cc)

-- a write changes the row of one cell alone
pub row_after_set : (rows : List (Option Row)) (c : ℕ) (x : Option Row) (s : ℕ) → c < length rows → ((s ≡ c) × (row_of (set rows c x) s ≡ x)) ⊎ ((s ≢ c) × (row_of (set rows c x) s ≡ row_of rows s))
row_after_set rows c x s lt =
    elim (cases_eq s c) [
      | inl e ↦ inl (e, ap (row_of (set rows c x)) e ∙ get_or-set_same rows c x None lt)
      | inr ne ↦ inr (ne, get_or-set_other rows c s x None ne)
    ]

-- how many cells have a row after a write
pub count_first : (rows : List (Option Row)) (c : ℕ) (row : Row) → c < length rows → row_of rows c ≡ None → count_by is_some (set rows c (Some row)) ≡ count_by is_some rows + 1
count_first rows c row lt e =
    let sums = sum_by-set (λ o. one_if (is_some o)) rows c (Some row) None lt in
    let was : one_if (is_some (row_of rows c)) ≡ 0 = ap (λ (o : Option Row). one_if (is_some o)) e in
    omega arith

pub count_again : (rows : List (Option Row)) (c : ℕ) (old row : Row) → c < length rows → row_of rows c ≡ Some old → count_by is_some (set rows c (Some row)) ≡ count_by is_some rows
count_again rows c old row lt e =
    let sums = sum_by-set (λ o. one_if (is_some o)) rows c (Some row) None lt in
    let was : one_if (is_some (row_of rows c)) ≡ 1 = ap (λ (o : Option Row). one_if (is_some o)) e in
    omega arith
