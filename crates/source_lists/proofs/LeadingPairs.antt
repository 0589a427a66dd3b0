-- The pairs that lead to a cell, one pair after another.
use Rattle.std.proofs.Common.{◌≡◌, ℕ, ◌+◌, ◌-◌, ◌<◌, ◌≤◌, Bool, true, false, ◌==◌, cond, List, [], ◌∷◌, ◌++◌, length, replicate, get_or, Option, None, Contains, AllPairs, refl, sym, ap, ◌∙◌, arith}
use Rattle.std.specs.Prelude.{◌↔◌}
use Rattle.std.specs.Cmp.{nat_eq_equiv}
use Rattle.std.specs.List.{list_any, filter, range_with_len}
use Rattle.std.specs.List.Sorted.{IsStrictlyIncreasing}
use Rattle.std.proofs.lemmas.Bool.Decides.{Decides-eqb}
use Rattle.std.proofs.lemmas.List.Elements.{filter-append}
use Rattle.std.proofs.lemmas.List.Kept.{AllPairs-from_increasing}
use Rattle.std.proofs.lemmas.List.{length-append, length-replicate}
use Rattle.std.proofs.lemmas.Map.Views.{list_any-from_Contains, Contains-from_any}
use Rattle.rayon.specs.Shown.{run-append}
use Rattle.grid_quantiser.specs.declared.axis.Axis.{Axis}
use Rattle.grid_quantiser.specs.declared.boxes.CellBox.{CellBox}
use Rattle.game_core.specs.Counts.{times}
use Rattle.successor_box.specs.SuccessorBoxes.{cells_in}
use Rattle.source_lists.specs.SourceLists.{leads_to, sources_among}
use Rattle.source_lists.proofs.Tallying.{by_cell}
use Rattle.base.proofs.Ranges.{filter-range_more}
use Rattle.base.proofs.Times.{times_once, found}

-- whether a list of cells has a cell
pub has_any : (c : ℕ) (cells : List ℕ) → (list_any (◌==◌ c) cells ≡ true) ↔ Contains cells c
has_any c cells = ((λ e. Contains-from_any (λ x y same. (Decides-eqb x y).0 same) c cells e), (λ has. list_any-from_Contains nat_eq_equiv c cells has))

abbrev once : Bool → ℕ
once b = cond b 1 0

-- among rising cells a cell stands once or not at all
once_or_never : (c : ℕ) (cells : List ℕ) → AllPairs (λ x y. x < y) cells → times c cells ≡ once (list_any (◌==◌ c) cells)
once_or_never c cells rising = by_test (list_any (◌==◌ c) cells) refl
  where
    by_test : (b : Bool) → list_any (◌==◌ c) cells ≡ b → times c cells ≡ once b
    by_test true e = times_once c cells (λ i j d lt within same. omega (arith, rising i j d lt within, same)) ((has_any c cells).0 e)
    by_test false e = by_cell (times c cells) 0 (λ none. none) (λ some. absurd (let has = (has_any c cells).1 (found c cells (omega (arith, some))) in cc))

module _ (axes : List Axis) (boxes : List (Option CellBox)) (c k : ℕ) (rising : IsStrictlyIncreasing (cells_in axes (get_or boxes k None))) where
  abbrev cells : List ℕ
  cells = cells_in axes (get_or boxes k None)

  here : replicate (times c cells) k ≡ cond (leads_to axes boxes c k) (k ∷ []) []
  here = ap (λ (n : ℕ). replicate n k) (once_or_never c cells (AllPairs-from_increasing cells rising)) ∙ both (leads_to axes boxes c k)
    where
      both : (b : Bool) → replicate (once b) k ≡ cond b (k ∷ []) []
      both true = refl
      both false = refl

  -- one pair more
  pub sources_more : sources_among axes boxes (k + 1) c ≡ sources_among axes boxes k c ++ replicate (times c cells) k
  sources_more = filter-range_more (leads_to axes boxes c) k ∙ ap (λ (xs : List ℕ). sources_among axes boxes k c ++ xs) (sym here)

  pub count_more : length (sources_among axes boxes (k + 1) c) ≡ length (sources_among axes boxes k c) + times c cells
  count_more = ap length sources_more ∙ length-append (sources_among axes boxes k c) (replicate (times c cells) k) ∙ ap (λ (n : ℕ). length (sources_among axes boxes k c) + n) (length-replicate (times c cells) k)

-- more pairs have no fewer sources among them
pub count_rises : (axes : List Axis) (boxes : List (Option CellBox)) (c k n : ℕ) → k ≤ n → length (sources_among axes boxes k c) ≤ length (sources_among axes boxes n c)
count_rises axes boxes c k n le =
    let p = leads_to axes boxes c in
    let whole : k + (n - k) ≡ n = omega (arith, le) in
    let terms : filter p (range_with_len 0 n) ≡ filter p (range_with_len 0 k) ++ filter p (range_with_len (0 + k) (n - k)) =
    ap (λ (m : ℕ). filter p (range_with_len 0 m)) (sym whole) ∙ ap (filter p) (sym (run-append 0 k (n - k))) ∙ filter-append p (range_with_len 0 k) (range_with_len (0 + k) (n - k))
    in
    omega (arith, ap length terms, length-append (filter p (range_with_len 0 k)) (filter p (range_with_len (0 + k) (n - k))))
