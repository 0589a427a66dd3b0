-- A test that is asked of the cells of segments.
use Rattle.std.proofs.Common.{◌≡◌, ℕ, ◌+◌, ◌-◌, ◌<◌, ◌≤◌, List, ◌++◌, All, length, take, drop, get_or, sym, subst, ◌∙◌, arith}
use Rattle.std.specs.List.{range_with_len}
use Rattle.std.proofs.lemmas.List.FromFn.{length-range_with_len, get_or-range_with_len}
use Rattle.rayon.proofs.ListFacts.{All-parts}
use Rattle.source_lists.specs.declared.shapes.Segment.{Segment}
use Rattle.source_lists.specs.Shapes.{cells_from}
use Rattle.source_lists.proofs.Segments.{segments_split}

module _ (P : ℕ → Type 0) (first len : ℕ) where
  pub range_passes : ((c : ℕ) → first ≤ c → c < first + len → P c) → All P (range_with_len first len)
  range_passes each = λ k d lt.
      let inside : k < len = omega (arith, lt, length-range_with_len first len) in
      subst P (sym (get_or-range_with_len first len k d inside)) (each (first + k) (omega arith) (omega (arith, inside)))

  pub passes_in_range : All P (range_with_len first len) → (c : ℕ) → first ≤ c → c < first + len → P c
  passes_in_range all c low below =
      let inside : c - first < len = omega (arith, low, below) in
      let slot : first + (c - first) ≡ c = omega (arith, low) in
      subst P (get_or-range_with_len first len (c - first) 0 inside ∙ slot) (all (c - first) 0 (omega (arith, inside, length-range_with_len first len)))

-- what passes at the cells of segments passes at those of each
pub segment_passes_too : (P : ℕ → Type 0) (first : ℕ) (segments : List Segment) (k : ℕ) (d : Segment) → k < length segments → All P (cells_from first segments) → All P (range_with_len (first + (get_or segments k d).start) (get_or segments k d).len)
segment_passes_too P first segments k d below all =
    let before = cells_from first (take k segments) in
    let here = range_with_len (first + (get_or segments k d).start) (get_or segments k d).len in
    let parts = subst (All P) (segments_split first segments k d below) all in
    let so_far = (All-parts P (before ++ here) (cells_from first (drop (k + 1) segments)) parts).0 in
    (All-parts P before here so_far).1
