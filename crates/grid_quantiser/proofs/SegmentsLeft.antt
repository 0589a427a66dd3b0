-- The segments of a box that are still to come.
use Rattle.std.proofs.Common.{◌≡◌, ℕ, ◌+◌, ◌-◌, ◌*◌, ◌/◌, ◌%◌, ◌<◌, ◌≤◌, arith, ap, sym, subst, ◌∙◌, List, ◌++◌, length, take, drop, get_or}
use Rattle.std.specs.List.{range_with_len}
use Rattle.std.proofs.Math.Nat.{mul-le-mul_right, add-mod_right}
use Rattle.std.proofs.lemmas.Nat.{div-add-mod', div_below}
use Rattle.std.proofs.lemmas.List.{same_lists, length-take-le, length-drop, take-append-drop, drop-drop, get_or-take, get_or-drop, get_or_default}
use Rattle.std.proofs.lemmas.List.FromFn.{length-range_with_len, get_or-range_with_len}
use Rattle.mixed_radix.specs.Radix.{size}
use Rattle.mixed_radix.specs.Boxes.{box_counts, nth, last_of}
use Rattle.mixed_radix.proofs.Steps.{factors}
use Rattle.mixed_radix.proofs.Boxes.{length-box_counts, whole_turns, nth_segment}
use Rattle.grid_quantiser.specs.declared.axis.Axis.{Axis}
use Rattle.grid_quantiser.specs.Axes.{counts_of}
use Rattle.grid_quantiser.specs.CellBoxes.{cells_between}
use Rattle.grid_quantiser.specs.Segments.{BeginsWithSegment}
use Rattle.grid_quantiser.proofs.Counts.{length-counts_of}
use Rattle.grid_quantiser.proofs.BoxCells.{between_some}
use Rattle.grid_quantiser.proofs.BoxNth.{AreCorners, length-between, between_nth}

module _ (axes : List Axis) (f l : ℕ) (c : AreCorners axes f l) where
  abbrev cells : List ℕ
  cells = cells_between axes f l

  abbrev bs : List ℕ
  bs = box_counts (counts_of axes) (l - f)

  abbrev per_segment : ℕ
  per_segment = last_of bs

  long : length cells ≡ size bs
  long = length-between axes f l c.grid.each c.ordered

  several : 1 ≤ length bs
  several = omega (arith, c.grid.some_state, length-box_counts (counts_of axes) (l - f), length-counts_of axes)

  turns : (t : ℕ) × (size bs ≡ t * per_segment)
  turns = whole_turns bs several

  pub some_in_segment : 0 < per_segment
  some_in_segment = (factors turns.0 per_segment (omega (arith, turns.1, long, between_some axes f l c.ordered))).1

  -- so many cells were given, whole segments
  module _ (given : ℕ) (whole : given % per_segment ≡ 0) (more : given < length cells) where
    given_is : given ≡ given / per_segment * per_segment
    given_is = omega (arith, div-add-mod' given per_segment, whole)

    pub segment_fits : given + per_segment ≤ length cells
    segment_fits =
        let before : given / per_segment < turns.0 = div_below given per_segment turns.0 some_in_segment (omega (arith, more, long, turns.1)) in
        let row : (given / per_segment + 1) * per_segment ≤ turns.0 * per_segment = mul-le-mul_right per_segment (omega (arith, before)) in
        omega (arith, row, given_is, long, turns.1)

    pub next_whole : (given + per_segment) % per_segment ≡ 0
    next_whole = add-mod_right given per_segment ∙ whole

    segment_at : (j : ℕ) → j < per_segment → get_or cells (given + j) 0 ≡ get_or cells given 0 + j
    segment_at j lt =
        let here = between_nth axes f l given c.grid.each c.low c.ordered more in
        let there = between_nth axes f l (given + j) c.grid.each c.low c.ordered (omega (arith, segment_fits, lt)) in
        let segment = nth_segment (counts_of axes) bs (given / per_segment) j (length-box_counts (counts_of axes) (l - f)) (omega (arith, several, length-box_counts (counts_of axes) (l - f))) lt (omega (arith, more, long)) in
        let P : ℕ → Type 0 = λ g. nth (counts_of axes) bs (g + j) ≡ nth (counts_of axes) bs g + j in
        omega (arith, here, there, subst P (sym given_is) segment)

    segment_is : take per_segment (drop given cells) ≡ range_with_len (get_or cells given 0) per_segment
    segment_is =
        let short : per_segment ≤ length (drop given cells) = omega (arith, segment_fits, length-drop given cells) in
        let front : length (take per_segment (drop given cells)) ≡ per_segment = length-take-le per_segment (drop given cells) short in
        same_lists (take per_segment (drop given cells)) (range_with_len (get_or cells given 0) per_segment) (front ∙ sym (length-range_with_len (get_or cells given 0) per_segment))
        (λ j d lt.
        let within : j < per_segment = omega (arith, lt, front) in
        get_or-take per_segment (drop given cells) j d within
        ∙ get_or-drop given cells j d
        ∙ get_or_default cells (given + j) d 0 (omega (arith, within, segment_fits))
        ∙ segment_at j within
        ∙ sym (get_or-range_with_len (get_or cells given 0) per_segment j d within))

    pub next_cells : BeginsWithSegment (drop given cells) (drop (given + per_segment) cells) (get_or cells given 0) per_segment
    next_cells = record {
      some = omega (arith, some_in_segment);
      parts = sym (take-append-drop per_segment (drop given cells)) ∙ ap (λ (xs : List ℕ). xs ++ drop per_segment (drop given cells)) segment_is ∙ ap (λ (xs : List ℕ). range_with_len (get_or cells given 0) per_segment ++ xs) (drop-drop per_segment given cells);
    }
