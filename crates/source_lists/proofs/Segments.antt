-- Segments of cells that are listed, and the boxes that have their shape.
use Rattle.std.proofs.Common.{◌≡◌, ℕ, ◌+◌, ◌-◌, ◌<◌, ◌≤◌, List, [], ◌∷◌, ◌++◌, All, length, take, drop, get_or, refl, sym, ap, subst, ◌∙◌, arith, append_assoc, append-nil}
use Rattle.std.specs.List.{range_with_len}
use Rattle.std.proofs.lemmas.List.{length-append, take_more, take-append-drop}
use Rattle.std.proofs.lemmas.List.Concat.{flat_map-append}
use Rattle.std.proofs.lemmas.List.Elements.{All-push}
use Rattle.std.proofs.lemmas.List.FromFn.{length-range_with_len, get_or-range_with_len}
use Rattle.rayon.proofs.ListFacts.{All-parts}
use Rattle.grid_quantiser.specs.Segments.{BeginsWithSegment}
use Rattle.source_lists.specs.declared.shapes.Segment.{Segment}
use Rattle.source_lists.specs.Shapes.{cells_from, EndsBy}
use Rattle.source_lists.specs.inside.ListedSegments.{ListsSegments}

-- what stands past the last segment
abbrev pub no_segment : Segment
no_segment = record { start = 0; len = 0 }

abbrev pub HasCell : Segment → Type 0
HasCell r = 1 ≤ r.len

pub cells-append : (first : ℕ) (xs ys : List Segment) → cells_from first (xs ++ ys) ≡ cells_from first xs ++ cells_from first ys
cells-append first xs ys = flat_map-append (λ (r : Segment). range_with_len (first + r.start) r.len) xs ys

-- ---- segments that are put after others

-- The segments of the cells that a loop has gone over were put after those before.
pub record ListsSoFar (before now : List Segment) (cells left : List ℕ) : Type 0 where
  pub more : List Segment
  pub appended : now ≡ before ++ more
  pub some : All HasCell more
  pub parts : cells ≡ cells_from 0 more ++ left
  pub few : length more + length left ≤ length cells

pub listed_none : (before : List Segment) (cells : List ℕ) → ListsSoFar before before cells cells
listed_none before cells = record { more = []; appended = sym (append-nil before); some = λ k d lt. absurd (omega (arith, lt)); parts = refl; few = omega arith }

pub listed_more : (before now : List Segment) (cells left later : List ℕ) (r : Segment) → ListsSoFar before now cells left → BeginsWithSegment left later r.start r.len → ListsSoFar before (now ++ r ∷ []) cells later
listed_more before now cells left later r h segment =
    let start : 0 + r.start ≡ r.start = omega arith in
    let alone : cells_from 0 (r ∷ []) ≡ range_with_len r.start r.len = append-nil (range_with_len (0 + r.start) r.len) ∙ ap (λ s. range_with_len s r.len) start in
    record {
      more = h.more ++ r ∷ [];
      appended = ap (λ xs. xs ++ r ∷ []) h.appended ∙ append_assoc before h.more (r ∷ []);
      some = All-push HasCell h.more r h.some segment.some;
      parts = h.parts
          ∙ ap (λ xs. cells_from 0 h.more ++ xs) segment.parts
          ∙ sym (append_assoc (cells_from 0 h.more) (range_with_len r.start r.len) later)
          ∙ ap (λ xs. (cells_from 0 h.more ++ xs) ++ later) (sym alone)
          ∙ ap (λ xs. xs ++ later) (sym (cells-append 0 h.more (r ∷ [])));
      few = omega (arith, h.few, segment.some, ap length segment.parts, length-append (range_with_len r.start r.len) later, length-range_with_len r.start r.len, length-append h.more (r ∷ []));
    }

pub listed_all : (before now : List Segment) (cells left : List ℕ) → ListsSoFar before now cells left → left ≡ [] → ListsSegments before now cells
listed_all before now cells left h none = record {
  more = h.more;
  appended = h.appended;
  some = h.some;
  parts = h.parts ∙ ap (λ xs. cells_from 0 h.more ++ xs) none ∙ append-nil (cells_from 0 h.more);
  few = omega (arith, h.few);
}

-- ---- segments that are gone through

module _ (first : ℕ) (segments : List Segment) (k : ℕ) (d : Segment) (below : k < length segments) where
  abbrev here : List ℕ
  here = range_with_len (first + (get_or segments k d).start) (get_or segments k d).len

  pub one_segment_more : cells_from first (take (k + 1) segments) ≡ cells_from first (take k segments) ++ here
  one_segment_more =
      ap (cells_from first) (take_more segments k d below)
      ∙ cells-append first (take k segments) (get_or segments k d ∷ [])
      ∙ ap (λ xs. cells_from first (take k segments) ++ xs) (append-nil here)

  pub segments_split : cells_from first segments ≡ (cells_from first (take k segments) ++ here) ++ cells_from first (drop (k + 1) segments)
  segments_split =
      ap (cells_from first) (sym (take-append-drop (k + 1) segments))
      ∙ cells-append first (take (k + 1) segments) (drop (k + 1) segments)
      ∙ ap (λ xs. xs ++ cells_from first (drop (k + 1) segments)) one_segment_more

-- where all cells of segments lie below a bound, the segments end by it
pub segments_end : (bound first : ℕ) (segments : List Segment) → All HasCell segments → All (λ c. c < bound) (cells_from first segments) → All (EndsBy bound first) segments
segments_end bound first segments some below = λ k d lt.
    let r : Segment = get_or segments k d in
    let cells : List ℕ = range_with_len (first + r.start) r.len in
    let parts = subst (All (λ c. c < bound)) (segments_split first segments k d lt) below in
    let so_far = (All-parts (λ c. c < bound) (cells_from first (take k segments) ++ cells) (cells_from first (drop (k + 1) segments)) parts).0 in
    let these = (All-parts (λ c. c < bound) (cells_from first (take k segments)) cells so_far).1 in
    let full : 1 ≤ r.len = some k d lt in
    let last : r.len - 1 < r.len = omega (arith, full) in
    omega (arith, full, these (r.len - 1) 0 (omega (arith, last, length-range_with_len (first + r.start) r.len)), get_or-range_with_len (first + r.start) r.len (r.len - 1) 0 last)
