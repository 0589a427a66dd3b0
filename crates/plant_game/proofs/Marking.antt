-- Cells that are given a mark, segment by segment and box by box.
use Rattle.std.proofs.Common.{◌≡◌, ◌⊎◌, ◌↔◌, ℕ, suc, ◌+◌, ◌-◌, ◌*◌, ◌/◌, ◌%◌, ◌<◌, ◌≤◌, arith, rules, refl, sym, ap, ◌∙◌, List, [], ◌∷◌, ◌++◌, All, map, length, replicate, get_or, Option, None, Some, inl, inr, subst, append_assoc, length-append}
use borrow.Rule.Slice.PartMut.{put_mid}
use Rattle.std.specs.List.{Contains, flat_map, range_with_len}
use Rattle.std.proofs.lemmas.Bool.{cases_lt, false≢true}
use Rattle.std.proofs.lemmas.List.{places}
use Rattle.std.proofs.lemmas.List.Elements.{All-nil, All-cons, All-head, All-tail, All-append, All-map, All-weaker, Contains-append_left, Contains-append_right, Contains-append_cases}
use Rattle.std.proofs.lemmas.List.FromFn.{length-range_with_len, get_or-range_with_len}
use Rattle.std.proofs.lemmas.Nat.{mul-add-lt}
use Rattle.std.proofs.Math.Nat.{mul_comm}
use Rattle.grid_quantiser.specs.declared.axis.Axis.{Axis}
use Rattle.grid_quantiser.specs.declared.boxes.CellBox.{CellBox}
use Rattle.rayon.proofs.ListFacts.{All-parts}
use Rattle.grid_quantiser.specs.Axes.{cells_of}
use Rattle.grid_quantiser.specs.CellBoxes.{IsBoxWith, IsCellBox, cells_between}
use Rattle.grid_quantiser.specs.Segments.{BeginsWithSegment}
use Rattle.game_core.specs.declared.game.Mark.{Mark}
use Rattle.game_core.specs.declared.game.Mark.TheVariants.{Plain}
use Rattle.successor_box.specs.SuccessorBoxes.{cells_in}
use Rattle.plant_game.specs.Marks.{AreMarked}

-- the same cells by another property
pub marked_likewise : (mark : Mark) (P Q : ℕ → Type 0) (before after : List Mark) → ((c : ℕ) → c < length before → P c ↔ Q c) → AreMarked mark P before after → AreMarked mark Q before after
marked_likewise mark P Q before after same marked = record {
  long = marked.long;
  each = λ c below. elim (marked.each c below) [
    | inl has ↦ inl ((same c below).0 has.0, has.1)
    | inr none ↦ inr (λ q. none.0 ((same c below).1 q), none.1)
  ];
}

-- no cell has a property that none has
pub none_marked : (mark : Mark) (P : ℕ → Type 0) (marks : List Mark) → ((c : ℕ) → P c → ⊥) → AreMarked mark P marks marks
none_marked mark P marks none = record { long = refl; each = λ c below. inr (none c, refl) }

-- one mark after another
pub more_marked : (mark : Mark) (P Q : ℕ → Type 0) (before between after : List Mark) → AreMarked mark P before between → AreMarked mark Q between after → AreMarked mark (λ c. P c ⊎ Q c) before after
more_marked mark P Q before between after first second = record {
  long = second.long ∙ first.long;
  each = λ c below.
      let there : c < length between = omega (arith, below, first.long) in
      elim (second.each c there) [
        | inl has ↦ inl (inr has.0, has.1)
        | inr none ↦ elim (first.each c below) [
          | inl had ↦ inl (inl had.0, none.1 ∙ had.1)
          | inr never ↦ inr (λ either. elim either [ inl p ↦ never.0 p | inr q ↦ none.0 q ], none.1 ∙ never.1)
        ]
      ];
}

-- ---- a segment

module _ (mark : Mark) (marks : List Mark) (first len : ℕ) (within : first + len ≤ length marks) where
  in_range : (c : ℕ) → first ≤ c → c < first + len → Contains (range_with_len first len) c
  in_range c above below =
      let short : c - first < len = omega arith in
      (c - first, omega (arith, short, length-range_with_len first len), get_or-range_with_len first len (c - first) c short ∙ (let e : first + (c - first) ≡ c = omega arith in e))

  range_in : (c : ℕ) → Contains (range_with_len first len) c → (first ≤ c) × (c < first + len)
  range_in c has =
      let short : has.0 < len = omega (arith, has.1, length-range_with_len first len) in
      let is : first + has.0 ≡ c = sym (get_or-range_with_len first len has.0 c short) ∙ has.2 in
      (omega (arith, is), omega (arith, is, short))

  segment_marked : AreMarked mark (Contains (range_with_len first len)) marks (put_mid first len marks (replicate len mark))
  segment_marked = record {
    long = search (rules, places);
    each = λ c below. elim (cases_lt c first) [
      | inl front ↦ inr (λ has. omega (arith, front, (range_in c has).0), search (rules, places))
      | inr past ↦ elim (cases_lt c (first + len)) [
        | inl here ↦ inl (in_range c past here, search (rules, places))
        | inr later ↦ inr (λ has. omega (arith, later, (range_in c has).1), search (rules, places))
      ]
    ];
  }

-- the part of a slice that is filled
pub segment_filled : (mark : Mark) (marks filled : List Mark) (first len k : ℕ) → first + len ≤ length marks → k ≡ len → filled ≡ replicate k mark →
    AreMarked mark (Contains (range_with_len first len)) marks (put_mid first k marks filled)
segment_filled mark marks filled first len k within is all = rw (all, is) (segment_marked mark marks first len within)

-- the cells that are done, and the next segment
pub cells_marked : (mark : Mark) (cells segment : List ℕ) (before between after : List Mark) → AreMarked mark (Contains cells) before between → AreMarked mark (Contains segment) between after →
    AreMarked mark (Contains (cells ++ segment)) before after
cells_marked mark cells segment before between after first second =
    marked_likewise mark (λ c. Contains cells c ⊎ Contains segment c) (Contains (cells ++ segment)) before after
    (λ c below. (
      λ (either : Contains cells c ⊎ Contains segment c). elim either [ inl has ↦ Contains-append_left cells segment c has | inr has ↦ Contains-append_right cells segment c has ],
      λ has. Contains-append_cases cells segment c has,
    ))
    (more_marked mark (Contains cells) (Contains segment) before between after first second)

-- ---- segments that are gone through one by one

-- the cells of the next segment lie where all cells do
pub segment_below : (n : ℕ) (done cells later : List ℕ) (first len : ℕ) → All (λ c. c < n) (done ++ cells) → BeginsWithSegment cells later first len → first + len ≤ n
segment_below n done cells later first len within segment =
    let left : All (λ c. c < n) cells = (All-parts (λ c. c < n) done cells within).1 in
    let here : All (λ c. c < n) (range_with_len first len) = (All-parts (λ c. c < n) (range_with_len first len) later (subst (λ (xs : List ℕ). All (λ c. c < n) xs) segment.parts left)).0 in
    let last : len - 1 < len = omega (arith, segment.some) in
    omega (arith, segment.some, here (len - 1) 0 (omega (arith, last, length-range_with_len first len)), get_or-range_with_len first len (len - 1) 0 last)

-- less is left
pub segment_shorter : (cells later : List ℕ) (first len : ℕ) → BeginsWithSegment cells later first len → length later < length cells
segment_shorter cells later first len segment = omega (arith, segment.some, ap length segment.parts, length-append (range_with_len first len) later, length-range_with_len first len)

-- the cells that are done, and the segment
pub segment_done : (all done cells later : List ℕ) (first len : ℕ) → all ≡ done ++ cells → BeginsWithSegment cells later first len → all ≡ (done ++ range_with_len first len) ++ later
segment_done all done cells later first len parts segment = parts ∙ ap (λ (xs : List ℕ). done ++ xs) segment.parts ∙ sym (append_assoc done (range_with_len first len) later)

-- ---- a box

module _ {A : Type 0} (P : ℕ → Type 0) (f : A → List ℕ) where
  all_joined : (xs : List A) → All (λ x. All P (f x)) xs → All P (flat_map f xs)
  all_joined [] each = All-nil P
  all_joined (x ∷ xs) each = All-append P (f x) (flat_map f xs) (All-head (λ y. All P (f y)) x xs each) (all_joined xs (All-tail (λ y. All P (f y)) x xs each))

-- the cells of a box are cells
pub box_below : (axes : List Axis) (f l : ℕ) → IsCellBox axes f l → All (λ c. c < cells_of axes) (cells_between axes f l)
box_below [] f l box = All-cons (λ c. c < 1) 0 [] (omega arith) (All-nil (λ c. c < 1))
box_below (a ∷ axes) f l box =
    let n : ℕ = cells_of axes in
    let part : List ℕ = cells_between axes (f % n) (l % n) in
    let extent : ℕ = suc (l / n) - f / n in
    all_joined (λ c. c < a.count * n) (λ index. map (λ c. index * n + c) part) (range_with_len (f / n) extent) (λ k d lt.
    let index : ℕ = get_or (range_with_len (f / n) extent) k d in
    let short : k < extent = omega (arith, lt, length-range_with_len (f / n) extent) in
    let row : index < a.count = omega (arith, short, get_or-range_with_len (f / n) extent k d short, box.0, box.1) in
    All-map (λ c. c < a.count * n) (λ c. index * n + c) part
    (All-weaker (λ c. c < n) (λ c. index * n + c < a.count * n) (λ c lt. omega (arith, mul-add-lt index n c a.count row lt, mul_comm a.count n)) part (box_below axes (f % n) (l % n) box.2)))

-- no cell stands in an empty list
pub nothing_in : (c : ℕ) → Contains [] c → ⊥
nothing_in c has = omega (arith, has.1)

-- the cells of the box of those with a property
pub box_marked : (mark : Mark) (axes : List Axis) (P : ℕ → Type 0) (found : Option CellBox) (before after : List Mark) → IsBoxWith axes P found → AreMarked mark (Contains (cells_in axes found)) before after →
    AreMarked mark P before after
box_marked mark axes P None before after box marked =
    marked_likewise mark (Contains []) P before after (λ c below. (λ has. absurd (nothing_in c has), λ has. absurd (false≢true (box.some.1 (c, has))))) marked
box_marked mark axes P (Some b) before after box marked =
    marked_likewise mark (Contains (cells_in axes (Some b))) P before after (λ c below. box.exactly c) marked
