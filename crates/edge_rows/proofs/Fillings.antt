-- What a filling's fields are after each step.
use Rattle.std.proofs.Common.{◌≡◌, ℕ, ◌+◌, ◌-◌, ◌<◌, ◌≤◌, ◌^◌, List, [], map, length, take, drop, get_or, set, sum, Some, None, refl, sym, ap, subst, ◌∙◌, arith}
use Rattle.std.proofs.lemmas.List.{length-map, get_or_default, take_all}
use Rattle.std.proofs.lemmas.List.Sums.{sum_by_more}
use Rattle.std.proofs.lemmas.Slice.Zip.{AllZip-long}
use Rattle.std.proofs.Math.ListN.{get_or-map}
use Rattle.edge_rows.specs.Rows.{Filling, with_value, with_each_changed, with_value_each, HasFreeSlot, EachHasFreeSlot, slots_left}
use Rattle.edge_rows.specs.inside.Layout.{gaps, rows_between}
use Rattle.edge_rows.specs.inside.Slices.{AreFree, contents_with}
use Rattle.edge_rows.specs.inside.FillFields.{filling_of, IsFilledAs, IsFilling}
use Rattle.edge_rows.specs.declared.fill.RowFill.TheInside.{Inside}
use Rattle.edge_rows.proofs.Laid.{end_of, length-starts, length-ends, length-laid, start_at, end_at, gaps-starts, read_back, fits-at, end_within, end_free, laid-put, ends-put, fits-put}
use Rattle.edge_rows.proofs.RunsLaid.{IsRunPut, run_put}

module _ (g : Inside) (f : Filling) (l : IsFilledAs g f) where
  pub shown : filling_of g ≡ f
  shown =
      let read : rows_between g.block g.starts.items g.ends.items ≡ f.rows =
      (λ i. rows_between (l.slots i) (l.starts i) (l.ends i)) ∙ read_back [] 0 f.rows f.lengths refl l.within.fits in
      let gap : gaps g.starts.items ≡ f.lengths = ap gaps l.starts ∙ gaps-starts 0 f.lengths in
      λ i. record { rows = read i; lengths = gap i }

  pub kept : IsFilling g
  kept = subst (IsFilledAs g) (sym shown) l

-- a filling f, a row of it that has room, and the end of that row as the fields have it
module _ (g : Inside) (ok : IsFilling g) (f : Filling) (is : filling_of g ≡ f) (r : ℕ) (room : HasFreeSlot f r) where
  had : IsFilledAs g f
  had = subst (IsFilledAs g) is ok

  pub end_listed : r < length g.ends.items
  end_listed = omega (arith, room.0, ap length had.ends, length-ends 0 f.rows f.lengths had.within.fits)

  module _ (end : ℕ) (read : end ≡ get_or g.ends.items r end) where
    end_read : end ≡ get_or g.ends.items r 0
    end_read = read ∙ get_or_default g.ends.items r end 0 end_listed

    end_is : end ≡ end_of f.rows f.lengths r
    end_is = omega (arith, end_read, ap (λ l. get_or l r 0) had.ends, end_at 0 f.rows f.lengths r had.within.fits room.0)

    pub end_small : end < 2 ^ 25
    end_small = omega (arith, end_is, end_within f.rows f.lengths r room.1, had.within.small.1)

    pub end_free_there : (end < length g.block) × (get_or g.block end None ≡ None)
    end_free_there = (
      omega (arith, end_is, end_within f.rows f.lengths r room.1, ap length had.slots, length-laid f.rows f.lengths had.within.fits),
      (λ i. get_or (had.slots i) (end_is i) None) ∙ end_free f.rows f.lengths r had.within.fits room.0 room.1,
    )

    pub put_lies : (h : Inside) (v : ℕ) → h.block ≡ set g.block end (Some v) → h.starts.items ≡ g.starts.items → h.ends.items ≡ set g.ends.items r (end + 1)
        → IsFilledAs h (record { rows = with_value f.rows r v; lengths = f.lengths })
    put_lies h v block starts ends =
        let next : end + 1 ≡ 0 + end_of f.rows f.lengths r + 1 = omega (arith, end_is) in
        record {
          within = record { fits = fits-put f.rows f.lengths r v had.within.fits room.1; small = had.within.small };
          slots = block ∙ (λ i. set (had.slots i) (end_is i) (Some v)) ∙ laid-put f.rows f.lengths r v had.within.fits room.0 room.1;
          starts = starts ∙ had.starts;
          ends = ends ∙ (λ i. set (had.ends i) r (next i)) ∙ ends-put 0 f.rows f.lengths r v had.within.fits room.0;
        }

-- a filling f, and rows of it that have room
module _ (g : Inside) (ok : IsFilling g) (f : Filling) (is : filling_of g ≡ f) (r n v : ℕ) (within : r + n ≤ length f.rows) (room : EachHasFreeSlot f r n) where
  stored : IsFilledAs g f
  stored = subst (IsFilledAs g) is ok

  run : IsRunPut f.rows f.lengths r n v
  run = run_put f.rows f.lengths r n v stored.within.fits within (λ c from to. (room c from to).1)

  pub run_listed : r + n ≤ length g.ends.items
  run_listed = omega (arith, within, ap length stored.ends, length-ends 0 f.rows f.lengths stored.within.fits)

  pub run_free : (ends : List ℕ) (count : ℕ) → ends ≡ g.ends.items → count ≡ n → AreFree g.block (take count (drop r ends)) v
  run_free ends count same is =
      rw (same, is, stored.slots, stored.ends) run.free

  pub block_small : length g.block < 2 ^ 32
  block_small = omega (arith, ap length stored.slots, length-laid f.rows f.lengths stored.within.fits, stored.within.small.1)

  pub run_lies : (h : Inside) → h.block ≡ contents_with g.block (take n (drop r g.ends.items)) v → h.starts.items ≡ g.starts.items → h.ends.items ≡ with_each_changed (λ end. end + 1) g.ends.items r n
      → IsFilledAs h (record { rows = with_value_each f.rows r n v; lengths = f.lengths })
  run_lies h block starts ends =
      record {
        within = record { fits = run.fits; small = stored.within.small };
        slots = block ∙ (λ i. contents_with (stored.slots i) (take n (drop r (stored.ends i))) v) ∙ run.slots;
        starts = starts ∙ stored.starts;
        ends = ends ∙ (λ i. with_each_changed (λ end. end + 1) (stored.ends i) r n) ∙ run.ends;
      }

-- a filling f, and what one of its rows has left
abbrev pub LeftSoFar : Filling → ℕ → ℕ → Type 0
LeftSoFar f r left = left + sum (take r (map length f.rows)) ≡ sum (take r f.lengths)

module _ (g : Inside) (ok : IsFilling g) (f : Filling) (is : filling_of g ≡ f) where
  held : IsFilledAs g f
  held = subst (IsFilledAs g) is ok

  ends_long : length g.ends.items ≡ length f.rows
  ends_long = ap length held.ends ∙ length-ends 0 f.rows f.lengths held.within.fits

  rows_long : length f.rows ≡ length f.lengths
  rows_long = sym (AllZip-long (λ xs n. length xs ≤ n) f.rows f.lengths held.within.fits)

  -- once all rows are looked at
  pub left_of_all : (r left : ℕ) → length g.ends.items ≤ r → LeftSoFar f r left → left ≡ slots_left f
  left_of_all r left whole so_far =
      omega (arith, so_far, ap sum (take_all r (map length f.rows) (omega (arith, whole, ends_long, length-map f.rows length))), ap sum (take_all r f.lengths (omega (arith, whole, ends_long, rows_long))))

  module _ (r : ℕ) (lt : r < length g.ends.items) where
    pub next_listed : r + 1 < length g.starts.items
    next_listed = omega (arith, lt, ends_long, rows_long, ap length held.starts, length-starts 0 f.lengths)

    module _ (end next : ℕ) (read_end : end ≡ get_or g.ends.items r end) (read_next : next ≡ get_or g.starts.items (r + 1) next) where
      row_end : end ≡ end_of f.rows f.lengths r
      row_end =
          omega (arith, read_end ∙ get_or_default g.ends.items r end 0 lt, ap (λ l. get_or l r 0) held.ends, end_at 0 f.rows f.lengths r held.within.fits (omega (arith, lt, ends_long)))

      next_start : next ≡ sum (take (r + 1) f.lengths)
      next_start =
          omega (
            arith,
            read_next ∙ get_or_default g.starts.items (r + 1) next 0 next_listed,
            ap (λ l. get_or l (r + 1) 0) held.starts,
            start_at 0 f.lengths (r + 1) (omega (arith, lt, ends_long, rows_long)),
          )

      here : sum (take (r + 1) f.lengths) ≡ sum (take r f.lengths) + get_or f.lengths r 0
      here = omega (arith, sum_by_more (λ k. k) f.lengths r 0 (omega (arith, lt, ends_long, rows_long)))

      pub forward : end ≤ next
      forward = omega (arith, row_end, next_start, here, fits-at f.rows f.lengths r held.within.fits)

      pub left_of_one_more : (left : ℕ) → LeftSoFar f r left → LeftSoFar f (r + 1) (left + (next - end))
      left_of_one_more left so_far =
          omega (
            arith,
            so_far,
            row_end,
            next_start,
            here,
            fits-at f.rows f.lengths r held.within.fits,
            sum_by_more (λ k. k) (map length f.rows) r 0 (omega (arith, lt, ends_long, length-map f.rows length)),
            get_or-map length f.rows r [],
          )
