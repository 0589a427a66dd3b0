-- The slots in a band of the cells that lie in it.
use Rattle.std.proofs.Common.{◌≡◌, ℕ, zero, suc, ◌+◌, ◌-◌, ◌<◌, ◌≤◌, Bool, true, false, ◌==◌, ◌&&◌, leb, ltb, cond, List, [], ◌∷◌, ◌++◌, All, length, map, get_or, refl, sym, ap, subst, ◌∙◌, arith, inl, inr, append-nil}
use Rattle.std.specs.List.{filter, range_with_len}
use Rattle.std.proofs.lemmas.Bool.{cases_lt, le-leb, lt-leb, lt-ltb, le-ltb, and_from, and_left, and_right, eq-eqb, ne_eqb}
use Rattle.std.proofs.lemmas.List.{map-append}
use Rattle.std.proofs.lemmas.List.Elements.{All-cons, All-head, All-tail, filter-append}
use Rattle.std.proofs.lemmas.List.FromFn.{length-range_with_len, get_or-range_with_len}
use Rattle.std.proofs.lemmas.List.Sums.{sum_by-cons}
use Rattle.rayon.specs.Shown.{run-append}
use Rattle.game_core.specs.Counts.{times}
use Rattle.source_lists.specs.inside.Tallies.{slots_in}
use Rattle.source_lists.proofs.Tallying.{by_cell}

module _ (from len : ℕ) where
  abbrev lies_here : ℕ → Bool
  lies_here c = leb from c && ltb c (from + len)

  -- a cell that lies in the band, or one that doesn't
  pub by_band : {P : Type 0} (c : ℕ) → (from ≤ c → c < from + len → lies_here c ≡ true → P) → ((from ≤ c → c < from + len → ⊥) → lies_here c ≡ false → P) → P
  by_band c inside outside =
      elim (cases_lt c from) [
        | inl before ↦ outside (λ low high. omega (arith, before, low)) (and_left (leb from c) (ltb c (from + len)) (lt-leb from c before))
        | inr low ↦ elim (cases_lt c (from + len)) [
          | inl high ↦ inside low high (and_from (leb from c) (ltb c (from + len)) (le-leb from c low) (lt-ltb c (from + len) high))
          | inr past ↦ outside (λ low high. omega (arith, past, high)) (and_right (leb from c) (ltb c (from + len)) (le-ltb c (from + len) past))
        ]
      ]

  kept : (c : ℕ) (cells : List ℕ) → lies_here c ≡ true → slots_in from len (c ∷ cells) ≡ (c - from) ∷ slots_in from len cells
  kept c cells here = rw here refl

  dropped : (c : ℕ) (cells : List ℕ) → lies_here c ≡ false → slots_in from len (c ∷ cells) ≡ slots_in from len cells
  dropped c cells here = rw here refl

  pub slots-append : (xs ys : List ℕ) → slots_in from len (xs ++ ys) ≡ slots_in from len xs ++ slots_in from len ys
  slots-append xs ys = ap (map (λ c. c - from)) (filter-append lies_here xs ys) ∙ map-append (λ c. c - from) (filter lies_here xs) (filter lies_here ys)

  -- a cell of the band has its slot as often as it stands among cells
  pub slots-times : (i : ℕ) (cells : List ℕ) → i < len → times i (slots_in from len cells) ≡ times (from + i) cells
  slots-times i [] below = refl
  slots-times i (c ∷ cells) below =
      by_band c
      (λ low high here.
      ap (times i) (kept c cells here)
      ∙ sum_by-cons (λ x. cond (x == i) 1 0) (c - from) (slots_in from len cells)
      ∙ ap (λ (n : ℕ). cond (c - from == i) 1 0 + n) (slots-times i cells below)
      ∙ ap (λ (b : Bool). cond b 1 0 + times (from + i) cells) (same_test c low)
      ∙ sym (sum_by-cons (λ x. cond (x == from + i) 1 0) c cells))
      (λ outside here.
      ap (times i) (dropped c cells here)
      ∙ slots-times i cells below
      ∙ (let none : times (from + i) cells ≡ 0 + times (from + i) cells = omega arith in none)
      ∙ ap (λ (b : Bool). cond b 1 0 + times (from + i) cells) (sym (other_test c outside))
      ∙ sym (sum_by-cons (λ x. cond (x == from + i) 1 0) c cells))
    where
      same_test : (c : ℕ) → from ≤ c → (c - from == i) ≡ (c == from + i)
      same_test c low =
          by_cell (c - from) i
          (λ same. eq-eqb (c - from) i same ∙ sym (eq-eqb c (from + i) (omega (arith, same, low))))
          (λ other. ne_eqb (c - from) i other ∙ sym (ne_eqb c (from + i) (λ same. other (omega (arith, same)))))

      other_test : (c : ℕ) → (from ≤ c → c < from + len → ⊥) → (c == from + i) ≡ false
      other_test c outside = ne_eqb c (from + i) (λ same. outside (omega (arith, same)) (omega (arith, same, below)))

  pub slots-within : (cells : List ℕ) → All (λ i. i < len) (slots_in from len cells)
  slots-within [] = λ k d lt. absurd (omega (arith, lt))
  slots-within (c ∷ cells) =
      by_band c
      (λ low high here. subst (All (λ i. i < len)) (sym (kept c cells here)) (All-cons (λ i. i < len) (c - from) (slots_in from len cells) (omega (arith, low, high)) (slots-within cells)))
      (λ outside here. subst (All (λ i. i < len)) (sym (dropped c cells here)) (slots-within cells))

  pub slots-length : (cells : List ℕ) → length (slots_in from len cells) ≤ length cells
  slots-length [] = omega arith
  slots-length (c ∷ cells) =
      by_band c
      (λ low high here. omega (arith, ap length (kept c cells here), slots-length cells))
      (λ outside here. omega (arith, ap length (dropped c cells here), slots-length cells))

  -- where no cell lies in the band there are no slots
  pub slots-none : (cells : List ℕ) → All (λ c. from ≤ c → c < from + len → ⊥) cells → slots_in from len cells ≡ []
  slots-none [] each = refl
  slots-none (c ∷ cells) each =
      by_band c
      (λ low high here. absurd (All-head (λ c. from ≤ c → c < from + len → ⊥) c cells each low high))
      (λ outside here. dropped c cells here ∙ slots-none cells (All-tail (λ c. from ≤ c → c < from + len → ⊥) c cells each))

  -- a segment of cells of which none lies in the band
  pub segment_outside : (a n : ℕ) → ((c : ℕ) → a ≤ c → c < a + n → from ≤ c → c < from + len → ⊥) → slots_in from len (range_with_len a n) ≡ []
  segment_outside a n outside =
      slots-none (range_with_len a n) (λ k d lt low high.
      let below : k < n = omega (arith, lt, length-range_with_len a n) in
      let is : get_or (range_with_len a n) k d ≡ a + k = get_or-range_with_len a n k d below in
      outside (a + k) (omega arith) (omega (arith, below)) (omega (arith, low, is)) (omega (arith, high, is)))

  -- a segment of cells that all lie in the band
  pub segment_inside : (a n : ℕ) → from ≤ a → a + n ≤ from + len → slots_in from len (range_with_len a n) ≡ range_with_len (a - from) n
  segment_inside a zero low high = refl
  segment_inside a (suc n) low high =
      kept a (range_with_len (a + 1) n) (and_from (leb from a) (ltb a (from + len)) (le-leb from a low) (lt-ltb a (from + len) (omega (arith, high))))
      ∙ ap (λ (cells : List ℕ). (a - from) ∷ cells) (segment_inside (a + 1) n (omega (arith, low)) (omega (arith, high)) ∙ ap (λ (x : ℕ). range_with_len x n) (let e : a + 1 - from ≡ a - from + 1 = omega (arith, low) in e))

  -- the part of a segment that lies in the band
  pub segment_clipped : (a n low high : ℕ) → a ≤ low → low ≤ high → high ≤ a + n → from ≤ low → high ≤ from + len →
      ((c : ℕ) → a ≤ c → c < low → c < from) → ((c : ℕ) → high ≤ c → c < a + n → from + len ≤ c) →
      slots_in from len (range_with_len a n) ≡ range_with_len (low - from) (high - low)
  segment_clipped a n low high first order last low_in high_in before appended =
      ap (λ (m : ℕ). slots_in from len (range_with_len a m)) (let e : n ≡ low - a + (high - low + (a + n - high)) = omega (arith, first, order, last) in e)
      ∙ ap (slots_in from len) (sym (run-append a (low - a) (high - low + (a + n - high))))
      ∙ slots-append (range_with_len a (low - a)) (range_with_len (a + (low - a)) (high - low + (a + n - high)))
      ∙ ap (λ (cells : List ℕ). cells ++ slots_in from len (range_with_len (a + (low - a)) (high - low + (a + n - high))))
      (segment_outside a (low - a) (λ c from_a to_low inside past. omega (arith, inside, before c from_a (omega (arith, to_low, first)))))
      ∙ ap (λ (x : ℕ). slots_in from len (range_with_len x (high - low + (a + n - high)))) (let e : a + (low - a) ≡ low = omega (arith, first) in e)
      ∙ ap (slots_in from len) (sym (run-append low (high - low) (a + n - high)))
      ∙ slots-append (range_with_len low (high - low)) (range_with_len (low + (high - low)) (a + n - high))
      ∙ ap (λ (cells : List ℕ). cells ++ slots_in from len (range_with_len (low + (high - low)) (a + n - high)))
      (segment_inside low (high - low) low_in (omega (arith, order, high_in)))
      ∙ ap (λ (cells : List ℕ). range_with_len (low - from) (high - low) ++ cells)
      (segment_outside (low + (high - low)) (a + n - high) (λ c from_high to_end inside past. omega (arith, past, appended c (omega (arith, from_high, order)) (omega (arith, to_end, order, last)))))
      ∙ append-nil (range_with_len (low - from) (high - low))
