-- The ends of a box that are read one pair after the other.
use Rattle.std.proofs.Common.{◌≡◌, ℕ, zero, suc, ◌+◌, ◌-◌, ◌<◌, List, [], ◌∷◌, ◌++◌, length, take, set, replicate, refl, sym, ap, ◌∙◌, arith, append_assoc, append-nil, add-one, length-append}
use Rattle.std.specs.Prelude.{ℤ, pos}
use Rattle.std.specs.List.{AllZip}
use Rattle.std.specs.Fmt.{signed_decimal}
use Rattle.std.proofs.lemmas.List.{take_at, set_at}
use Rattle.std.proofs.lemmas.List.Elements.{AllZip-push}
use Rattle.plant_record.specs.declared.aims.StateBox.{StateBox}
use Rattle.plant_record.specs.StateBoxes.{AreEnds}
use Rattle.plant_record.specs.Spelling.{end_words}
use Rattle.statement_words.specs.LineReaders.{StartsWithEnds, SpellsBox}

-- The first i ends of a box are read, and its other positions are 0.
pub record AreRead (i : ℕ) (low high : List ℤ) (words rest : List (List ℕ)) : Type 0 where
  pub lows : List ℤ
  pub highs : List ℤ
  pub low_is : low ≡ lows ++ replicate (6 - i) (pos 0)
  pub high_is : high ≡ highs ++ replicate (6 - i) (pos 0)
  pub low_count : length lows ≡ i
  pub high_count : length highs ≡ i
  pub ends : AllZip AreEnds lows highs
  pub text : words ≡ end_words i lows highs ++ rest

pub none_read : (words : List (List ℕ)) → AreRead 0 (replicate 6 (pos 0)) (replicate 6 (pos 0)) words words
none_read words = record { lows = []; highs = []; low_is = refl; high_is = refl; low_count = refl; high_count = refl; ends = tt; text = refl }

end_words_more : (i : ℕ) (lows highs : List ℤ) (l h : ℤ) → length lows ≡ i → length highs ≡ i → end_words (suc i) (lows ++ l ∷ []) (highs ++ h ∷ []) ≡ end_words i lows highs ++ (signed_decimal l ∷ signed_decimal h ∷ [])
end_words_more zero [] [] l h e f = refl
end_words_more zero [] (x ∷ highs) l h e f = absurd (omega (arith, f))
end_words_more zero (x ∷ lows) highs l h e f = absurd (omega (arith, e))
end_words_more (suc i) [] highs l h e f = absurd (omega (arith, e))
end_words_more (suc i) (x ∷ lows) [] l h e f = absurd (omega (arith, f))
end_words_more (suc i) (x ∷ lows) (y ∷ highs) l h e f = ap (λ (ws : List (List ℕ)). signed_decimal x ∷ signed_decimal y ∷ ws) (end_words_more i lows highs l h (omega (arith, e)) (omega (arith, f)))

written : (i : ℕ) (xs ys : List ℤ) (z : ℤ) → i < 6 → xs ≡ ys ++ replicate (6 - i) (pos 0) → length ys ≡ i → set xs i z ≡ (ys ++ z ∷ []) ++ replicate (6 - (i + 1)) (pos 0)
written i xs ys z lt e n =
    let one : 6 - i ≡ suc (6 - (i + 1)) = omega arith in
    rw (e, one, set_at ys (pos 0) (replicate (6 - (i + 1)) (pos 0)) z i n, append_assoc) refl

-- one pair more
pub one_read_more : (i : ℕ) (low high : List ℤ) (words rest others : List (List ℕ)) (l h : ℤ) → i < 6 → AreRead i low high words rest → StartsWithEnds rest ((l, h), others) → AreRead (i + 1) (set low i l) (set high i h) words others
one_read_more i low high words rest others l h lt r s = record {
  lows = r.lows ++ l ∷ [];
  highs = r.highs ++ h ∷ [];
  low_is = written i low r.lows l lt r.low_is r.low_count;
  high_is = written i high r.highs h lt r.high_is r.high_count;
  low_count = omega (arith, length-append r.lows (l ∷ []), r.low_count);
  high_count = omega (arith, length-append r.highs (h ∷ []), r.high_count);
  ends = AllZip-push AreEnds r.lows r.highs l h r.ends s.0;
  text = r.text ∙ rw (add-one, end_words_more i r.lows r.highs l h r.low_count r.high_count, append_assoc, s.1) refl;
}

end_words_front : (n : ℕ) (lows highs others more : List ℤ) → length lows ≡ n → length highs ≡ n → end_words n (lows ++ others) (highs ++ more) ≡ end_words n lows highs
end_words_front zero lows highs others more e f = refl
end_words_front (suc n) [] highs others more e f = absurd (omega (arith, e))
end_words_front (suc n) (x ∷ lows) [] others more e f = absurd (omega (arith, f))
end_words_front (suc n) (x ∷ lows) (y ∷ highs) others more e f = ap (λ (ws : List (List ℕ)). signed_decimal x ∷ signed_decimal y ∷ ws) (end_words_front n lows highs others more (omega (arith, e)) (omega (arith, f)))

-- all pairs are read, and no word is left
pub all_read : (n : ℕ) (low high : List ℤ) (words rest : List (List ℕ)) → AreRead n low high words rest → rest ≡ [] → SpellsBox n words (record { low = low; high = high })
all_read n low high words rest r e =
    let lows-are : take n low ≡ r.lows = ap (take n) r.low_is ∙ take_at r.lows (replicate (6 - n) (pos 0)) n r.low_count in
    let highs-are : take n high ≡ r.highs = ap (take n) r.high_is ∙ take_at r.highs (replicate (6 - n) (pos 0)) n r.high_count in (
      r.text ∙ rw (e, append-nil) (sym (rw (r.low_is, r.high_is) (end_words_front n r.lows r.highs (replicate (6 - n) (pos 0)) (replicate (6 - n) (pos 0)) r.low_count r.high_count))),
      record {
        low_rest = rw lows-are r.low_is;
        high_rest = rw highs-are r.high_is;
        low_count = rw lows-are r.low_count;
        ends = rw (lows-are, highs-are) r.ends;
      },
    )

-- ---- what a box has after the ends that are read

ends_after : (i n : ℕ) (lows highs low high : List ℤ) (rest : List (List ℕ)) → length lows ≡ i → length highs ≡ i → end_words i lows highs ++ rest ≡ end_words n low high → length (take n low) ≡ n → AllZip AreEnds (take n low) (take n high) → i < n → (y : (ℤ × ℤ) × List (List ℕ)) × StartsWithEnds rest y
ends_after i zero lows highs low high rest e f text count ends lt = absurd (omega (arith, lt))
ends_after i (suc n) lows highs [] high rest e f text count ends lt = absurd (omega (arith, count))
ends_after i (suc n) lows highs (x ∷ low) [] rest e f text count ends lt = absurd ends
ends_after zero (suc n) lows highs (x ∷ low) (y ∷ high) rest e f text count ends lt = (((x, y), end_words n low high), (ends.0, text))
ends_after (suc i) (suc n) [] highs (x ∷ low) (y ∷ high) rest e f text count ends lt = absurd (omega (arith, e))
ends_after (suc i) (suc n) (l ∷ lows) [] (x ∷ low) (y ∷ high) rest e f text count ends lt = absurd (omega (arith, f))
ends_after (suc i) (suc n) (l ∷ lows) (h ∷ highs) (x ∷ low) (y ∷ high) rest e f text count ends lt =
    ends_after i n lows highs low high rest (omega (arith, e)) (omega (arith, f)) (cc text) (omega (arith, count)) ends.1 (omega (arith, lt))

nothing_after : (n : ℕ) (lows highs low high : List ℤ) (rest : List (List ℕ)) → length lows ≡ n → length highs ≡ n → end_words n lows highs ++ rest ≡ end_words n low high → length (take n low) ≡ n → AllZip AreEnds (take n low) (take n high) → rest ≡ []
nothing_after zero lows highs low high rest e f text count ends = text
nothing_after (suc n) lows highs [] high rest e f text count ends = absurd (omega (arith, count))
nothing_after (suc n) lows highs (x ∷ low) [] rest e f text count ends = absurd ends
nothing_after (suc n) [] highs (x ∷ low) (y ∷ high) rest e f text count ends = absurd (omega (arith, e))
nothing_after (suc n) (l ∷ lows) [] (x ∷ low) (y ∷ high) rest e f text count ends = absurd (omega (arith, f))
nothing_after (suc n) (l ∷ lows) (h ∷ highs) (x ∷ low) (y ∷ high) rest e f text count ends =
    nothing_after n lows highs low high rest (omega (arith, e)) (omega (arith, f)) (cc text) (omega (arith, count)) ends.1

pub next_ends : (i n : ℕ) (low high : List ℤ) (words rest : List (List ℕ)) → AreRead i low high words rest → i < n → (b : StateBox) → SpellsBox n words b → (y : (ℤ × ℤ) × List (List ℕ)) × StartsWithEnds rest y
next_ends i n low high words rest r lt b h = ends_after i n r.lows r.highs b.low b.high rest r.low_count r.high_count (sym r.text ∙ h.0) h.1.low_count h.1.ends lt

pub no_more_ends : (i n : ℕ) (low high : List ℤ) (words rest : List (List ℕ)) → AreRead i low high words rest → i ≡ n → (b : StateBox) → SpellsBox n words b → rest ≡ []
no_more_ends i n low high words rest r e b h =
    nothing_after n r.lows r.highs b.low b.high rest (r.low_count ∙ e) (r.high_count ∙ e) (ap (λ k. end_words k r.lows r.highs ++ rest) (sym e) ∙ sym r.text ∙ h.0) h.1.low_count h.1.ends
