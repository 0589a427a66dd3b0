-- Rows of elements, of which the first are written anew.
use Rattle.std.proofs.Common.{◌≡◌, ℕ, ◌+◌, ◌-◌, ◌*◌, ◌<◌, ◌≤◌, List, length, take, drop, get_or, refl, sym, ap, subst, ◌∙◌, arith, rules, inl, inr}
use borrow.Rule.Slice.PartMut.{put_mid}
use Rattle.std.proofs.lemmas.Bool.{cases_lt}
use Rattle.std.proofs.lemmas.List.{places, get_or_default}
use Rattle.std.proofs.lemmas.Nat.{row_fits, mul-le}
use Rattle.std.proofs.Math.Nat.{add-mul}

-- The rows from one on up to another lie from an element on, among so many.
pub record AreRows (v start end at wide all : ℕ) : Type 0 where
  pub first : at ≡ start * v
  pub last : at + wide ≡ end * v
  pub some : start < end
  pub within : at + wide ≤ all

-- The first rows are as they are to be, and the elements after them as they were.
pub record AreWrittenBelow {X : Type 0} (P : ℕ → ℕ → X → Type 0) (v : ℕ) (d : X) (row : ℕ) (before now : List X) : Type 0 where
  pub long : length now ≡ length before
  pub each : (k u : ℕ) → k < row → u < v → P k u (get_or now (k * v + u) d)
  pub left : (i : ℕ) → row * v ≤ i → get_or now i d ≡ get_or before i d

module _ {X : Type 0} (v : ℕ) (d : X) where
  pub none_written : (P : ℕ → ℕ → X → Type 0) (before : List X) → AreWrittenBelow P v d 0 before before
  none_written P before = record { long = refl; each = λ k u none. absurd (omega (arith, none)); left = λ i from. refl }

  -- the rows have another property as well
  pub rows_likewise : (P Q : ℕ → ℕ → X → Type 0) (row : ℕ) (before now : List X) → ((k u : ℕ) (x : X) → k < row → P k u x → Q k u x) → AreWrittenBelow P v d row before now → AreWrittenBelow Q v d row before now
  rows_likewise P Q row before now so so_far = record { long = so_far.long; each = λ k u lt input. so k u (get_or now (k * v + u) d) lt (so_far.each k u lt input); left = so_far.left }

module _ {X : Type 0} {v start end at wide : ℕ} (now : List X) (rows : AreRows v start end at wide (length now)) where
  place_in : (k u : ℕ) → at + (k * v + u) ≡ (start + k) * v + u
  place_in k u = omega (arith, rows.first, add-mul start k v)

  pub among : (k u : ℕ) → start + k < end → u < v → k * v + u < wide
  among k u lt input = omega (arith, place_in k u, rows.last, row_fits (start + k) v end v lt (omega arith), input)

  pub rows_wide : wide ≡ (end - start) * v
  rows_wide = omega (arith, rows.first, rows.last, add-mul start (end - start) v, ap (λ (n : ℕ). n * v) (let e : start + (end - start) ≡ end = omega (arith, rows.some) in e))

  pub rows_long : length (take wide (drop at now)) ≡ wide
  rows_long = let within = rows.within in search (rules, places)

  module _ {P : ℕ → ℕ → X → Type 0} {d : X} {before : List X} (so_far : AreWrittenBelow P v d start before now) where
    -- the rows are still as they were
    pub part_was : (i : ℕ) (e : X) → i < wide → get_or (take wide (drop at now)) i e ≡ get_or before (at + i) d
    part_was i e lt =
        let read : get_or (take wide (drop at now)) i e ≡ get_or now (at + i) e = search (rules, places) in
        read ∙ get_or_default now (at + i) e d (omega (arith, lt, rows.within)) ∙ so_far.left (at + i) (omega (arith, rows.first))

    pub rows_were : (k u : ℕ) (e : X) → start + k < end → u < v → get_or (take wide (drop at now)) (k * v + u) e ≡ get_or before ((start + k) * v + u) d
    rows_were k u e lt input = part_was (k * v + u) e (among k u lt input) ∙ ap (λ (i : ℕ). get_or before i d) (place_in k u)

    pub rows_written : (new : List X) → length new ≡ wide → ((k u : ℕ) → start + k < end → u < v → P (start + k) u (get_or new (k * v + u) d)) → AreWrittenBelow P v d end before (put_mid at wide now new)
    rows_written new long each =
        let within = rows.within in
        record {
          long = (let kept : length (put_mid at wide now new) ≡ length now = search (rules, places) in kept) ∙ so_far.long;
          each = λ k u lt input.
              elim (cases_lt k start) [
                | inl earlier ↦
                    let below : k * v + u < at = omega (arith, rows.first, row_fits k v start v earlier (omega arith), input) in
                    let same : get_or (put_mid at wide now new) (k * v + u) d ≡ get_or now (k * v + u) d = search (rules, places) in
                    subst (P k u) (sym same) (so_far.each k u earlier input)
                | inr here ↦
                    let j : ℕ = k - start in
                    let is : start + j ≡ k = omega (arith, here) in
                    let there : j * v + u < wide = among j u (omega (arith, is, lt)) input in
                    let read : get_or (put_mid at wide now new) (at + (j * v + u)) d ≡ get_or new (j * v + u) d = search (rules, places) in
                    subst (λ (k : ℕ). P k u (get_or (put_mid at wide now new) (k * v + u) d)) is
                    (subst (P (start + j) u) (sym read ∙ ap (λ (i : ℕ). get_or (put_mid at wide now new) i d) (place_in j u)) (each j u (omega (arith, is, lt)) input))
              ];
          left = λ i from.
              let past : at + wide ≤ i = omega (arith, rows.last, from) in
              let same : get_or (put_mid at wide now new) i d ≡ get_or now i d = search (rules, places) in
              same ∙ so_far.left i (omega (arith, past, rows.first));
        }

-- one row alone
module _ {X : Type 0} {v row at wide : ℕ} (now : List X) (rows : AreRows v row (row + 1) at wide (length now)) {P : ℕ → ℕ → X → Type 0} {d : X} {before : List X} (so_far : AreWrittenBelow P v d row before now) where
  pub row_was : (u : ℕ) (e : X) → u < v → get_or (take wide (drop at now)) u e ≡ get_or before (row * v + u) d
  row_was u e input =
      let first : u ≡ 0 * v + u = omega arith in
      ap (λ (i : ℕ). get_or (take wide (drop at now)) i e) first ∙ rows_were now rows so_far 0 u e (omega arith) input ∙ ap (λ (k : ℕ). get_or before (k * v + u) d) (let same : row + 0 ≡ row = omega arith in same)

  pub row_written : (new : List X) → length new ≡ length (take wide (drop at now)) → ((u : ℕ) → u < v → P row u (get_or new u d)) → AreWrittenBelow P v d (row + 1) before (put_mid at wide now new)
  row_written new long each =
      rows_written now rows so_far new (long ∙ rows_long now rows) (λ k u lt input.
      let none : k ≡ 0 = omega (arith, lt) in
      let here : row ≡ row + k = omega (arith, none) in
      let place : u ≡ k * v + u = omega (arith, ap (λ (n : ℕ). n * v) none) in
      subst (λ (i : ℕ). P (row + k) u (get_or new i d)) place (subst (λ (k : ℕ). P k u (get_or new u d)) here (each u input)))

-- the rows from one on, and one row
pub rows_between : (start end count inputs v all : ℕ) → start < end → end ≤ count → inputs ≡ v → all ≡ count * v → AreRows v start end (start * inputs) (end * inputs - start * inputs) all
rows_between start end count inputs v all some le is long =
    let first : start * inputs ≡ start * v = ap (λ (n : ℕ). start * n) is in
    let last : end * inputs ≡ end * v = ap (λ (n : ℕ). end * n) is in
    record {
      first = first;
      last = omega (arith, first, last, row_fits start v end v some (omega arith));
      some = some;
      within = omega (arith, first, last, long, row_fits start v end v some (omega arith), mul-le end v count v le (omega arith));
    }

pub one_row : (row count inputs v all : ℕ) → row < count → inputs ≡ v → all ≡ count * v → AreRows v row (row + 1) (row * inputs) (row * inputs + inputs - row * inputs) all
one_row row count inputs v all lt is long =
    let first : row * inputs ≡ row * v = ap (λ (n : ℕ). row * n) is in
    record {
      first = first;
      last = omega (arith, first, is, add-mul row 1 v);
      some = omega arith;
      within = omega (arith, first, is, long, row_fits row v count v lt (omega arith));
    }
