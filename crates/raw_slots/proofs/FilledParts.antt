-- Slots that are filled by calls, chunk by chunk, and those of two parts side by side.
use Rattle.std.proofs.Common.{◌≡◌, ℕ, ◌+◌, ◌-◌, ◌*◌, ◌/◌, ◌<◌, ◌≤◌, inl, inr, List, [], ◌++◌, Option, Some, None, Result, Ok, Err, IfOk, length, take, drop, get_or, replicate, refl, sym, ap, ap₂, subst, ◌∙◌, arith, length-append}
use Rattle.std.proofs.lemmas.Bool.{cases_lt}
use Rattle.std.proofs.lemmas.List.{length-replicate, take-replicate, drop-replicate, take_all, take_at, drop_at, length-map, map-append, get_or_append_left, get_or-append_right}
use Rattle.std.specs.Fork.{IsChunk, ChangesAt}
use Rattle.raw_slots.specs.inside.Chunks.{IsStretch, StandsAt, AreInChunks, AreFilledIn, AreFilledByChunks}
use Rattle.raw_slots.proofs.Stretches.{is_chunk, low_inside, low_half, high_half}
use denote.Param.Members.{Shared}
use denote.Ref.{MutBor}
use Rattle.raw_slots.specs.declared.making.Making.{Making}
use Rattle.raw_slots.specs.declared.part.Part.{Part}
use Rattle.raw_slots.specs.declared.stretch.Stretch.{Stretch}
use Rattle.core.specs.Result.{result_and}

module _ {F X R : Type 0} (g : Shared F (ℕ × (MutBor (List X) × Unit {0})) (Unit {0} × (MutBor (List X) × Unit {0}))) (making : Making R F) (start : X) where
  -- each element that one call left lies in its chunk
  pub one_call : (at count total : ℕ) (was xs all : List X) → count ≡ 1 → IsStretch making.size total at count (length xs) → was ≡ replicate (length xs) start → ChangesAt g making.f.now at was xs → StandsAt at xs all → AreInChunks g making start total all at (length xs)
  one_call at count total was xs all one s are change stands i d low high =
      let offset : ℕ = i - at in
      let back : at + offset ≡ i = omega (arith, low) in
      let chunk : IsChunk (replicate total start) making.size at change.argument.now = is_chunk making.size total at count (length xs) s start change.argument.now one (change.argument_is ∙ are) in
      let long : length change.argument.now ≡ length xs = ap length (change.argument_is ∙ are) ∙ length-replicate (length xs) start in
      record {
        start = at;
        offset = offset;
        start_plus_offset = back;
        argument = change.argument;
        argument_is = chunk;
        offset_in_chunk = omega (arith, long, low, high);
        old_element = chunk.elements offset d (omega (arith, long, low, high)) ∙ ap (λ n. get_or (replicate total start) n d) back;
        after_call = change.after_call;
        call = change.call;
        new_element = ap (λ l. get_or l offset d) change.left ∙ sym (stands offset d (omega (arith, low, high))) ∙ ap (λ n. get_or all n d) back;
      }

  -- slots that are filled up to one of their chunks and from it on
  pub both_filled : (at count low up high : ℕ) (front back : List (Option X)) → 0 < low → low < count → high ≡ count - low → length front ≡ low * making.size → up ≡ at + low * making.size
      → AreFilledIn g making start at low front → AreFilledIn g making start up high back → AreFilledIn g making start at count (front ++ back)
  both_filled at count low up high front back some fewer high_is long up_is a b =
      let xs : List X = a.0 in let ys : List X = b.0 in
      let many : length xs ≡ low * making.size = sym (length-map xs Some) ∙ sym (ap length a.1) ∙ long in
      let sum : length (xs ++ ys) ≡ length xs + length ys = length-append xs ys in (
        xs ++ ys,
        ap₂ ◌++◌ a.1 b.1 ∙ sym (map-append Some xs ys),
        λ total all s stands i d from to.
            let s_low : IsStretch making.size total at low (length xs) = subst (IsStretch making.size total at low) (sym many) (low_half making.size total at count (length (xs ++ ys)) s low some fewer) in
            let rest : length (xs ++ ys) - low * making.size ≡ length ys = omega (arith, sum, many) in
            let s_high : IsStretch making.size total up high (length ys) =
            subst (IsStretch making.size total up high) rest
            (subst (λ n. IsStretch making.size total up n (length (xs ++ ys) - low * making.size)) (sym high_is)
            (subst (λ n. IsStretch making.size total n (count - low) (length (xs ++ ys) - low * making.size)) (sym up_is) (high_half making.size total at count (length (xs ++ ys)) s low some fewer)))
            in
            let stands_low : StandsAt at xs all = λ k e lt. stands k e (omega (arith, lt, sum)) ∙ get_or_append_left xs ys e k lt in
            let stands_high : StandsAt up ys all =
            λ k e lt.
            ap (λ n. get_or all n e) (let same : up + k ≡ at + (length xs + k) = omega (arith, up_is, many) in same)
            ∙ stands (length xs + k) e (omega (arith, lt, sum))
            ∙ get_or-append_right xs ys (length xs) (length xs + k) e refl (omega arith)
            ∙ ap (λ n. get_or ys n e) (let same : length xs + k - length xs ≡ k = omega arith in same)
            in
            elim (cases_lt i (at + length xs)) [
              | inl below ↦ a.2 total all s_low stands_low i d from below
              | inr above ↦ b.2 total all s_high stands_high i d (omega (arith, above, up_is, many)) (omega (arith, to, sum, up_is, many))
            ],
      )

  -- slots that are filled from the first on
  pub all_filled : (len count : ℕ) (slots : List (Option X)) → IsStretch making.size len 0 count len → length slots ≡ len → AreFilledIn g making start 0 count slots → AreFilledByChunks g making (replicate len start) slots
  all_filled len count slots s long a =
      let xs : List X = a.0 in
      let many : length xs ≡ len = sym (length-map xs Some) ∙ sym (ap length a.1) ∙ long in
      let before : length (replicate len start) ≡ len = length-replicate len start in (
        xs,
        a.1,
        many ∙ sym before,
        λ i d lt.
            (refl, a.2 len xs (subst (IsStretch making.size len 0 count) (sym many) s) (λ k e within. ap (λ n. get_or xs n e) (let same : 0 + k ≡ k = omega arith in same)) i d (omega arith) (omega (arith, lt, before, many))),
      )

-- empty slots, the first or the last of such
module _ {X : Type 0} where
  pub taken : (n len m : ℕ) (all front : List (Option X)) → front ≡ take n all → all ≡ replicate len None → n ≤ len → length front ≡ m → (front ≡ replicate m None) × (m ≡ n)
  taken n len m all front is empty le long =
      let are : front ≡ replicate n None = is ∙ ap (take n) empty ∙ take-replicate n len None le in
      let same : m ≡ n = sym long ∙ ap length are ∙ length-replicate n None in
      (are ∙ ap (λ k. replicate k None) (sym same), same)

  pub dropped : (n len m : ℕ) (all back : List (Option X)) → back ≡ drop n all → all ≡ replicate len None → length back ≡ m → (back ≡ replicate m None) × (m ≡ len - n)
  dropped n len m all back is empty long =
      let are : back ≡ replicate (len - n) None = is ∙ ap (drop n) empty ∙ drop-replicate n len None in
      let same : m ≡ len - n = sym long ∙ ap length are ∙ length-replicate (len - n) None in
      (are ∙ ap (λ k. replicate k None) (sym same), same)

  -- a vector is filled up with one element
  pub cleared : (len was : ℕ) (x : X) (xs now : List X) → xs ≡ [] → was ≡ 0 → now ≡ take len xs ++ replicate (len - was) x → now ≡ replicate len x
  cleared len was x xs now none zero is =
      is ∙ ap₂ ◌++◌ (ap (take len) none ∙ take_all {A = X} len [] (omega arith)) (ap (λ k. replicate k x) (let e : len - was ≡ len = omega (arith, zero) in e))

-- a stretch is cut in two at half of its chunks
pub record AreHalves {X : Type 0} (size total : ℕ) (all : Stretch X) (front back : Part X) : Type 0 where
  pub some : 0 < all.count / 2
  pub fewer : all.count / 2 < all.count
  pub cut : front.len ≡ all.count / 2 * size
  pub front_empty : front.slots.contents ≡ replicate front.len None
  pub back_empty : back.slots.contents ≡ replicate back.len None
  pub low : IsStretch size total all.at (all.count / 2) front.len
  pub high : IsStretch size total (all.at + all.count / 2 * size) (all.count - all.count / 2) back.len

pub halves : {X : Type 0} (size total : ℕ) (all : Stretch X) (front back : Part X) → IsStretch size total all.at all.count all.part.len → ¬ (all.count ≡ 1)
    → front.slots.contents ≡ take (all.count / 2 * size) all.part.slots.contents → back.slots.contents ≡ drop (all.count / 2 * size) all.part.slots.contents → AreHalves size total all front back
halves size total all front back s more front_is back_is =
    let half : ℕ = all.count / 2 in let mid : ℕ = half * size in
    let some : 0 < half = omega (arith, s.some.1, more) in
    let fewer : half < all.count = omega (arith, s.some.1, more) in
    let inside = low_inside size total all.at all.count all.part.len s half some fewer in
    let first = taken mid all.part.len front.len all.part.slots.contents front.slots.contents front_is all.empty (omega (arith, inside)) front.whole.1 in
    let last = dropped mid all.part.len back.len all.part.slots.contents back.slots.contents back_is all.empty back.whole.1 in
    record {
      some = some;
      fewer = fewer;
      cut = first.1;
      front_empty = first.0;
      back_empty = last.0;
      low = subst (IsStretch size total all.at half) (sym first.1) (low_half size total all.at all.count all.part.len s half some fewer);
      high = subst (IsStretch size total (all.at + mid) (all.count - half)) (sym last.1) (high_half size total all.at all.count all.part.len s half some fewer);
    }

-- both went well
both_ok : {U V E : Type 0} (r : Result U E) (s t : Result V E) (A B C : Type 0) → t ≡ result_and r s → IfOk r (λ _. A) → IfOk s (λ _. B) → (A → B → C) → IfOk t (λ _. C)
both_ok (Ok u) (Ok v) t A B C is a b f = subst (λ w. IfOk w (λ _. C)) (sym is) (f a b)
both_ok (Ok u) (Err e) t A B C is a b f = subst (λ w. IfOk w (λ _. C)) (sym is) tt
both_ok (Err e) s t A B C is a b f = subst (λ w. IfOk w (λ _. C)) (sym is) tt

-- what holds of two parts where both went well, holds of their slots in the part that they make
pub joined : {X U E : Type 0} (x y : Part X × Result U E) (all : Part X) (t : Result U E) (n : ℕ) (A B : List (Option X) → Type 0)
    → all.slots.contents ≡ x.0.slots.contents ++ y.0.slots.contents → x.0.len ≡ n → t ≡ result_and x.1 y.1 → IfOk x.1 (λ _. A x.0.slots.contents) → IfOk y.1 (λ _. B y.0.slots.contents)
    → IfOk t (λ _. A (take n all.slots.contents) × B (drop n all.slots.contents))
joined x y all t n A B are len is a b =
    let front = x.0.slots.contents in let back = y.0.slots.contents in
    let long : length front ≡ n = x.0.whole.1 ∙ len in
    both_ok x.1 y.1 t (A front) (B back) _ is a b
    (λ u v. (subst A (sym (ap (take n) are ∙ take_at front back n long)) u, subst B (sym (ap (drop n) are ∙ drop_at front back n long)) v))
