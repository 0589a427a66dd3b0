-- What a loop over reads, or over writes, has done so far.
use Rattle.std.proofs.Common.{◌≡◌, ℕ, ◌+◌, ◌<◌, ◌≤◌, List, [], ◌∷◌, ◌++◌, length, take, drop, drop-cons, get_or, add-one, subst, Option, Some, None, refl, sym, ap, ◌∙◌, append_assoc, arith, inl, inr, take-append-drop, length-append}
use Rattle.std.proofs.lemmas.List.{append-nil, take_at, take-append-le}
use Rattle.std.proofs.lemmas.Bool.{cases_lt}
use Rattle.std.proofs.Math.Nat.{zero-add, suc-add}
use Rattle.std.specs.Prelude.{flat_map}
use Rattle.std.specs.Io.KnownBytes.{Keeps}
use Rattle.run_devices.specs.Devices.{next_count, Gains, GainsPart, Writing}

-- these bytes were read, and the others are left
abbrev pub ReadSoFar : Option (List ℕ) → Option (List ℕ) → List ℕ → Type 0
ReadSoFar None after bytes = Unit {0}
ReadSoFar (Some told) after bytes = (rest : List ℕ) × (told ≡ bytes ++ rest) × (after ≡ Some rest)

pub nothing_read : (before : Option (List ℕ)) → ReadSoFar before before []
nothing_read None = tt
nothing_read (Some told) = (told, refl, refl)

same_some : (a b : List ℕ) → Some a ≡ Some b → a ≡ b
same_some a b e = cc

-- ---- writes

-- the front of a text was written, and this is the rest
pub record WrittenSoFar (before after : Option (List ℕ)) (text rest : List ℕ) : Type 0 where
  pub front : List ℕ
  pub parts : text ≡ front ++ rest
  pub gained : Gains before after front

pub nothing_written : (before : Option (List ℕ)) (text : List ℕ) → WrittenSoFar before before text text
nothing_written None text = record { front = []; parts = refl; gained = tt }
nothing_written (Some bytes) text = record { front = []; parts = refl; gained = ap (λ (x : List ℕ). Some x) (sym (append-nil bytes)) }

gains_more : (start before after : Option (List ℕ)) (front piece : List ℕ) → Gains start before front → Gains before after piece → Gains start after (front ++ piece)
gains_more None before after front piece p q = tt
gains_more (Some bytes) None after front piece p q = absurd (let e : None ≡ Some (bytes ++ front) = p in cc)
gains_more (Some bytes) (Some got) after front piece p q =
    q ∙ ap (λ (x : List ℕ). Some (x ++ piece)) (same_some got (bytes ++ front) p) ∙ ap (λ (x : List ℕ). Some x) (append_assoc bytes front piece)

pub written_more : (start before after : Option (List ℕ)) (text rest : List ℕ) (n : ℕ) → WrittenSoFar start before text rest → Gains before after (take n rest) → WrittenSoFar start after text (drop n rest)
written_more start before after text rest n w gains = record {
  front = w.front ++ take n rest;
  parts = w.parts ∙ ap (λ (x : List ℕ). w.front ++ x) (sym (take-append-drop n rest)) ∙ sym (append_assoc w.front (take n rest) (drop n rest));
  gained = gains_more start before after w.front (take n rest) w.gained gains;
}

gains_kept : (start before after : Option (List ℕ)) (front : List ℕ) → Gains start before front → Keeps before after → Gains start after front
gains_kept None before after front p q = tt
gains_kept (Some bytes) None after front p q = absurd (let e : None ≡ Some (bytes ++ front) = p in cc)
gains_kept (Some bytes) (Some got) None front p q = absurd q
gains_kept (Some bytes) (Some got) (Some now) front p q = ap (λ (x : List ℕ). Some x) q ∙ p

-- a sink that doesn't promise what is left hadn't promised the whole
pub short_of_capacity : (capacity now rest text : ℕ) → capacity + rest ≤ now + text → (rest ≤ now → ⊥) → capacity < text
short_of_capacity capacity now rest text within none = elim (cases_lt now rest) [ inl lt ↦ omega (arith, lt, within) | inr le ↦ absurd (none le) ]

-- the write of what is left failed
pub written_part : (sink : Writing) (before : Option (List ℕ)) (text rest : List ℕ) → WrittenSoFar sink.before before text rest → Keeps before sink.after → 0 < length rest → sink.faults_after ≡ next_count sink.faults_before → sink.capacity < length text → GainsPart sink text
written_part sink before text rest w kept some fault no_capacity = record {
  count = length w.front;
  proper = omega (arith, length-append w.front rest, ap length w.parts);
  gained = rw front_is (gains_kept sink.before before sink.after w.front w.gained kept);
  fault = fault;
  no_capacity = no_capacity;
}
  where
    front_is : take (length w.front) text ≡ w.front
    front_is = ap (take (length w.front)) w.parts ∙ take_at w.front rest (length w.front) refl

-- ---- writes in pieces

-- what is left of a text begins with what was put into a buffer
pub piece_cut : (left buffer : List ℕ) (n : ℕ) → take n buffer ≡ take n left → left ≡ take n buffer ++ drop n left
piece_cut left buffer n same = sym (take-append-drop n left) ∙ ap (λ (x : List ℕ). x ++ drop n left) (sym same)

pub piece_more : (start before after : Option (List ℕ)) (text rest piece more : List ℕ) → WrittenSoFar start before text rest → rest ≡ piece ++ more → Gains before after piece → WrittenSoFar start after text more
piece_more start before after text rest piece more w cut gains = record {
  front = w.front ++ piece;
  parts = w.parts ∙ ap (λ (x : List ℕ). w.front ++ x) cut ∙ sym (append_assoc w.front piece more);
  gained = gains_more start before after w.front piece w.gained gains;
}

take_past : (front rest_after : List ℕ) (k : ℕ) → take (length front + k) (front ++ rest_after) ≡ front ++ take k rest_after
take_past [] rest_after k = ap (λ (n : ℕ). take n rest_after) (zero-add k)
take_past (x ∷ front) rest_after k = ap (λ (n : ℕ). take n (x ∷ (front ++ rest_after))) (suc-add (length front) k) ∙ ap (λ (y : List ℕ). x ∷ y) (take_past front rest_after k)

-- a part of a piece is a part of the whole
pub piece_part : (sink : Writing) (before : Option (List ℕ)) (faults capacity : ℕ) (text rest piece more : List ℕ) → WrittenSoFar sink.before before text rest → faults ≡ sink.faults_before → sink.capacity + length rest ≤ capacity + length text → rest ≡ piece ++ more
    → GainsPart (record { before = before; after = sink.after; faults_before = faults; faults_after = sink.faults_after; capacity = capacity }) piece → GainsPart sink text
piece_part sink before faults capacity text rest piece more w same within cut part =
    let whole : text ≡ w.front ++ (piece ++ more) = w.parts ∙ ap (λ (x : List ℕ). w.front ++ x) cut in
    let front_is : take (length w.front + part.count) text ≡ w.front ++ take part.count piece =
    ap (take (length w.front + part.count)) whole
    ∙ take_past w.front (piece ++ more) part.count
    ∙ ap (λ (x : List ℕ). w.front ++ x) (take-append-le part.count piece more (let lt = part.proper in omega (arith, lt))) in
    record {
      count = length w.front + part.count;
      proper = (let lt = part.proper in omega (arith, lt, ap length whole, length-append w.front (piece ++ more), length-append piece more));
      gained = subst (λ (x : List ℕ). Gains sink.before sink.after x) (sym front_is) (gains_more sink.before before sink.after w.front (take part.count piece) w.gained part.gained);
      fault = part.fault ∙ ap next_count same;
      no_capacity = (let none = part.no_capacity in omega (arith, none, within, ap length cut, length-append piece more));
    }

-- the pieces from one on are that piece and those after it
pub pieces_from : {X : Type 0} (f : X → List ℕ) (pieces : List X) (i : ℕ) (d : X) → i < length pieces → flat_map f (drop i pieces) ≡ f (get_or pieces i d) ++ flat_map f (drop (i + 1) pieces)
pieces_from f pieces i d lt = rw (add-one i) (ap (flat_map f) (drop-cons pieces i d lt))
