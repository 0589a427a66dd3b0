-- Digits that follow one another have the indices of which their slot is made.
use Rattle.std.proofs.Common.{◌≡◌, ℕ, ◌+◌, ◌*◌, ◌/◌, ◌%◌, ◌<◌, ◌≤◌, List, [], ◌∷◌, ◌++◌, All, eqb, length, get_or, refl, sym, ap, subst, ◌∙◌, arith, inl, inr}
use Rattle.std.specs.Prelude.{IsFalse}
use Rattle.std.proofs.lemmas.Bool.{cond_both, both_ways, eqb-true, eqb-false}
use Rattle.std.proofs.lemmas.Nat.{mod_below, div-mul-add, mod-mul-add, mul-add-lt, mul-le}
use Rattle.std.proofs.lemmas.List.Elements.{All-cons, All-head, All-nil, All-tail, All-weaker}
use Rattle.std.proofs.lemmas.List.Sums.{sum_by-cons}
use Rattle.plant_record.specs.Description.{Description}
use Rattle.successor_box.specs.PairExtents.{depends_on, index_in}
use Rattle.pair_boxes.specs.declared.digits.Digit.{Digit}
use Rattle.pair_boxes.specs.inside.Digits.{count_in, slot_at, index_at, IsDigitOf, HasDigit, ArePacked}

pub next_digit : (f : ℕ → ℕ) (d : Digit) (ds : List Digit) → slot_at (d ∷ ds) f ≡ f d.variable * d.stride + slot_at ds f
next_digit f d ds = sum_by-cons (λ (d : Digit). f d.variable * d.stride) d ds

-- ---- the slot that has indices below the counts

module _ (f : ℕ → ℕ) where
  abbrev pub IsBelow : Digit → Type 0
  IsBelow d = f d.variable < d.count

  abbrev IsFound : ℕ → Digit → Type 0
  IsFound slot d = slot / d.stride % d.count ≡ f d.variable

  -- it is so many times the first stride, and one more are no more than all
  pub turns : (stride all : ℕ) (ds : List Digit) → ArePacked stride ds all → All IsBelow ds → (q : ℕ) × (slot_at ds f ≡ q * stride) × (q * stride + stride ≤ all)
  turns stride all [] packed below = (0, omega arith, omega (arith, packed))
  turns stride all (d ∷ ds) packed below =
      let x : ℕ = f d.variable in
      let later = turns (stride * d.count) all ds packed.1 (All-tail IsBelow d ds below) in
      let most : (x + 1) * stride ≤ d.count * stride = mul-le (x + 1) stride d.count stride (omega (arith, All-head IsBelow d ds below)) (omega arith) in
      (later.0 * d.count + x, omega (arith, next_digit f d ds, ap (λ (t : ℕ). x * t) packed.0, later.1), omega (arith, most, later.2))

  -- each digit can be read from it, also past a number below the first stride
  pub all_found : (stride all r : ℕ) (ds : List Digit) → r < stride → ArePacked stride ds all → All IsBelow ds → All (IsFound (r + slot_at ds f)) ds
  all_found stride all r [] lt packed below = All-nil (IsFound (r + slot_at [] f))
  all_found stride all r (d ∷ ds) lt packed below =
      let x : ℕ = f d.variable in
      let rest = All-tail IsBelow d ds below in
      let here = All-head IsBelow d ds below in
      let later = turns (stride * d.count) all ds packed.1 rest in
      let q : ℕ = later.0 in
      let slot : ℕ = r + slot_at (d ∷ ds) f in
      let whole : slot ≡ (q * d.count + x) * stride + r = omega (arith, next_digit f d ds, ap (λ (t : ℕ). x * t) packed.0, later.1) in
      let own : IsFound slot d =
      ap (λ (t : ℕ). slot / t % d.count) packed.0
      ∙ ap (λ (n : ℕ). n / stride % d.count) whole
      ∙ ap (λ (n : ℕ). n % d.count) (div-mul-add (q * d.count + x) stride r lt)
      ∙ mod-mul-add q d.count x here
      in
      let after : r + x * stride + slot_at ds f ≡ slot = omega (arith, next_digit f d ds, ap (λ (t : ℕ). x * t) packed.0) in
      let fits : r + x * stride < stride * d.count = omega (arith, mul-add-lt x stride r d.count here lt) in
      All-cons (IsFound slot) d ds own (subst (λ (n : ℕ). All (IsFound n) ds) after (all_found (stride * d.count) all (r + x * stride) ds fits packed.1 rest))

  -- the index in a variable is that of its digit
  pub index_found : (slot k : ℕ) (ds : List Digit) → HasDigit ds k → All (IsFound slot) ds → index_at ds k slot ≡ f k
  index_found slot k [] has found = absurd has
  index_found slot k (d ∷ ds) has found =
      cond_both (eqb k d.variable) (slot / d.stride % d.count) (index_at ds k slot) (λ (n : ℕ). n ≡ f k)
      (λ own. All-head (IsFound slot) d ds found ∙ ap f (sym (eqb-true k d.variable own)))
      (λ other. index_found slot k ds (elim has [ inl is ↦ absurd (eqb-false k d.variable other (sym is)) | inr later ↦ later ]) (All-tail (IsFound slot) d ds found))

-- a slot is the same for indices that agree in the variables of the digits
pub same_slots : (f g : ℕ → ℕ) (ds : List Digit) → All (λ (d : Digit). f d.variable ≡ g d.variable) ds → slot_at ds f ≡ slot_at ds g
same_slots f g [] each = refl
same_slots f g (d ∷ ds) each =
    let here : f d.variable * d.stride ≡ g d.variable * d.stride = ap (λ (n : ℕ). n * d.stride) (All-head (λ (d : Digit). f d.variable ≡ g d.variable) d ds each) in
    omega (arith, next_digit f d ds, next_digit g d ds, here, same_slots f g ds (All-tail (λ (d : Digit). f d.variable ≡ g d.variable) d ds each))

-- so a pair's is that of a list of its indices
pub slot_is : (p : Description) (c u : ℕ) (indices : List ℕ) (ds : List Digit) → All (λ (d : Digit). d.variable < length p.states + length p.inputs) ds →
    ((k : ℕ) → k < length p.states + length p.inputs → get_or indices k 0 ≡ index_in p c u k) → slot_at ds (λ (k : ℕ). get_or indices k 0) ≡ slot_at ds (index_in p c u)
slot_is p c u indices ds each are =
    same_slots (λ (k : ℕ). get_or indices k 0) (index_in p c u) ds (All-weaker (λ (d : Digit). d.variable < length p.states + length p.inputs) (λ (d : Digit). get_or indices d.variable 0 ≡ index_in p c u d.variable) (λ d within. are d.variable within) ds each)

-- the slot of sums is the sum of the slots
pub slot_sums : (f g h : ℕ → ℕ) → ((k : ℕ) → f k ≡ g k + h k) → (ds : List Digit) → slot_at ds f ≡ slot_at ds g + slot_at ds h
slot_sums f g h each [] = omega arith
slot_sums f g h each (d ∷ ds) =
    let here : f d.variable * d.stride ≡ (g d.variable + h d.variable) * d.stride = ap (λ (n : ℕ). n * d.stride) (each d.variable) in
    omega (arith, next_digit f d ds, next_digit g d ds, next_digit h d ds, here, slot_sums f g h each ds)

-- ---- one digit more, above the others

pub packed_more : (stride all : ℕ) (ds : List Digit) (d : Digit) → ArePacked stride ds all → d.stride ≡ all → ArePacked stride (ds ++ d ∷ []) (all * d.count)
packed_more stride all [] d packed is = (is ∙ sym packed, ap (λ (n : ℕ). n * d.count) packed)
packed_more stride all (e ∷ ds) d packed is = (packed.0, packed_more (stride * e.count) all ds d packed.1 is)

pub has_kept : (ds : List Digit) (d : Digit) (k : ℕ) → HasDigit ds k → HasDigit (ds ++ d ∷ []) k
has_kept [] d k has = absurd has
has_kept (e ∷ ds) d k has = elim has [ inl is ↦ inl is | inr later ↦ inr (has_kept ds d k later) ]

pub has_added : (ds : List Digit) (d : Digit) (k : ℕ) → d.variable ≡ k → HasDigit (ds ++ d ∷ []) k
has_added [] d k is = inl is
has_added (e ∷ ds) d k is = inr (has_added ds d k is)

-- ---- the indices at any slot

-- a stride is positive, since the counts are
pub some_strides : (stride all : ℕ) (ds : List Digit) → 0 < stride → ArePacked stride ds all → All (λ (d : Digit). 0 < d.count) ds → All (λ (d : Digit). 0 < d.stride) ds
some_strides stride all [] some packed counts = All-nil (λ (d : Digit). 0 < d.stride)
some_strides stride all (d ∷ ds) some packed counts =
    let here : 0 < d.count = All-head (λ (d : Digit). 0 < d.count) d ds counts in
    let rest = some_strides (stride * d.count) all ds (mul-le 1 1 stride d.count some here) packed.1 (All-tail (λ (d : Digit). 0 < d.count) d ds counts) in
    All-cons (λ (d : Digit). 0 < d.stride) d ds (omega (arith, packed.0, some)) rest

-- an index is that of a digit of its variable, or 0
index_from : (P : ℕ → Type 0) (k slot : ℕ) (ds : List Digit) → P 0 → All (λ (d : Digit). d.variable ≡ k → P (slot / d.stride % d.count)) ds → P (index_at ds k slot)
index_from P k slot [] none each = none
index_from P k slot (d ∷ ds) none each =
    let Is : Digit → Type 0 = λ d. d.variable ≡ k → P (slot / d.stride % d.count) in
    cond_both (eqb k d.variable) (slot / d.stride % d.count) (index_at ds k slot) P (λ own. All-head Is d ds each (sym (eqb-true k d.variable own))) (λ other. index_from P k slot ds none (All-tail Is d ds each))

module _ (p : Description) (i k slot : ℕ) (ds : List Digit) (each : All (IsDigitOf p i) ds) where
  abbrev IsRead : (ℕ → Type 0) → Digit → Type 0
  IsRead P d = d.variable ≡ k → P (slot / d.stride % d.count)

  pub index_below : 0 < count_in p k → index_at ds k slot < count_in p k
  index_below some =
      index_from (λ (n : ℕ). n < count_in p k) k slot ds some
      (All-weaker (IsDigitOf p i) (IsRead (λ (n : ℕ). n < count_in p k)) (λ d is own.
      let count : d.count ≡ count_in p k = is.count ∙ ap (count_in p) own in
      subst (λ (n : ℕ). slot / d.stride % d.count < n) count (mod_below (slot / d.stride) d.count (omega (arith, some, count)))) ds each)

  -- a variable on which no extent depends has no digit
  pub no_index : IsFalse (depends_on p i k) → index_at ds k slot ≡ 0
  no_index free =
      index_from (λ (n : ℕ). n ≡ 0) k slot ds refl
      (All-weaker (IsDigitOf p i) (IsRead (λ (n : ℕ). n ≡ 0)) (λ d is own. absurd (both_ways (depends_on p i k) free (ap (depends_on p i) (sym own) ∙ is.depends))) ds each)
