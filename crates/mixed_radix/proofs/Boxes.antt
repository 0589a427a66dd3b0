-- The numbers of a box.
use Rattle.std.proofs.Common.{◌≡◌, ℕ, zero, suc, ◌+◌, ◌-◌, ◌*◌, ◌/◌, ◌%◌, ◌<◌, ◌≤◌, arith, refl, ap, ap₂, sym, subst, ◌∙◌, List, [], ◌∷◌, length, drop, get_or}
use Rattle.std.proofs.Math.Arith.{mod-mul}
use Rattle.std.proofs.Math.Nat.{mul_comm, mul_assoc, div-one, div-div-eq-div-mul, mod-eq_of_lt, mul-le-mul_left, mul-le-mul_right, le-mul_of_pos_right}
use Rattle.std.proofs.lemmas.List.{drop_more}
use Rattle.std.proofs.lemmas.Nat.{div-add-mod', div-mul-add, mod-mul-add, mod_below, div_below, mul-add-lt}
use Rattle.mixed_radix.specs.Radix.{size, digits, AreDigits}
use Rattle.mixed_radix.specs.Boxes.{box_counts, nth, last_of}
use Rattle.mixed_radix.proofs.Steps.{factors, some_rest, some_count, rest_fits, number_below}
use Rattle.mixed_radix.proofs.Numbers.{number-digits}

pub length-box_counts : (counts : List ℕ) (n : ℕ) → length (box_counts counts n) ≡ length counts
length-box_counts [] n = refl
length-box_counts (m ∷ counts) n = ap suc (length-box_counts counts (n % size counts))

each_box_count : (counts : List ℕ) (n k : ℕ) → k < length counts → get_or (box_counts counts n) k 0 ≡ get_or (digits counts n) k 0 + 1
each_box_count [] n k within = absurd (omega (arith, within))
each_box_count (m ∷ counts) n zero within = omega arith
each_box_count (m ∷ counts) n (suc k) within = each_box_count counts (n % size counts) k (omega (arith, within))

-- the digits of a box are digits
box_digits : (counts ds : List ℕ) (n : ℕ) → n < size counts → AreDigits (box_counts counts n) ds → AreDigits counts ds
box_digits counts ds n below are = record {
  long = omega (arith, are.long, length-box_counts counts n);
  below = λ k within.
      let here = are.below k (omega (arith, within, length-box_counts counts n)) in
      omega (arith, here, each_box_count counts n k within, (number-digits counts n below).are.below k within);
}

-- ---- segments: numbers that differ in the last digit alone follow one another

pub whole_turns : (counts : List ℕ) → 1 ≤ length counts → (t : ℕ) × (size counts ≡ t * last_of counts)
whole_turns [] some = absurd (omega (arith, some))
whole_turns (n ∷ []) some = (1, omega arith)
whole_turns (n ∷ m ∷ counts) some =
    let later = whole_turns (m ∷ counts) (omega arith) in
    (n * later.0, ap (λ (k : ℕ). n * k) later.1 ∙ sym (mul_assoc n later.0 (last_of (m ∷ counts))))

-- what is in a segment has the quotient of its first, and what is left of it
in_segment : (q w j t : ℕ) → j < w → 0 < t → ((q * w + j) / (t * w) ≡ (q * w) / (t * w)) × ((q * w + j) % (t * w) ≡ (q * w) % (t * w) + j) × ((q * w) % (t * w) ≡ q % t * w)
in_segment q w j t lt some =
    let r : ℕ = q % t in
    let split : q * w ≡ q / t * (t * w) + r * w = omega (arith, ap (λ (k : ℕ). k * w) (sym (div-add-mod' q t))) in
    let line : r * w + j < t * w = omega (arith, mul-add-lt r w j t (mod_below q t some) lt, mul_comm t w) in
    let first_below : r * w < t * w = omega (arith, line) in
    let next : q * w + j ≡ q / t * (t * w) + (r * w + j) = omega (arith, split) in
    let first : (q * w) % (t * w) ≡ r * w = ap (λ (k : ℕ). k % (t * w)) split ∙ mod-mul-add (q / t) (t * w) (r * w) first_below in (
      ap (λ (k : ℕ). k / (t * w)) next ∙ div-mul-add (q / t) (t * w) (r * w + j) line ∙ sym (div-mul-add (q / t) (t * w) (r * w) first_below) ∙ ap (λ (k : ℕ). k / (t * w)) (sym split),
      omega (arith, ap (λ (k : ℕ). k % (t * w)) next ∙ mod-mul-add (q / t) (t * w) (r * w + j) line, first),
      first,
    )

pub nth_segment : (counts bs : List ℕ) (q j : ℕ) → length bs ≡ length counts → 1 ≤ length counts → j < last_of bs → 0 < size bs → nth counts bs (q * last_of bs + j) ≡ nth counts bs (q * last_of bs) + j
nth_segment [] bs q j long some lt sized = absurd (omega (arith, some))
nth_segment (n ∷ counts) [] q j long some lt sized = absurd (omega (arith, long))
nth_segment (n ∷ []) (b ∷ []) q j long some lt sized = omega (arith, div-one (q * b + j), div-one (q * b))
nth_segment (n ∷ []) (b ∷ c ∷ bs) q j long some lt sized = absurd (omega (arith, long))
nth_segment (n ∷ m ∷ counts) (b ∷ []) q j long some lt sized = absurd (omega (arith, long))
nth_segment (n ∷ m ∷ counts) (b ∷ c ∷ bs) q j long some lt sized =
    let w : ℕ = last_of (c ∷ bs) in
    let s : ℕ = size (m ∷ counts) in
    let turns = whole_turns (c ∷ bs) (omega arith) in
    let t : ℕ = turns.0 in
    let later : 0 < size (c ∷ bs) = (factors b (size (c ∷ bs)) sized).1 in
    let parts = in_segment q w j t lt (factors t w (omega (arith, later, turns.1))).0 in
    let inner = nth_segment (m ∷ counts) (c ∷ bs) (q % t) j (omega (arith, long)) (omega arith) lt later in
    let P : ℕ → Type 0 = λ v. (q * w + j) / v * s + nth (m ∷ counts) (c ∷ bs) ((q * w + j) % v) ≡ q * w / v * s + nth (m ∷ counts) (c ∷ bs) (q * w % v) + j in
    subst P (sym turns.1) (rw (parts.0, parts.1, parts.2, inner) (omega arith))

-- ---- from the last position on

-- a quotient by a product, and the two digits of what is left
by_product : (m a b : ℕ) → 0 < a → 0 < b → (m / (b * a) ≡ m / a / b) × (m % (b * a) / a ≡ m / a % b) × (m % (b * a) % a ≡ m % a)
by_product m a b some_a some_b =
    let low : m % a < a = mod_below m a some_a in
    let left : m % (b * a) ≡ m / a % b * a + m % a = mod-mul m some_b some_a in (
      ap (λ (k : ℕ). m / k) (mul_comm b a) ∙ sym (div-div-eq-div-mul m a b),
      ap (λ (k : ℕ). k / a) left ∙ div-mul-add (m / a % b) a (m % a) low,
      ap (λ (k : ℕ). k % a) left ∙ mod-mul-add (m / a % b) a (m % a) low,
    )

some_in_box : (counts : List ℕ) (distance : ℕ) → 0 < size (box_counts counts distance)
some_in_box [] distance = omega arith
some_in_box (n ∷ counts) distance =
    omega (arith, some_in_box counts (distance % size counts), le-mul_of_pos_right (suc (distance / size counts)) (some_in_box counts (distance % size counts)))

box_fits : (counts : List ℕ) (distance : ℕ) → distance < size counts → size (box_counts counts distance) ≤ size counts
box_fits [] distance below = omega arith
box_fits (n ∷ counts) distance below =
    let s : ℕ = size counts in
    let some : 0 < s = (factors n s (omega (arith, below))).1 in
    let here : suc (distance / s) ≤ n = omega (arith, div_below distance s n some below) in
    let later : size (box_counts counts (distance % s)) ≤ s = box_fits counts (distance % s) (mod_below distance s some) in
    omega (arith, mul-le-mul_right (size (box_counts counts (distance % s))) here, mul-le-mul_left n later)

nth_below : (counts : List ℕ) (distance i : ℕ) → distance < size counts → i < size (box_counts counts distance) → nth counts (box_counts counts distance) i < size counts
nth_below counts distance i below within =
    let bs : List ℕ = box_counts counts distance in
    number_below counts (digits bs i) (box_digits counts (digits bs i) distance below (number-digits bs i within).are)

-- the counts of a box in the positions from k on
abbrev pub later_box : List ℕ → ℕ → ℕ → List ℕ
later_box counts distance k = box_counts (drop k counts) (distance % size (drop k counts))

-- The positions from k on were counted: what is left of the distance, and how many numbers the box has there.
pub record IsCounted (counts : List ℕ) (distance k rest count : ℕ) : Type 0 where
  pub rest_is : rest ≡ distance / size (drop k counts)
  pub count_is : count ≡ size (later_box counts distance k)

-- The number was found in the positions from k on: what they count, what is left of the distance and of the number, and the
-- number's distance there.
pub record IsFound (counts : List ℕ) (distance i k stride rest left found : ℕ) : Type 0 where
  pub stride_is : stride ≡ size (drop k counts)
  pub rest_is : rest ≡ distance / size (drop k counts)
  pub left_is : left ≡ i / size (later_box counts distance k)
  pub nth_is : found ≡ nth (drop k counts) (later_box counts distance k) (i % size (later_box counts distance k))

-- one position more
module _ (counts : List ℕ) (distance k : ℕ) (within : k < length counts) (some : 0 < size counts) where
  abbrev n : ℕ
  n = get_or counts k 0

  abbrev later : List ℕ
  later = drop (k + 1) counts

  abbrev bs : List ℕ
  bs = later_box counts distance (k + 1)

  abbrev here : ℕ
  here = distance / size later % n + 1

  in_product : (distance / (n * size later) ≡ distance / size later / n) × (distance % (n * size later) / size later ≡ distance / size later % n) × (distance % (n * size later) % size later ≡ distance % size later)
  in_product = by_product distance (size later) n (some_rest counts (k + 1) some) (some_count counts k within some)

  rest_more : distance / size later / n ≡ distance / size (drop k counts)
  rest_more = rw (drop_more counts k 0 within) (sym in_product.0)

  box_more : later_box counts distance k ≡ here ∷ bs
  box_more =
      let head : suc (distance % (n * size later) / size later) ≡ here = omega (arith, in_product.1) in
      rw (drop_more counts k 0 within) (ap₂ (λ (b d : ℕ). b ∷ box_counts later d) head in_product.2)

  size_more : size bs * here ≡ size (later_box counts distance k)
  size_more = mul_comm (size bs) here ∙ ap size (sym box_more)

  pub counted_more : (rest count quotient steps : ℕ) → IsCounted counts distance (k + 1) rest count → quotient ≡ rest / n → steps ≡ rest % n → IsCounted counts distance k quotient (count * (steps + 1))
  counted_more rest count quotient steps so_far quotient-is steps-is = record {
    rest_is = quotient-is ∙ ap (λ (r : ℕ). r / n) so_far.rest_is ∙ rest_more;
    count_is = ap₂ (λ (c b : ℕ). c * (b + 1)) so_far.count_is (steps-is ∙ ap (λ (r : ℕ). r % n) so_far.rest_is) ∙ size_more;
  }

  pub count_fits : size (later_box counts distance k) ≤ size counts
  count_fits =
      omega (arith, box_fits (drop k counts) (distance % size (drop k counts)) (mod_below distance (size (drop k counts)) (some_rest counts k some)), rest_fits counts k some)

  module _ (i : ℕ) where
    i_in_product : (i / (here * size bs) ≡ i / size bs / here) × (i % (here * size bs) / size bs ≡ i / size bs % here) × (i % (here * size bs) % size bs ≡ i % size bs)
    i_in_product = by_product i (size bs) here (some_in_box later (distance % size later)) (omega arith)

    left_more : i / size bs / here ≡ i / size (later_box counts distance k)
    left_more = sym i_in_product.0 ∙ ap (λ (t : ℕ). i / t) (mul_comm here (size bs) ∙ size_more)

    nth_more : nth later bs (i % size bs) + i / size bs % here * size later ≡ nth (drop k counts) (later_box counts distance k) (i % size (later_box counts distance k))
    nth_more =
        rw (box_more, drop_more counts k 0 within)
        (omega (arith, ap (λ (d : ℕ). d * size later) i_in_product.1, ap (nth later bs) i_in_product.2))

    pub found_more : (stride rest left found quotient steps carry digit : ℕ) → IsFound counts distance i (k + 1) stride rest left found →
        quotient ≡ rest / n → steps ≡ rest % n → carry ≡ left / (steps + 1) → digit ≡ left % (steps + 1) → IsFound counts distance i k (stride * n) quotient carry (found + digit * stride)
    found_more stride rest left found quotient steps carry digit so_far quotient-is steps-is carry-is digit-is =
        let here_is : steps + 1 ≡ here = ap (λ (b : ℕ). b + 1) (steps-is ∙ ap (λ (r : ℕ). r % n) so_far.rest_is) in
        let digit_here : digit ≡ i / size bs % here = digit-is ∙ ap₂ (λ (l b : ℕ). l % b) so_far.left_is here_is in
        record {
          stride_is = ap (λ (s : ℕ). s * n) so_far.stride_is ∙ rw (drop_more counts k 0 within) (mul_comm (size later) n);
          rest_is = quotient-is ∙ ap (λ (r : ℕ). r / n) so_far.rest_is ∙ rest_more;
          left_is = carry-is ∙ ap₂ (λ (l b : ℕ). l / b) so_far.left_is here_is ∙ left_more;
          nth_is = ap₂ (λ (f p : ℕ). f + p) so_far.nth_is (ap₂ (λ (d s : ℕ). d * s) digit_here so_far.stride_is) ∙ nth_more;
        }

    -- and it is a number below the size
    pub found_fits : (stride rest left found : ℕ) → IsFound counts distance i k stride rest left found → (found < size counts) × (stride ≤ size counts)
    found_fits stride rest left found is =
        let all : List ℕ = drop k counts in
        let d : ℕ = distance % size all in
        let below : nth all (box_counts all d) (i % size (box_counts all d)) < size all =
        nth_below all d (i % size (box_counts all d)) (mod_below distance (size all) (some_rest counts k some)) (mod_below i (size (box_counts all d)) (some_in_box all d))
        in
        (omega (arith, is.nth_is, below, rest_fits counts k some), omega (arith, is.stride_is, rest_fits counts k some))

-- all positions
whole_box : (counts : List ℕ) (distance : ℕ) → distance < size counts → later_box counts distance 0 ≡ box_counts counts distance
whole_box counts distance below = ap (box_counts counts) (mod-eq_of_lt below)

pub all_counted : (counts : List ℕ) (distance rest count : ℕ) → distance < size counts → IsCounted counts distance 0 rest count → count ≡ size (box_counts counts distance)
all_counted counts distance rest count below is = is.count_is ∙ ap size (whole_box counts distance below)

pub all_found : (counts : List ℕ) (distance i stride rest left found : ℕ) → distance < size counts → i < size (box_counts counts distance) → IsFound counts distance i 0 stride rest left found →
    found ≡ nth counts (box_counts counts distance) i
all_found counts distance i stride rest left found below within is =
    is.nth_is
    ∙ ap (λ (bs : List ℕ). nth counts bs (i % size bs)) (whole_box counts distance below)
    ∙ ap (nth counts (box_counts counts distance)) (mod-eq_of_lt within)

-- ---- the last position

-- the last of the counts stands last
last_is : (counts : List ℕ) → 1 ≤ length counts → get_or counts (length counts - 1) 0 ≡ last_of counts
last_is [] some = absurd (omega (arith, some))
last_is (n ∷ []) some = ap (λ (i : ℕ). get_or (n ∷ []) i 0) (let e : suc 0 - 1 ≡ 0 = omega arith in e)
last_is (n ∷ m ∷ counts) some =
    ap (λ (i : ℕ). get_or (n ∷ m ∷ counts) i 0) (let e : suc (suc (length counts)) - 1 ≡ suc (suc (length counts) - 1) = omega arith in e) ∙ last_is (m ∷ counts) (omega arith)

by_last : (counts : List ℕ) (distance : ℕ) → 1 ≤ length counts → distance < size counts → last_of (box_counts counts distance) ≡ distance % last_of counts + 1
by_last [] distance some below = absurd (omega (arith, some))
by_last (n ∷ []) distance some below =
    let lt : distance < n = omega (arith, below) in
    omega (arith, div-one distance, mod-eq_of_lt lt)
by_last (n ∷ m ∷ counts) distance some below =
    let w : ℕ = last_of (m ∷ counts) in
    let s : ℕ = size (m ∷ counts) in
    let turns = whole_turns (m ∷ counts) (omega arith) in
    let some_s : 0 < s = (factors n s (omega (arith, below))).1 in
    let both = factors turns.0 w (omega (arith, some_s, turns.1)) in
    let left : distance % s % w ≡ distance % w = ap (λ (t : ℕ). distance % t % w) turns.1 ∙ (by_product distance w turns.0 both.1 both.0).2 in
    by_last (m ∷ counts) (distance % s) (omega arith) (mod_below distance s some_s) ∙ ap (λ (d : ℕ). d + 1) left

pub last_box_count : (counts : List ℕ) (distance : ℕ) → 1 ≤ length counts → distance < size counts → last_of (box_counts counts distance) ≡ distance % get_or counts (length counts - 1) 0 + 1
last_box_count counts distance some below = by_last counts distance some below ∙ ap (λ (n : ℕ). distance % n + 1) (sym (last_is counts some))
