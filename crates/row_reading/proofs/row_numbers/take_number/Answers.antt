use Rattle.std.proofs.Common.{rules, inl, inr, List, ◌∷◌, ◌++◌, ◌+◌, ℕ, ap, subst, sym, ◌∙◌, ◌≡◌, [], length, arith, refl}
use Rattle.std.specs.Fmt.{decimal}
use Rattle.std.proofs.lemmas.Fmt.{decimal_digit}
use Rattle.row_reading.specs.Numbers.{IsNumberTo}
use Rattle.row_reading.proofs.Digits.{none_of_none, none_without_digit, none_at_end, none_before_other, none_after_zero, none_too_large, one_more}
use Rattle.row_reading.proofs.row_numbers.take_number.Goals as goal

no_bytes : (bytes : List ℕ) → length bytes ≡ 0 → bytes ≡ []
no_bytes [] e = refl
no_bytes (b ∷ bytes) e = absurd (omega (arith, e))

-- a number's digits, and the byte after them
further : (bytes rest after : List ℕ) (v x : ℕ) → bytes ≡ decimal v ++ rest → rest ≡ x ∷ after → bytes ≡ decimal v ++ x ∷ after
further bytes rest after v x at more = at ∙ ap (λ (r : List ℕ). decimal v ++ r) more

pub returns-in_err-first : goal.returns-in_err-first
returns-in_err-first c = rw c.from_residual.ensures (λ y h. none_of_none c.args.stop y (subst (λ (b : List ℕ). IsNumberTo c.args.stop b y) (no_bytes c.args.bytes.now c.in_err-first.ensures.cases) h))

pub returns-in_err-value : goal.returns-in_err-value
returns-in_err-value c = rw c.from_residual-in_err-value.ensures (λ y h.
    none_without_digit c.args.stop c.in_ok-first.first.now c.in_ok-first.rest.now y c.in_err-value.ensures (subst (λ (b : List ℕ). IsNumberTo c.args.stop b y) c.in_ok-first.ensures.cases.0 h))

pub loop-next-init : goal.loop-next-init
loop-next-init c =
    let value = c.in_ok-value.value in
    record {
      small = omega (arith, c.in_ok-value.ensures.0);
      so_far = c.in_ok-first.ensures.cases.0 ∙ ap (λ (x : ℕ). x ∷ c.in_ok-first.rest.now) c.in_ok-value.ensures.1 ∙ sym (ap (λ (x : List ℕ). x ++ c.in_ok-first.rest.now) (decimal_digit value c.in_ok-value.ensures.0));
    }

pub returns-in_err-next : goal.returns-in_err-next
returns-in_err-next c = rw c.from_residual-in_err-next.ensures (λ y h.
    none_at_end c.loop-next.value c.args.stop y c.args.bytes.now c.loop-next.invariant.small c.requires (c.loop-next.invariant.so_far ∙ ap (λ (r : List ℕ). decimal c.loop-next.value ++ r) (no_bytes c.loop-next.rest.now c.in_err-next.ensures.cases)) h)

pub returns-then-next-stop : goal.returns-then-next-stop
returns-then-next-stop c = (
  c.loop-next.invariant.small,
  further c.args.bytes.now c.loop-next.rest.now c.in_ok-next.after.now c.loop-next.value c.args.stop c.loop-next.invariant.so_far (c.in_ok-next.ensures.cases.0 ∙ ap (λ (x : ℕ). x ∷ c.in_ok-next.after.now) c.if-next-stop.true),
)

pub returns-in_err-digit : goal.returns-in_err-digit
returns-in_err-digit c = rw c.from_residual-in_err-digit.ensures (λ y h.
    none_before_other c.loop-next.value c.args.stop c.in_ok-next.next.now c.in_ok-next.after.now y c.args.bytes.now c.loop-next.invariant.small c.requires c.in_err-digit.ensures c.if-next-stop.false
    (further c.args.bytes.now c.loop-next.rest.now c.in_ok-next.after.now c.loop-next.value c.in_ok-next.next.now c.loop-next.invariant.so_far c.in_ok-next.ensures.cases.0) h)

pub returns-in_err-value-2 : goal.returns-in_err-value-2
returns-in_err-value-2 c = rw c.from_residual-in_err-value-2.ensures (λ y h.
    let value = c.loop-next.value in
    let digit = c.in_ok-digit.digit in
    let at : c.args.bytes.now ≡ decimal value ++ (48 + digit) ∷ c.in_ok-next.after.now = further c.args.bytes.now c.loop-next.rest.now c.in_ok-next.after.now value (48 + digit) c.loop-next.invariant.so_far (c.in_ok-next.ensures.cases.0 ∙ ap (λ (x : ℕ). x ∷ c.in_ok-next.after.now) c.in_ok-digit.ensures.1) in
    elim c.in_err-value-2.ensures [
      | inl zero_is ↦ none_after_zero c.args.stop digit c.in_ok-next.after.now y c.args.bytes.now c.requires c.in_ok-digit.ensures.0 (at ∙ ap (λ (v : ℕ). decimal v ++ (48 + digit) ∷ c.in_ok-next.after.now) zero_is) h
      | inr large ↦ none_too_large value c.args.stop digit c.in_ok-next.after.now y c.args.bytes.now c.loop-next.invariant.small c.requires c.in_ok-digit.ensures.0 large at h
    ])

pub loop-next-preserved : goal.loop-next-preserved
loop-next-preserved c =
    let value = c.loop-next.value in
    let digit = c.in_ok-digit.digit in
    let at : c.args.bytes.now ≡ decimal value ++ (48 + digit) ∷ c.in_ok-next.after.now = further c.args.bytes.now c.loop-next.rest.now c.in_ok-next.after.now value (48 + digit) c.loop-next.invariant.so_far (c.in_ok-next.ensures.cases.0 ∙ ap (λ (x : ℕ). x ∷ c.in_ok-next.after.now) c.in_ok-digit.ensures.1) in
    let more = c.in_ok-value-2.ensures in
    record {
      small = search rules;
      so_far = at ∙ one_more value digit c.in_ok-next.after.now more.0 c.in_ok-digit.ensures.0 c.loop-next.invariant.small ∙ sym (ap (λ (v : ℕ). decimal v ++ c.in_ok-next.after.now) more.1);
    }
