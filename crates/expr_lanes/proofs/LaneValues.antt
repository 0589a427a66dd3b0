-- Values in many lanes, from those of the parts.
use Rattle.std.proofs.Common.{◌≡◌, ℕ, ◌<◌, List, Option, Some, None, refl, sym, ap, ap₂, subst, ◌∙◌, arith, to_z, of_z, w64}
use Rattle.std.specs.Prelude.{ℤ, pos, negsuc, SomeIff, FitsSigned}
use Rattle.std.proofs.lemmas.Int.{ints, to_z-of_z}
use Rattle.fixed_expr.specs.declared.lanes.TheConstants.{LANES}
use Rattle.fixed_expr.specs.declared.operation.Binary.{Binary}
use Rattle.fixed_expr.specs.declared.operation.Binary.TheVariants.{AddOp}
use Rattle.fixed_expr.specs.Expression.{Expression}
use Rattle.fixed_expr.specs.Lanes.{at, AreNarrow, IsColumnOf, IsNarrowColumnOf}
use Rattle.fixed_expr.specs.NarrowValues.{IsNarrow, StaysNarrow}
use Rattle.expr_lanes.specs.LaneEval.{lane_of, StaysNarrowInLanes}
use Rattle.fixed_expr.specs.Value.{value_of}
use Rattle.fixed_expr.specs.inside.Combinations.{combined, combined_number}
use Rattle.expr_lanes.specs.inside.LaneValues.{value_in, AreNumbers, AnswersNumbers, AnswersValues}
use Rattle.expr_lanes.specs.declared.lane_eval.LaneValues.{LaneValues}
use Rattle.expr_lanes.specs.declared.lane_eval.ValuesAlong.{ValuesAlong}
use Rattle.expr_lanes.specs.declared.lane_eval.LaneValues.TheVariants.{Alike}

-- ---- in one lane

pub value_combined : (binary : Binary) (a b : Expression) (lane : List ℤ) → value_of (combined binary a b) lane ≡ combined_number binary (value_of a lane) (value_of b lane)
value_combined AddOp a b lane = refl
value_combined _ a b lane = refl

pub stays_combined : (binary : Binary) (a b : Expression) (lane : List ℤ) → StaysNarrow a lane → StaysNarrow b lane → IsNarrow (combined_number binary (value_of a lane) (value_of b lane)) → StaysNarrow (combined binary a b) lane
stays_combined AddOp a b lane first second narrow = (first, second, narrow)
stays_combined _ a b lane first second narrow = (first, second, narrow)

pub record StaysInParts (binary : Binary) (a b : Expression) (lane : List ℤ) : Type 0 where
  pub first : StaysNarrow a lane
  pub second : StaysNarrow b lane
  pub whole : IsNarrow (combined_number binary (value_of a lane) (value_of b lane))

pub parts_of : (binary : Binary) (a b : Expression) (lane : List ℤ) → StaysNarrow (combined binary a b) lane → StaysInParts binary a b lane
parts_of AddOp a b lane stays = record { first = stays.0; second = stays.1; whole = stays.2 }
parts_of _ a b lane stays = record { first = stays.0; second = stays.1; whole = stays.2 }

-- the parts' numbers combined
pub whole_answer : (binary : Binary) (a b : Expression) (lane : List ℤ) (x y : ℤ) (o : Option ℤ) → StaysNarrow a lane → x ≡ value_of a lane → StaysNarrow b lane → y ≡ value_of b lane → SomeIff o (IsNarrow (combined_number binary x y)) (combined_number binary x y) → SomeIff o (StaysNarrow (combined binary a b) lane) (value_of (combined binary a b) lane)
whole_answer binary a b lane x y None first is_first second is_second none =
    let same = ap₂ (combined_number binary) is_first is_second in
    λ stays. none (subst IsNarrow (sym same) (parts_of binary a b lane stays).whole)
whole_answer binary a b lane x y (Some z) first is_first second is_second found =
    let same = ap₂ (combined_number binary) is_first is_second in
    (stays_combined binary a b lane first second (subst IsNarrow same found.0), found.1 ∙ same ∙ sym (value_combined binary a b lane))

-- ---- in all lanes

abbrev Tells : (ℕ → ℤ) → Expression → ValuesAlong → Type 0
Tells x e v = (k : ℕ) → k < LANES → x k ≡ value_of e (lane_of v k)

module _ (binary : Binary) (a b : Expression) (v : ValuesAlong) where
  abbrev whole : Expression
  whole = combined binary a b

  -- what the numbers of the parts come to
  module _ (x y : ℕ → ℤ) (stays_first : StaysNarrowInLanes a v) (first : Tells x a v) (stays_second : StaysNarrowInLanes b v) (second : Tells y b v) where
    abbrev z : ℕ → ℤ
    z k = combined_number binary (x k) (y k)

    both : (k : ℕ) → k < LANES → z k ≡ combined_number binary (value_of a (lane_of v k)) (value_of b (lane_of v k))
    both k lt = ap₂ (combined_number binary) (first k lt) (second k lt)

    narrow_in : StaysNarrowInLanes whole v → AreNarrow z
    narrow_in stays k lt = subst IsNarrow (sym (both k lt)) (parts_of binary a b (lane_of v k) (stays k lt)).whole

    stays_in : AreNarrow z → StaysNarrowInLanes whole v
    stays_in narrow k lt = stays_combined binary a b (lane_of v k) (stays_first k lt) (stays_second k lt) (subst IsNarrow (both k lt) (narrow k lt))

    pub combined_answer : (answer : Option LaneValues) (lanes : List ℤ) → AnswersNumbers answer lanes z → AnswersValues answer whole v lanes
    combined_answer None lanes none = λ stays. none (narrow_in stays)
    combined_answer (Some values) lanes are = (stays_in are.0, λ k lt. are.1 k lt ∙ both k lt ∙ sym (value_combined binary a b (lane_of v k)))

-- ---- in all lanes

module _ (binary : Binary) (x y : ℕ → ℤ) (left right : List ℤ) (is_left : IsColumnOf left x) (is_right : IsColumnOf right y) where
  abbrev in_lane : ℕ → ℤ
  in_lane k = combined_number binary (at left k) (at right k)

  same : (k : ℕ) → k < LANES → in_lane k ≡ combined_number binary (x k) (y k)
  same k lt = ap₂ (combined_number binary) (is_left k lt) (is_right k lt)

  pub lanes_hold : (found : List ℤ) → IsNarrowColumnOf found in_lane → IsNarrowColumnOf found (λ k. combined_number binary (x k) (y k))
  lanes_hold found are = (λ k lt. subst IsNarrow (same k lt) (are.0 k lt), λ k lt. are.1 k lt ∙ same k lt)

  pub lanes_leave : ¬ (AreNarrow in_lane) → ¬ (AreNarrow (λ k. combined_number binary (x k) (y k)))
  lanes_leave leave narrow = leave (λ k lt. subst IsNarrow (sym (same k lt)) (narrow k lt))

-- ---- from values that are the same in all lanes

abbrev passed : ℤ → ℤ
passed z = to_z w64 (of_z w64 z)

pub narrow_passed : (z : ℤ) → IsNarrow z → passed z ≡ z
narrow_passed (pos n) narrow = omega (arith, ints, narrow.1)
narrow_passed (negsuc n) narrow = omega (arith, ints, narrow.0)

module _ (binary : Binary) (left right : LaneValues) (found other : List ℤ) (x y : ℤ) (is_left : left ≡ Alike x) (is_right : right ≡ Alike y) (first : FitsSigned w64 x) (second : FitsSigned w64 y) where
  abbrev by_lane : ℕ → ℤ
  by_lane k = combined_number binary (value_in left found k) (value_in right other k)

  in_all : (k : ℕ) → combined_number binary (passed x) (passed y) ≡ by_lane k
  in_all k =
      ap₂ (combined_number binary)
      (to_z-of_z w64 x first ∙ sym (ap (λ (v : LaneValues). value_in v found k) is_left))
      (to_z-of_z w64 y second ∙ sym (ap (λ (v : LaneValues). value_in v other k) is_right))

  pub alike_hold : (z : ℤ) → IsNarrow (combined_number binary (passed x) (passed y)) × (z ≡ combined_number binary (passed x) (passed y)) → AreNumbers (Alike (passed z)) found by_lane
  alike_hold z h =
      let narrow : IsNarrow z = subst IsNarrow (sym h.1) h.0 in
      (λ k lt. subst IsNarrow (in_all k) h.0, λ k lt. narrow_passed z narrow ∙ h.1 ∙ in_all k)

  pub alike_leave : ¬ (IsNarrow (combined_number binary (passed x) (passed y))) → ¬ (AreNarrow by_lane)
  alike_leave leave narrow = leave (subst IsNarrow (sym (in_all 0)) (narrow 0 (omega arith)))
