use Rattle.std.proofs.Common.{◌≡◌, ◌<◌, ◌^◌, nat_abs, arith, ap, to_z, of_z}
use Rattle.std.specs.Prelude.{ℤ, ◌+ℤ◌, ◌-ℤ◌, ◌*ℤ◌, ◌≤ℤ◌, ◌<ℤ◌, FitsSigned}
use Rattle.std.specs.Int.{w128}
use Rattle.std.proofs.lemmas.Int.{ints, to_z-of_z}
use Rattle.fixed_expr.specs.DivExpr.{floor_div}
use Rattle.fixed_expr.specs.Curves.{IsShort, value_along}
use Rattle.fixed_expr.proofs.Pieces.{short_between, between_points}
use Rattle.fixed_expr.proofs.curve.value_along.Goals as goal
use Rattle.base.proofs.Integers.{literal_fits_wide}

apart_fits : (y z : ℤ) → nat_abs y < 10 ^ 18 → nat_abs z < 10 ^ 18 → FitsSigned w128 (y -ℤ z)
apart_fits y z h k = omega (arith, ints, h, k)

abbrev held : ℤ → ℤ
held z = to_z w128 (of_z w128 z)

module _ (p q : ℤ × ℤ) (x : ℤ) (from : IsShort p) (to : IsShort q) (after : p.0 ≤ℤ x) (before : x <ℤ q.0) where
  -- the value is as short as those of the points
  short_value : nat_abs (value_along p q x) < 10 ^ 18
  short_value =
      let rises : p.0 <ℤ q.0 = omega (arith, ints, after, before) in
      short_between p q (value_along p q x) from to (between_points p q rises x after (omega (arith, ints, before)))

  sum_is : (r : ℤ) → r ≡ floor_div (held (held q.1 -ℤ held p.1) *ℤ held (held x -ℤ held p.0)) (held (held q.0 -ℤ held p.0)) → p.1 +ℤ r ≡ value_along p q x
  sum_is r is =
      let short : nat_abs x < 10 ^ 18 = along p.0 q.0 from.0 to.0 after before in
      ap (λ (k : ℤ). p.1 +ℤ k)
      (rw (
        to_z-of_z w128 q.1 (literal_fits_wide q.1 to.1),
        to_z-of_z w128 p.1 (literal_fits_wide p.1 from.1),
        to_z-of_z w128 x (literal_fits_wide x short),
        to_z-of_z w128 p.0 (literal_fits_wide p.0 from.0),
        to_z-of_z w128 q.0 (literal_fits_wide q.0 to.0),
        to_z-of_z w128 (q.1 -ℤ p.1) (apart_fits q.1 p.1 to.1 from.1),
        to_z-of_z w128 (x -ℤ p.0) (apart_fits x p.0 short from.0),
        to_z-of_z w128 (q.0 -ℤ p.0) (apart_fits q.0 p.0 to.0 from.0),
      ) at is)
    where
      along : (a b : ℤ) → nat_abs a < 10 ^ 18 → nat_abs b < 10 ^ 18 → a ≤ℤ x → x <ℤ b → nat_abs x < 10 ^ 18
      along a b h k above below = omega (arith, ints, h, k, above, below)

pub overflow_add-result : goal.overflow_add-result
overflow_add-result c =
    let p = c.args.p in
    let q = c.args.q in
    let x : ℤ = c.args.x in
    let r : ℤ = c.part_of.result in
    let short = short_value p q x c.requires.from c.requires.to c.requires.after c.requires.before in
    rw (to_z-of_z w128 p.1 (literal_fits_wide p.1 c.requires.from.1), to_z-of_z w128 r (record { sfits = c.part_of.type_inv }), sum_is p q x c.requires.from c.requires.to c.requires.after c.requires.before r c.part_of.ensures)
    (literal_fits_wide (value_along p q x) short)

pub returns-clause-value : goal.returns-clause-value
returns-clause-value c =
    let p = c.args.p in
    let q = c.args.q in
    let x : ℤ = c.args.x in
    let r : ℤ = c.part_of.result in
    let short = short_value p q x c.requires.from c.requires.to c.requires.after c.requires.before in
    rw (to_z-of_z w128 p.1 (literal_fits_wide p.1 c.requires.from.1), to_z-of_z w128 r (record { sfits = c.part_of.type_inv }), sum_is p q x c.requires.from c.requires.to c.requires.after c.requires.before r c.part_of.ensures)
    (to_z-of_z w128 (value_along p q x) (literal_fits_wide (value_along p q x) short))

pub returns-clause-short : goal.returns-clause-short
returns-clause-short c =
    rw (returns-clause-value c) (short_value c.args.p c.args.q c.args.x c.requires.from c.requires.to c.requires.after c.requires.before)
