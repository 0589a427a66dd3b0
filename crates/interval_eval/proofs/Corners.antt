-- Each of four numbers lies in the range where the least and the greatest of them do.
use Rattle.std.specs.Prelude.{◌*ℤ◌}
use Rattle.fixed_expr.specs.Range.{IsInRange}
use Rattle.interval_eval.specs.declared.interval.Interval.{Interval}
use Rattle.interval_eval.specs.Span.{EndsFit, mul_span}
use Rattle.interval_eval.proofs.Integers.{least, greatest, all_between}
use Rattle.interval_eval.proofs.Ranging.{between}

-- each product of ends lies in the range
pub record CornersFit (a b : Interval) : Type 0 where
  pub first : IsInRange (a.lo *ℤ b.lo)
  pub second : IsInRange (a.lo *ℤ b.hi)
  pub third : IsInRange (a.hi *ℤ b.lo)
  pub fourth : IsInRange (a.hi *ℤ b.hi)

pub corners_fit : (a b : Interval) → EndsFit (mul_span a b) → CornersFit a b
corners_fit a b fits =
    let p = a.lo *ℤ b.lo in
    let q = a.lo *ℤ b.hi in
    let r = a.hi *ℤ b.lo in
    let s = a.hi *ℤ b.hi in
    let h = all_between p q r s in
    record {
      first = between (least p q r s) (greatest p q r s) p fits.0 fits.1 h.0.0 h.0.1;
      second = between (least p q r s) (greatest p q r s) q fits.0 fits.1 h.1.0 h.1.1;
      third = between (least p q r s) (greatest p q r s) r fits.0 fits.1 h.2.0 h.2.1;
      fourth = between (least p q r s) (greatest p q r s) s fits.0 fits.1 h.3.0 h.3.1;
    }
