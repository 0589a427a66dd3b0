use Rattle.std.proofs.Common.{◌≡◌, arith, w64, to_z, of_z, ◌+ℤ◌, ◌-ℤ◌, ◌<ℤ◌, ◌≤ℤ◌}
use Rattle.std.proofs.lemmas.Int.{ints}
use Rattle.grid_quantiser.specs.Extents.{IsOnAxis}
use Rattle.grid_quantiser.proofs.QuantiserExtents.{missing, found, start_is, end_is}
use Rattle.grid_quantiser.proofs.quantiser.AxisQuantiser.extent_around.Goals as goal
use Rattle.grid_quantiser.proofs.quantiser.AxisQuantiser.extent_around.Goals.{In_ok-radius, In_ok-high, then-low-start-via-then-low-start, then-low-start-via-else-low-start+then-end-high}

module _ (c : In_ok-radius) where
  centre_is : to_z w64 (of_z w64 c.in_ok-centre.centre) ≡ c.args.centre
  centre_is = omega (arith, ints, c.in_ok-centre.ensures)

  radius_is : to_z w64 (of_z w64 c.in_ok-radius.radius) ≡ c.args.radius
  radius_is = omega (arith, ints, c.in_ok-radius.ensures)

pub returns-in_err-low : goal.returns-in_err-low
returns-in_err-low c =
    let start = start_is _ _ _ _ c.self.view_is in
    let end = end_is _ _ _ _ c.self.view_is c.self.invariant in
    let k = (goal.at.returns-in_err-low c).In_ok-radius in
    rw c.from_residual-in_err-low.ensures (missing _ _ _ (λ low high. c.in_err-low.ensures (omega (arith, ints, start, end, low.0, high.1, centre_is k, radius_is k))))

pub returns-in_err-high : goal.returns-in_err-high
returns-in_err-high c =
    let start = start_is _ _ _ _ c.self.view_is in
    let end = end_is _ _ _ _ c.self.view_is c.self.invariant in
    let k = (goal.at.returns-in_err-high c).In_ok-radius in
    rw c.from_residual-in_err-high.ensures (missing _ _ _ (λ low high. c.in_err-high.ensures (omega (arith, ints, start, end, low.0, high.1, centre_is k, radius_is k))))

module _ (c : In_ok-high) where
  low_is : to_z w64 (of_z w64 c.in_ok-low.low) ≡ c.args.centre -ℤ c.args.radius
  low_is = omega (arith, ints, c.in_ok-centre.ensures, c.in_ok-radius.ensures, c.in_ok-low.ensures)

  high_is : to_z w64 (of_z w64 c.in_ok-high.high) ≡ c.args.centre +ℤ c.args.radius
  high_is = omega (arith, ints, c.in_ok-centre.ensures, c.in_ok-radius.ensures, c.in_ok-high.ensures)

  on : c.self.inside.lo ≤ℤ (c.args.centre -ℤ c.args.radius) → (c.args.centre +ℤ c.args.radius) <ℤ c.self.inside.end →
      IsOnAxis c.args.self.now (c.args.centre -ℤ c.args.radius) × IsOnAxis c.args.self.now (c.args.centre +ℤ c.args.radius)
  on low high =
      let start = start_is _ _ _ _ c.self.view_is in
      let end = end_is _ _ _ _ c.self.view_is c.self.invariant in
      ((omega (arith, ints, start, low), omega (arith, ints, end, high)), (omega (arith, ints, start, low), omega (arith, ints, end, high)))

pub returns-then-low-start : goal.returns-then-low-start
returns-then-low-start c =
    let start = start_is _ _ _ _ c.self.view_is in
    let end = end_is _ _ _ _ c.self.view_is c.self.invariant in
    let k = (goal.at.returns-then-low-start c).In_ok-high in
    missing _ _ _ (λ low high. elim c.then-low-start.branch [
      | then-low-start-via-then-low-start w ↦ omega (arith, ints, start, low.0, low_is k, w.if-low-start.true)
      | then-low-start-via-else-low-start+then-end-high w ↦ omega (arith, ints, end, high.1, high_is k, w.if-end-high.true)
    ])

pub index_holding-requires : goal.index_holding-requires
index_holding-requires c =
    let k = (goal.at.index_holding-requires c).In_ok-high in
    rw (low_is k) (on k (omega (arith, ints, low_is k, c.if-low-start.false)) (omega (arith, ints, high_is k, c.if-end-high.false))).0

pub index_holding-requires-2 : goal.index_holding-requires-2
index_holding-requires-2 c =
    let k = (goal.at.index_holding-requires-2 c).In_ok-high in
    rw (high_is k) (on k (omega (arith, ints, low_is k, c.if-low-start.false)) (omega (arith, ints, high_is k, c.if-end-high.false))).1

pub returns : goal.returns
returns c =
    let k = (goal.at.returns c).In_ok-high in
    found c.args.self.now _ _ _ _ (on k (omega (arith, ints, low_is k, c.if-low-start.false)) (omega (arith, ints, high_is k, c.if-end-high.false)))
    (rw (low_is k) at c.index_holding.ensures.index, c.index_holding.ensures.below) (rw (high_is k) at c.index_holding-2.ensures.index, c.index_holding-2.ensures.below)
