use Rattle.std.proofs.Common.{◌≡◌, arith, w64, to_z, of_z, ◌<ℤ◌, ◌≤ℤ◌}
use Rattle.std.specs.Int.{w128}
use Rattle.std.proofs.lemmas.Int.{ints}
use Rattle.grid_quantiser.specs.Extents.{IsOnAxis}
use Rattle.grid_quantiser.proofs.QuantiserExtents.{found, start_is, end_is}
use Rattle.grid_quantiser.proofs.quantiser.AxisQuantiser.extent.Goals as goal
use Rattle.grid_quantiser.proofs.quantiser.AxisQuantiser.extent.Goals.{Else-end-high}

module _ (c : Else-end-high) where
  on : IsOnAxis c.args.self.now c.args.low × IsOnAxis c.args.self.now c.args.high
  on =
      let start = start_is _ _ _ _ c.self.view_is in
      let end = end_is _ _ _ _ c.self.view_is c.self.invariant in
      let low : (c.self.inside.lo ≤ℤ c.args.low) × (c.args.low <ℤ c.self.inside.end) = (omega (arith, ints), omega (arith, ints)) in
      let high : (c.self.inside.lo ≤ℤ c.args.high) × (c.args.high <ℤ c.self.inside.end) = (omega (arith, ints), omega (arith, ints)) in
      ((omega (arith, ints, start, low), omega (arith, ints, end, low)), (omega (arith, ints, start, high), omega (arith, ints, end, high)))

  low_is : to_z w64 (of_z w64 (to_z w128 (of_z w128 c.args.low))) ≡ c.args.low
  low_is = omega (arith, ints, on)

  high_is : to_z w64 (of_z w64 (to_z w128 (of_z w128 c.args.high))) ≡ c.args.high
  high_is = omega (arith, ints, on)

pub index_holding-requires : goal.index_holding-requires
index_holding-requires c = let k = (goal.at.index_holding-requires c).Else-end-high in rw (low_is k) (on k).0

pub index_holding-requires-2 : goal.index_holding-requires-2
index_holding-requires-2 c = let k = (goal.at.index_holding-requires-2 c).Else-end-high in rw (high_is k) (on k).1

pub returns : goal.returns
returns c =
    let k = (goal.at.returns c).Else-end-high in
    found c.args.self.now c.args.low c.args.high _ _ (on k)
    (rw (low_is k) at c.index_holding.ensures.index, c.index_holding.ensures.below) (rw (high_is k) at c.index_holding-2.ensures.index, c.index_holding-2.ensures.below)
