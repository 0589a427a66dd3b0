use Rattle.std.proofs.Common.{◌≡◌, arith, rules, of_calls, to_z, of_z}
use Rattle.std.specs.Prelude.{ℤ, int_le}
use Rattle.std.specs.Int.{w128}
use Rattle.std.proofs.lemmas.Int.{ints, to_z-of_z}
use Rattle.std.proofs.lemmas.List.Sorted.{IsPartitionPoint-from_clause}
use Rattle.fixed_expr.proofs.PointsPassed.{passed_first}
use Rattle.fixed_expr.proofs.curve.points_passed.Goals as goal

pub returns : goal.returns
returns c =
    let points = c.args.points.now in
    let x : ℤ = to_z w128 (of_z w128 c.args.x) in
    let is : x ≡ c.args.x = to_z-of_z w128 c.args.x c.ranges.x in
    let point = IsPartitionPoint-from_clause (λ (p : ℤ × ℤ). int_le p.0 x) points c.partition_point.result c.partition_point.ensures.partitioned (passed_first points x c.requires) (λ a r q k. search (rules, of_calls)) in
    record {
      whole = c.partition_point.ensures.bound;
      before = λ k d below. omega (arith, ints, is, point.0 k d (omega arith) below);
      after = λ k d above below. omega (arith, ints, is, point.1 k d above below);
    }
