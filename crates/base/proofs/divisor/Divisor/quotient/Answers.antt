use Rattle.std.proofs.Common.{◌*◌, ◌/◌, ◌<◌, ◌≤◌, ◌-◌, ◌^◌, sym}
use Rattle.base.proofs.Quotients.{near_at_most, near_enough, one_too_small}
use Rattle.base.proofs.divisor.Divisor.quotient.Goals as goal

pub overflow_sub-x : goal.overflow_sub-x
overflow_sub-x c = rw (c.from.ensures, c.from-2.ensures, c.self.invariant.2) (near_at_most c.args.x c.self.inside.by (2 ^ 64) c.self.invariant.0 c.ranges.x.fits)

pub returns-then-x-near-clause-quotient : goal.returns-then-x-near-clause-quotient
returns-then-x-near-clause-quotient c =
    let short : c.args.x - c.args.x * ((2 ^ 64 - 1) / c.self.inside.by) / 2 ^ 64 * c.self.inside.by < c.self.inside.by = rw (c.from.ensures, c.from-2.ensures, c.self.invariant.2) at c.if-x-near.true in
    rw (c.from.ensures, c.from-2.ensures, c.self.invariant.2, sym c.self.view_is) (near_enough c.args.x c.self.inside.by (2 ^ 64) c.self.invariant.0 c.ranges.x.fits short)

pub returns-else-x-near-clause-quotient : goal.returns-else-x-near-clause-quotient
returns-else-x-near-clause-quotient c =
    let long : c.self.inside.by ≤ c.args.x - c.args.x * ((2 ^ 64 - 1) / c.self.inside.by) / 2 ^ 64 * c.self.inside.by = rw (c.from.ensures, c.from-2.ensures, c.self.invariant.2) at c.if-x-near.false in
    rw (c.from.ensures, c.from-2.ensures, c.self.invariant.2, sym c.self.view_is) (one_too_small c.args.x c.self.inside.by (2 ^ 64) c.self.invariant.0 c.ranges.x.fits long)
