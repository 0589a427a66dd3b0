use Rattle.grid_quantiser.specs.inside.Overlaps.{first_point, last_point}
use Rattle.grid_quantiser.proofs.CellPoints.{at_most_point, point_at_most}
use Rattle.grid_quantiser.proofs.grid.Grid.has_overlap.Goals as goal

pub returns-then-is_at_most-clause-overlap : goal.returns-then-is_at_most-clause-overlap
returns-then-is_at_most-clause-overlap c =
    let first = rw (c.axes-axes.ensures.same, c.point.ensures, c.first_point.ensures, at_most_point (first_point c.args.overlap) c.args.self.now c.args.c c.args.lo.now) at (c.is_at_most.ensures.0 c.if-is_at_most.true) in
    let last = rw (c.axes-axes.ensures.same, c.point-then-is_at_most.ensures, c.last_point.ensures, point_at_most (last_point c.args.overlap) c.args.self.now c.args.c c.args.hi.now) at c.is_at_most-then-is_at_most.ensures in
    (λ h. (c.requires.ordered, first, last.0 h), λ h. last.1 h.2)

pub returns-else-is_at_most-clause-overlap : goal.returns-else-is_at_most-clause-overlap
returns-else-is_at_most-clause-overlap c =
    let first = rw (c.axes-axes.ensures.same, c.point.ensures, c.first_point.ensures, at_most_point (first_point c.args.overlap) c.args.self.now c.args.c c.args.lo.now) at c.is_at_most.ensures in (λ h. cc, λ h. first.1 h.1)
