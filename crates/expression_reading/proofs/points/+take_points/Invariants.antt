use Rattle.expression_reading.proofs.points.+take_points.Given as goal

abbrev pub decreases-take_points : goal.decreases-take_points
decreases-take_points l = l.limit
