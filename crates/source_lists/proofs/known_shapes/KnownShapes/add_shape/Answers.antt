use Rattle.std.proofs.Common.{◌+◌, ◌-◌, Some, refl, arith}
use Rattle.source_lists.specs.declared.shapes.Shapes.{Shapes}
use Rattle.source_lists.proofs.AddedShapes.{listed_more, range_kept}
use Rattle.source_lists.proofs.CountedFans.{as_many, is_moved}
use Rattle.source_lists.proofs.known_shapes.KnownShapes.add_shape.Goals as goal

pub overflow_sub-distance : goal.overflow_sub-distance
overflow_sub-distance c = (is_moved c.args.grid.now (Some c.args.b) c.args.b refl c.requires.grid c.requires.ordered).ordered

pub push_shape-requires-clause-few : goal.push_shape-requires-clause-few
push_shape-requires-clause-few c =
    let moved = is_moved c.args.grid.now (Some c.args.b) c.args.b refl c.requires.grid c.requires.ordered in
    omega (arith, c.requires.known.few, c.in_ok-cells.ensures.cells, as_many c.args.grid.now c.args.b moved, c.from.ensures, c.if-edges-from-gt-EDGES_LIMIT.false)

pub returns-clause-segments : goal.returns-clause-segments
returns-clause-segments c =
    let before = c.args.self.now.shapes in
    let reached : Shapes = record { ranges = c.make_room.new.items; segments = before.segments } in
    λ k has. c.in_ok-push_shape.ensures.kept k (range_kept c.args.grid.now before reached _ c.in_ok-make_room.ensures.same refl k has)

pub returns-clause-known : goal.returns-clause-known
returns-clause-known c =
    let axes = c.args.grid.now in
    let b = c.args.b in
    let before = c.args.self.now.shapes in
    let moved = is_moved axes (Some b) b refl c.requires.grid c.requires.ordered in
    let counted = c.in_ok-cells.ensures in
    let pushed = c.in_ok-push_shape.ensures in
    listed_more axes c.args.edges (c.args.edges + c.in_ok-cells.cells) c.args.self.now.fans.counts.items c.count_shape.new.self.counts.items before (omega arith) c.requires.known counted.distances counted.kept c.push_shape.new.self (b.last - b.first)
    counted.others (omega (arith, pushed.few, c.requires.known.few, counted.cells, as_many axes b moved)) (returns-clause-segments c) pushed.listed
