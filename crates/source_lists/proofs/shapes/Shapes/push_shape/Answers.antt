use Rattle.std.proofs.Common.{◌≡◌, List, length, set, subst, arith}
use Rattle.std.specs.Vec.{with_item}
use Rattle.grid_quantiser.specs.declared.axis.Axis.{Axis}
use Rattle.grid_quantiser.specs.CellBoxes.{cells_between}
use Rattle.source_lists.specs.declared.shapes.Shapes.{Shapes}
use Rattle.source_lists.specs.Shapes.{HasSegmentsAt}
use Rattle.source_lists.specs.inside.ListedSegments.{KeepsSegments, ListsSegments}
use Rattle.source_lists.proofs.ListedShapes.{has_here, keeps}
use Rattle.source_lists.proofs.shapes.Shapes.push_shape.Goals as goal

module _ (c : goal.After-self-1) where
  abbrev axes : List Axis
  axes = c.args.grid.now

  abbrev before : Shapes
  before = c.args.self.now

  abbrev after : Shapes
  after = record { ranges = with_item before.ranges c.args.distance (record { from = c.len-from.result; to = c.len-to.result }); segments = c.push_segments.new.segments }

  ranges : after.ranges.items ≡ set before.ranges.items c.args.distance (record { from = length before.segments.items; to = length after.segments.items })
  ranges =
      let from : c.len-from.result ≡ length before.segments.items = omega (arith, c.len-from.ensures, before.segments.ok.0) in
      let to : c.len-to.result ≡ length after.segments.items = omega (arith, c.len-to.ensures, after.segments.ok.0) in
      λ i. set before.ranges.items c.args.distance (record { from = from i; to = to i })

  lists : ListsSegments before.segments.items after.segments.items (cells_between axes 0 c.args.distance)
  lists = subst (ListsSegments before.segments.items after.segments.items) c.segments.ensures c.in_ok-push_segments.ensures

  kept : KeepsSegments axes before after
  kept = keeps axes before after c.args.distance c.requires.within ranges lists

  has : HasSegmentsAt axes after c.args.distance
  has = has_here axes before after c.args.distance c.requires.within ranges lists

pub returns-clause-kept : goal.returns-clause-kept
returns-clause-kept c = kept c

pub returns-clause-listed : goal.returns-clause-listed
returns-clause-listed c = has c
