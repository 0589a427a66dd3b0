use Rattle.std.proofs.Common.{◌-◌, ℕ, List, Some, set, refl, ◌∙◌, arith}
use Rattle.std.proofs.lemmas.List.{length-set, get_or-set_other}
use Rattle.std.proofs.lemmas.List.Sums.{sum_by-set}
use Rattle.source_lists.specs.inside.FanCounts.{KeepsFans}
use Rattle.source_lists.proofs.CountedFans.{is_moved, box_below, keeps_all, keeps_both, same_count, same_sum, IsAdded, is_added}
use Rattle.source_lists.proofs.fans.Fans.count_shape.Goals as goal

pub overflow_sub-distance : goal.overflow_sub-distance
overflow_sub-distance c = (is_moved c.args.grid.now (Some c.args.b) c.args.b refl c.requires.grid c.requires.ordered).ordered

pub make_room-requires : goal.make_room-requires
make_room-requires c = omega (arith, box_below c.args.grid.now (Some c.args.b) c.args.b refl c.requires.grid c.requires.ordered, c.requires.limit)

pub index_mut-requires : goal.index_mut-requires
index_mut-requires c = omega (arith, c.in_ok-make_room.ensures.within, c.make_room.new.items.ok.0)

-- the counts before and after
module _ (c : goal.After-self-1) where
  kept_first : KeepsFans c.args.grid.now c.args.self.now.counts.items c.make_room.new.items.items
  kept_first = keeps_all c.args.grid.now c.args.self.now.counts.items c.make_room.new.items.items c.in_ok-make_room.ensures.same c.requires.shapes

  abbrev now : List ℕ
  now = set c.make_room.new.items.items (c.args.b.last - c.args.b.first) c.box_count-cells.result

  added : IsAdded c.args.grid.now c.make_room.new.items.items now c.args.b
  added = is_added c.args.grid.now (Some c.args.b) c.args.b refl c.requires.grid c.requires.ordered c.make_room.new.items.items c.box_count-cells.result c.in_ok-make_room.ensures.within kept_first.shapes c.box_count-cells.ensures.some c.box_count-cells.ensures.count

pub returns-clause-distances : goal.returns-clause-distances
returns-clause-distances c =
    let long = length-set c.make_room.new.items.items (c.args.b.last - c.args.b.first) c.box_count-cells.result in
    omega (arith, long, c.in_ok-make_room.ensures.few, c.requires.distances, box_below c.args.grid.now (Some c.args.b) c.args.b refl c.requires.grid c.requires.ordered)

pub returns-clause-counted : goal.returns-clause-counted
returns-clause-counted c = (added c).counted

pub returns-clause-kept : goal.returns-clause-kept
returns-clause-kept c = keeps_both c.args.grid.now c.args.self.now.counts.items c.make_room.new.items.items (now c) (kept_first c) (added c).kept

pub returns-clause-few : goal.returns-clause-few
returns-clause-few c =
    let before = c.make_room.new.items.items in
    omega (arith, sum_by-set (λ n. n) before (c.args.b.last - c.args.b.first) c.box_count-cells.result 0 c.in_ok-make_room.ensures.within, same_sum c.args.self.now.counts.items before c.in_ok-make_room.ensures.same)

pub returns-clause-others : goal.returns-clause-others
returns-clause-others c = λ k other.
    let before = c.make_room.new.items.items in
    get_or-set_other before (c.args.b.last - c.args.b.first) k c.box_count-cells.result 0 other ∙ same_count c.args.self.now.counts.items before c.in_ok-make_room.ensures.same k
