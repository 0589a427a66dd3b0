use Rattle.std.proofs.Common.{◌≡◌, max, length, ap, ◌∙◌, arith}
use Rattle.source_lists.specs.inside.FanCounts.{AreMerged}
use Rattle.source_lists.proofs.MergedFans.{written_over, merged_in_room}
use Rattle.source_lists.proofs.fans.Fans.merge.Goals as goal

pub returns-clause-counts : goal.returns-clause-counts
returns-clause-counts c =
    let room = c.in_ok-resize.ensures in
    let before = c.args.self.now.counts.items in
    let now = c.resize.new.self.items in
    let after = c.fill_zeros.new.known in
    let filled : AreMerged now c.args.other.now.counts.items after = rw (c.deref_mut.ensures.value, c.deref.ensures.value) at c.fill_zeros.ensures in
    let long : length after ≡ length now = c.fill_zeros.auto.known ∙ ap length c.deref_mut.ensures.value in
    let most : c.max-len.result ≡ max (length before) (length c.args.other.now.counts.items) = omega (arith, c.max-len.ensures, c.len.ensures, c.len-2.ensures, c.args.self.now.counts.ok.0, c.args.other.now.counts.ok.0) in
    let whole : length now ≡ c.max-len.result = omega (arith, room.len, c.resize.new.self.ok.0) in
    rw (written_over now after c.resize.new.self.len long (omega (arith, c.resize.new.self.ok.0)))
    (merged_in_room before c.args.other.now.counts.items now after c.max-len.result most (rw (← c.args.self.now.counts.ok.0) room.items) whole filled)
