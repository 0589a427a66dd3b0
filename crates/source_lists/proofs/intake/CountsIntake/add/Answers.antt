use Rattle.std.proofs.Common.{◌≡◌, ℕ, ◌+◌, ◌-◌, ◌^◌, List, sym, subst, length, arith}
use Rattle.std.specs.List.{range_with_len}
use Rattle.edge_rows.proofs.RunsLaid.{items_after}
use Rattle.source_lists.specs.inside.Tallies.{AreCounted}
use Rattle.source_lists.proofs.Tallying.{counted_segment, segment_counts_fit}
use Rattle.source_lists.proofs.intake.CountsIntake.add.Goals as goal

pub add_one-requires : goal.add_one-requires
add_one-requires c =
    let counts = c.args.self.now.each.items in
    rw c.deref_mut.ensures.value (segment_counts_fit (2 ^ 32) counts c.args.first c.args.len (c.args.first + c.args.len - c.args.first) (omega arith) c.requires.within c.requires.room)

pub returns : goal.returns
returns c =
    let each = c.args.self.now.each in
    let first = c.args.first in
    let len = c.args.len in
    let many : each.len ≡ length each.items = omega (arith, each.ok.0) in
    let after = items_after (λ n. n + 1) each.items c.deref_mut.result.now c.add_one.new.counts first len (first + len - first) each.len c.deref_mut.ensures.value (omega arith) c.add_one.ensures many in
    subst (λ (xs : List ℕ). AreCounted each.items xs (range_with_len first len)) (sym after) (counted_segment each.items first len c.requires.within)
