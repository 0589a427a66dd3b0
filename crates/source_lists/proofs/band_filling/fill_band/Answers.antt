use Rattle.std.proofs.Common.{ℕ, List, [], length, ap, arith}
use Rattle.std.proofs.lemmas.List.{length-replicate}
use Rattle.source_lists.specs.declared.intake.Counts.{Counts}
use Rattle.source_lists.proofs.SourceSteps.{counts_have_room, all_counted, rows_have_room, rows_are_full}
use Rattle.source_lists.proofs.band_filling.fill_band.Goals as goal

pub add_pairs-requires-clause-room : goal.add_pairs-requires-clause-room
add_pairs-requires-clause-room c =
    counts_have_room c.args.grid.now c.args.boxes.now c.requires.grid c.requires.ordered c.args.band.from c.args.band.len (λ (v : Counts). v.each.items) _ (c.in_ok-each.ensures.items_if_clones_equal (λ y same. same)) c.requires.edges

pub new-requires-clause-rows : goal.new-requires-clause-rows
new-requires-clause-rows c =
    let counted = all_counted c.args.grid.now c.args.boxes.now c.requires.grid c.requires.ordered c.args.band.from c.args.band.len (λ (v : Counts). v.each.items) _ (c.in_ok-each.ensures.items_if_clones_equal (λ y same. same)) c.add_pairs.new.intake c.deref.result.now c.deref.ensures.value c.add_pairs.ensures in
    omega (arith, counted.0.one_each, c.requires.within, c.requires.limit)

pub new-requires-clause-slots : goal.new-requires-clause-slots
new-requires-clause-slots c =
    let counted = all_counted c.args.grid.now c.args.boxes.now c.requires.grid c.requires.ordered c.args.band.from c.args.band.len (λ (v : Counts). v.each.items) _ (c.in_ok-each.ensures.items_if_clones_equal (λ y same. same)) c.add_pairs.new.intake c.deref.result.now c.deref.ensures.value c.add_pairs.ensures in
    omega (arith, counted.1, c.requires.edges)

pub add_pairs-requires-2-clause-one_each : goal.add_pairs-requires-2-clause-one_each
add_pairs-requires-2-clause-one_each c =
    let counted = all_counted c.args.grid.now c.args.boxes.now c.requires.grid c.requires.ordered c.args.band.from c.args.band.len (λ (v : Counts). v.each.items) _ (c.in_ok-each.ensures.items_if_clones_equal (λ y same. same)) c.add_pairs.new.intake c.deref.result.now c.deref.ensures.value c.add_pairs.ensures in
    omega (arith, ap length c.in_ok-fill.ensures.rows, length-replicate {A = List ℕ} (length c.deref.result.now) [], counted.0.one_each)

pub add_pairs-requires-2-clause-room : goal.add_pairs-requires-2-clause-room
add_pairs-requires-2-clause-room c =
    let counted = all_counted c.args.grid.now c.args.boxes.now c.requires.grid c.requires.ordered c.args.band.from c.args.band.len (λ (v : Counts). v.each.items) _ (c.in_ok-each.ensures.items_if_clones_equal (λ y same. same)) c.add_pairs.new.intake c.deref.result.now c.deref.ensures.value c.add_pairs.ensures in
    rows_have_room c.args.grid.now c.args.boxes.now c.requires.grid c.requires.ordered c.args.band.from c.args.band.len c.in_ok-fill.fill c.deref.result.now c.in_ok-fill.ensures.lengths c.in_ok-fill.ensures.rows counted.0

pub finish-requires : goal.finish-requires
finish-requires c =
    let counted = all_counted c.args.grid.now c.args.boxes.now c.requires.grid c.requires.ordered c.args.band.from c.args.band.len (λ (v : Counts). v.each.items) _ (c.in_ok-each.ensures.items_if_clones_equal (λ y same. same)) c.add_pairs.new.intake c.deref.result.now c.deref.ensures.value c.add_pairs.ensures in
    let full = rows_are_full c.args.grid.now c.args.boxes.now c.requires.grid c.requires.ordered c.args.band.from c.args.band.len c.in_ok-fill.fill c.deref.result.now c.in_ok-fill.ensures.lengths c.in_ok-fill.ensures.rows counted.0 c.add_pairs-2.new.intake c.add_pairs-2.ensures in
    full.1

pub returns : goal.returns
returns c =
    let counted = all_counted c.args.grid.now c.args.boxes.now c.requires.grid c.requires.ordered c.args.band.from c.args.band.len (λ (v : Counts). v.each.items) _ (c.in_ok-each.ensures.items_if_clones_equal (λ y same. same)) c.add_pairs.new.intake c.deref.result.now c.deref.ensures.value c.add_pairs.ensures in
    let full = rows_are_full c.args.grid.now c.args.boxes.now c.requires.grid c.requires.ordered c.args.band.from c.args.band.len c.in_ok-fill.fill c.deref.result.now c.in_ok-fill.ensures.lengths c.in_ok-fill.ensures.rows counted.0 c.add_pairs-2.new.intake c.add_pairs-2.ensures in
    rw c.finish.ensures.rows full.0
