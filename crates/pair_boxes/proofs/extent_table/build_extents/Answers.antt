use Rattle.std.proofs.Common.{◌≡◌, ℕ, ◌+◌, ◌<◌, List, Option, None, length, subst₂, arith}
use Rattle.std.proofs.lemmas.List.{length-replicate}
use Rattle.grid_quantiser.specs.declared.extents.Extent.{Extent}
use Rattle.pair_boxes.specs.declared.digits.Digit.{Digit}
use Rattle.pair_boxes.specs.inside.ExtentTables.{IsExtentFor}
use Rattle.pair_boxes.proofs.IfOks.{IfOk-both}
use Rattle.pair_boxes.proofs.extent_table.build_extents.Goals as goal

pub by_chunks-requires-clause-accepts : goal.by_chunks-requires-clause-accepts
by_chunks-requires-clause-accepts g c κs within = λ start chunk here.
    (c.requires, omega (arith, here.in_bounds, length-replicate {A = Option Extent} c.args.digits.now.slots None, c.requires.few, c.args.of.now.sampled.within.pairs))

pub returns-clause-each : goal.returns-clause-each
returns-clause-each g c =
    let p = c.args.of.now.sampled.plant.now in
    let digits : List Digit = c.args.digits.now.each.items in
    let slots : ℕ = c.args.digits.now.slots in
    IfOk-both c.by_chunks.result _ _ _ c.by_chunks.ensures.len c.by_chunks.ensures.by_index (λ extents len by_index slot below.
    let found = (by_index slot None (omega (arith, below, len, length-replicate {A = Option Extent} slots None))).1 in
    let short : found.offset < length found.after_call.now = omega (arith, found.offset_in_chunk, found.call.0) in
    let from : found.start + found.offset ≡ 0 + slot = omega (arith, found.start_plus_offset) in
    subst₂ (λ (n : ℕ) (extent : Option Extent). IsExtentFor p c.args.of.now.state digits n extent) from found.new_element (found.call.1 found.offset short))
