use Rattle.std.proofs.Common.{◌≡◌, ℕ, ◌-◌, List, ap, subst, ◌∙◌, arith}
use Rattle.std.specs.List.{AllZip, range_with_len}
use Rattle.rayon.specs.Numbers.{nat_range}
use Rattle.source_lists.specs.inside.CellRanges.{IsRangeOf}
use Rattle.source_lists.proofs.SourceBands.{hold_ranges}
use Rattle.source_lists.proofs.cell_ranges.build_ranges.Goals as goal

pub returns : goal.returns
returns g c =
    let ends = c.into_par_iter.ensures in
    let boxes = c.args.boxes.now in
    let count = c.range_count.result in
    let whole : count - 0 ≡ count = omega arith in
    hold_ranges (λ v. v.items) boxes count c.collect.result _ (λ ranges gives.
    let chain = rw (c.map.ensures.base, c.map.ensures.f, c.with_min_len.ensures.base) at gives in
    let numbers = chain.1 ∙ (λ i. nat_range (ends.0 i) (ends.1 i)) ∙ ap (range_with_len 0) whole in
    subst (λ (ns : List ℕ). AllZip (IsRangeOf boxes) ns ranges) numbers chain.2) c.collect.ensures
