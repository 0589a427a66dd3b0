use Rattle.std.proofs.Common.{◌≡◌, ℕ, ◌-◌, List, Vec, Global, ap, subst, ◌∙◌, arith}
use Rattle.std.specs.Prelude.{IfOk}
use Rattle.std.specs.declared.result.Result.{Result}
use Rattle.std.specs.List.{AllZip, range_with_len}
use Rattle.base.specs.declared.no_memory.NoMemory.{NoMemory}
use Rattle.edge_rows.specs.declared.rows.Rows.{Rows}
use Rattle.rayon.specs.Numbers.{nat_range}
use Rattle.source_lists.specs.inside.BandRows.{HasBandRows}
use Rattle.source_lists.proofs.Mapped.{below_end}
use Rattle.source_lists.proofs.SourceBands.{hold_bands}
use Rattle.source_lists.proofs.sources.fill_bands.Goals as goal

pub collect-requires-clause-ready : goal.collect-requires-clause-ready
collect-requires-clause-ready g c = λ κs outlives.
    let asked = c.requires in
    let ends = c.into_par_iter.ensures in
    rw (c.map.ensures.base, c.map.ensures.f, c.with_min_len.ensures.base, ends.0, ends.1) (λ k d lt.
    let band = below_end c.bands.result k d lt in
    ((asked.grid, (asked.limit, (asked.ordered, (asked.segments, (asked.ranges, (asked.pairs, (asked.edges, (asked.cuts, omega (arith, band, c.bands.ensures))))))))), λ y is. tt))

pub returns : goal.returns
returns g c =
    let ends = c.into_par_iter.ensures in
    let axes = c.args.grid.now in
    let boxes = c.args.boxes.now in
    let cuts = c.args.cuts.now in
    let count = c.bands.result in
    let h = c.in_ok-collect.ensures in
    let chain = rw (c.map.ensures.base, c.map.ensures.f, c.with_min_len.ensures.base) at h.1 in
    let whole : count - 0 ≡ count = omega arith in
    let numbers = chain.1 ∙ (λ i. nat_range (ends.0 i) (ends.1 i)) ∙ ap (range_with_len 0) whole in
    let by_band = subst (λ (ns : List ℕ). AllZip (λ k (r : Result (List (List ℕ)) NoMemory). IfOk r (HasBandRows axes boxes cuts k)) ns h.0) numbers chain.2 in
    hold_bands (λ (v : Vec Rows Global). v.items) _ axes boxes cuts count h.0 c.in_ok-collect.field-0 c.bands.ensures by_band h.2
