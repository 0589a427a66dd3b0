use Rattle.source_lists.proofs.BandCuts.{have_loads}
use Rattle.source_lists.proofs.SourceBands.{are_bands}
use Rattle.source_lists.proofs.sources.build_sources.Goals as goal

pub build_cuts-requires-clause-loads : goal.build_cuts-requires-clause-loads
build_cuts-requires-clause-loads g c = rw c.cells.ensures.count (have_loads c.args.grid.now c.args.boxes.now c.args.fans.now.counts.items c.requires.grid c.requires.ordered c.requires.counted)

pub returns : goal.returns
returns g c =
    let cut = rw c.cells.ensures.count at c.in_ok-cuts.ensures.cuts in
    let grouped = rw c.cells-2.ensures.count at c.in_ok-groups.ensures in
    are_bands c.args.grid.now c.args.boxes.now c.in_ok-cuts.cuts c.in_ok-groups.groups.items c.in_ok-bands.bands.items cut grouped c.in_ok-bands.ensures
