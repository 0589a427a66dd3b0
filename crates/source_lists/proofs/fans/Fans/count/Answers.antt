use Rattle.source_lists.proofs.CountedFans.{is_moved, known_cells}
use Rattle.source_lists.proofs.fans.Fans.count.Goals as goal

pub known-requires : goal.known-requires
known-requires c = record { ordered = (is_moved c.args.grid.now c.args.b c.in-Some.b c.in-Some.is c.requires.grid c.requires.ordered).ordered }

pub returns-in-Some-known-clause-cells : goal.returns-in-Some-known-clause-cells
returns-in-Some-known-clause-cells c =
    known_cells c.args.grid.now c.args.self.now.counts.items c.args.b c.in-Some.b c.in-Some-known.cells c.in-Some.is c.requires.grid c.requires.ordered c.requires.shapes c.in-Some-known.ensures.some c.in-Some-known.ensures.count
