use Rattle.std.proofs.Common.{length, ap, arith}
use Rattle.std.proofs.lemmas.List.{length-map}
use Rattle.successor_box.specs.SuccessorBoxes.{cells_in}
use Rattle.plant_game.proofs.BoxGames.{total}
use Rattle.abstraction_table.proofs.builders.add_sources.Goals as goal

pub build_sources-requires-clause-ordered : goal.build_sources-requires-clause-ordered
build_sources-requires-clause-ordered g c = λ κs within. rw c.as_slice.ensures c.args.forward.boxed.in_memory.ordered

pub build_sources-requires-clause-pairs : goal.build_sources-requires-clause-pairs
build_sources-requires-clause-pairs g c = λ κs within.
    let o = c.args.forward.boxed in
    let graph = o.in_memory.graph in
    omega (arith, ap length c.as_slice.ensures, length-map o.boxes (cells_in o.grid), graph.game.one_list_each, graph.pairs_bound)

pub build_sources-requires-clause-edges : goal.build_sources-requires-clause-edges
build_sources-requires-clause-edges g c = λ κs within.
    let o = c.args.forward.boxed in
    rw c.as_slice.ensures (omega (arith, total o.grid o.boxes, o.in_memory.graph.edges_bound))

pub build_sources-requires-clause-segments : goal.build_sources-requires-clause-segments
build_sources-requires-clause-segments g c = λ κs within. rw c.as_slice.ensures c.args.forward.listed
