use Rattle.std.proofs.Common.{arith}
use Rattle.source_lists.specs.Fans.{counts_of}
use Rattle.source_lists.proofs.ListedShapes.{have_segments}
use Rattle.plant_game.proofs.BoxGames.{total}
use Rattle.abstraction_table.proofs.builders.build_forward.Goals as goal

pub build_shapes-requires-clause-few : goal.build_shapes-requires-clause-few
build_shapes-requires-clause-few g c =
    let game = c.in_ok-boxed.boxed in
    omega (arith, game.counted.few, total game.grid game.boxes, game.in_memory.graph.edges_bound)

pub build_shapes-requires-clause-limit : goal.build_shapes-requires-clause-limit
build_shapes-requires-clause-limit g c = omega (arith, c.in_ok-boxed.boxed.in_memory.graph.cells_bound)

pub invariant_of-result : goal.invariant_of-result
invariant_of-result g c =
    let game = c.in_ok-boxed.boxed in
    let held = game.in_memory in
    record { listed = have_segments game.grid c.in_ok-shapes.shapes game.boxes (counts_of game.fans) held.grid held.ordered c.in_ok-shapes.ensures game.counted }
