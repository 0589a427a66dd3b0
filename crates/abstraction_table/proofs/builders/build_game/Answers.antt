use Rattle.std.proofs.Common.{◌^◌, ◌≤◌, ◌∙◌, arith}
use Rattle.plant_game.specs.BoxGame.{edges_of}
use Rattle.plant_record.specs.Description.{axes_of, vectors_of}
use Rattle.plant_record.proofs.lemmas.SoundPlants.{sound}
use Rattle.plant_game.proofs.BoxGames.{ordered, are_edges, is_game_of, is_graph_of}
use Rattle.abstraction_table.proofs.builders.build_game.Goals as goal

pub count_fans-requires-clause-grid : goal.count_fans-requires-clause-grid
count_fans-requires-clause-grid g c = λ κs outlives.
    rw c.grid.ensures (sound c.args.sampled.now.plant.now c.args.sampled.now.within.plant).axes

pub count_fans-requires-clause-ordered : goal.count_fans-requires-clause-ordered
count_fans-requires-clause-ordered g c = λ κs outlives.
    rw (c.grid.ensures, c.as_slice.ensures) (ordered c.args.sampled.now.plant.now c.args.sampled.now.within c.in_ok-boxes.boxes c.in_ok-boxes.ensures)

pub returns-then-edges-gt-EDGES_LIMIT-clause-fault : goal.returns-then-edges-gt-EDGES_LIMIT-clause-fault
returns-then-edges-gt-EDGES_LIMIT-clause-fault g c =
    let counted = rw (c.grid.ensures, c.as_slice.ensures) at c.in_ok-fans.ensures.edges in
    (are_edges c.args.sampled.now.plant.now c.args.sampled.now.within c.in_ok-boxes.boxes c.in_ok-boxes.ensures c.edges-edges.result (c.edges-edges.ensures ∙ counted), c.if-edges-gt-EDGES_LIMIT.true)

pub invariant_of-result : goal.invariant_of-result
invariant_of-result g c =
    let counted = rw (c.grid.ensures, c.as_slice.ensures) at c.in_ok-fans.ensures.edges in
    let few : edges_of (axes_of c.args.sampled.now.plant.now) c.in_ok-boxes.boxes ≤ 2 ^ 25 = omega (arith, counted, c.edges-edges.ensures, c.if-edges-gt-EDGES_LIMIT.false) in
    let counted_fans = rw (c.grid.ensures, c.as_slice.ensures) at c.in_ok-fans.ensures.fans in
    let some_input : 1 ≤ vectors_of c.args.sampled.now.plant.now.inputs = omega (arith, c.vectors.ensures.some, c.vectors.ensures.count) in
    let boxes_of = c.in_ok-boxes.ensures in
    rw (c.grid.ensures, c.vectors.ensures.count)
    (record {
      in_memory = is_graph_of c.args.sampled.now.plant.now c.args.sampled.now.within c.in_ok-boxes.boxes boxes_of c.in_ok-marks.marks.items c.in_ok-marks.ensures some_input few;
      counted = counted_fans;
    })

pub returns-clause-game : goal.returns-clause-game
returns-clause-game g c =
    rw (c.grid.ensures, c.vectors.ensures.count)
    (is_game_of c.args.sampled.now.plant.now c.args.sampled.now.within c.in_ok-boxes.boxes c.in_ok-boxes.ensures c.in_ok-marks.marks.items c.in_ok-marks.ensures)
