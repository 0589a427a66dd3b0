use Rattle.std.proofs.Common.{◌≡◌, ◌+◌, ◌-◌, ◌*◌, ◌≤◌, arith}
use Rattle.game_core.specs.Game.{Game}
use Rattle.plant_record.specs.Description.{axes_of, vectors_of}
use Rattle.pair_boxes.specs.Finders.{plant_of}
use Rattle.pair_box.specs.PlantBoxes.{pairs_of_plant}
use Rattle.plant_game.specs.BoxGame.{box_game}
use Rattle.base.specs.declared.limits.TheConstants.{EDGES_LIMIT}
use Rattle.source_lists.specs.KnownShapes.{edges_known, shapes_known}
use Rattle.game_parts.specs.inside.Padded.{padded}
use Rattle.game_parts.proofs.PartFindings.{first_same}
use Rattle.game_parts.proofs.PartGames.{both_same, padded_has, part_graph, part_listed}
use Rattle.game_parts.proofs.part_search.first_by_boxes.Goals as goal

pub invariant_of-part : goal.invariant_of-part
invariant_of-part g c =
    let finder = c.args.finder.now in
    let p = plant_of finder in
    let asked = c.requires in
    let boxes = c.args.boxes.now in
    let count : c.vectors-inputs.result ≡ vectors_of p.inputs = rw c.plant-plant.ensures at c.vectors-inputs.ensures.count in
    let some : 1 ≤ vectors_of p.inputs = omega (arith, c.vectors-inputs.ensures.some, count) in
    let few : edges_known c.args.known.now ≤ EDGES_LIMIT = omega (arith, c.edges.ensures, c.if-edges-gt-EDGES_LIMIT.false) in
    rw (c.grid.ensures, count, c.plant-plant.ensures, c.shapes.ensures)
    (record {
      in_memory = part_graph p c.args.from c.args.to boxes asked.ordered asked.cells asked.long finder.sampled.within c.args.marks.now asked.marks some asked.each (omega (arith, asked.edges, few));
      listed = part_listed (axes_of p) (c.args.from * vectors_of p.inputs) boxes (pairs_of_plant p) (shapes_known c.args.known.now) (asked.listed few);
    })

pub returns : goal.returns
returns g c = λ few game has.
    let p = plant_of c.args.finder.now in
    let marks = c.args.marks.now in
    let boxes = c.args.boxes.now in
    let from = c.args.from in
    let to = c.args.to in
    let judge = c.args.judge.now in
    let local = g.met.J.CellJudge.local in
    let Right = g.J.CellJudge.is_right judge in
    let count : c.vectors-inputs.result ≡ vectors_of p.inputs = rw c.plant-plant.ensures at c.vectors-inputs.ensures.count in
    let part : Game = box_game (axes_of p) (vectors_of p.inputs) marks (padded (from * vectors_of p.inputs) boxes (pairs_of_plant p)) in
    let in_part = padded_has p marks from boxes (pairs_of_plant p) in
    let cells : from + (to - from) ≡ to = omega (arith, c.requires.ordered) in
    let found = rw (c.grid.ensures, count, c.plant-plant.ensures) at c.first_wrong.ensures in
    first_same (Right part) (Right game) from to c.first_wrong.result
    (λ x low high. local judge part game x (both_same p marks from (to - from) x boxes part game c.requires.long in_part has low (omega (arith, high, cells))))
    (λ x low high. local judge game part x (both_same p marks from (to - from) x boxes game part c.requires.long has in_part low (omega (arith, high, cells))))
    found
