use Rattle.std.proofs.Common.{rules}
use Rattle.std.specs.Prelude.{FitsSigned}
use Rattle.std.specs.Int.{w128}
use Rattle.std.proofs.lemmas.Int.{to_z-of_z}
use Rattle.successor_box.proofs.Middles.{state_room}
use Rattle.successor_box.proofs.area.cell_offset.Goals as goal

pub overflow_sub-result-2 : goal.overflow_sub-result-2
overflow_sub-result-2 c =
    let wide : FitsSigned w128 c.width.result = search rules in
    rw (to_z-of_z w128 _ wide, c.width.ensures, c.grid-grid.ensures) (state_room c.args.p.now c.args.state c.requires.plant.plant c.requires.state).last

pub overflow_sub-result-3 : goal.overflow_sub-result-3
overflow_sub-result-3 c =
    let r = state_room c.args.p.now c.args.state c.requires.plant.plant c.requires.state in
    let width : FitsSigned w128 c.width.result = search rules in
    let radius : FitsSigned w128 c.radius-radius.result = search rules in
    rw (to_z-of_z w128 _ width, to_z-of_z w128 _ radius, c.width.ensures, c.radius-radius.ensures, c.grid-grid.ensures, to_z-of_z w128 _ r.last) r.rest

pub returns-clause-high : goal.returns-clause-high
returns-clause-high c =
    let r = state_room c.args.p.now c.args.state c.requires.plant.plant c.requires.state in
    let width : FitsSigned w128 c.width.result = search rules in
    let radius : FitsSigned w128 c.radius-radius.result = search rules in
    rw (to_z-of_z w128 _ width, to_z-of_z w128 _ radius, c.width.ensures, c.radius-radius.ensures, c.grid-grid.ensures, to_z-of_z w128 _ r.last) (to_z-of_z w128 _ r.rest)
