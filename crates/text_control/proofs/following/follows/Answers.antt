use Rattle.std.proofs.Common.{◌≡◌, List, refl, subst, rules}
use Rattle.grid_quantiser.specs.declared.axis.Axis.{Axis}
use Rattle.grid_quantiser.specs.Cells.{IsInDomain, cell_of}
use Rattle.text_control.specs.Followed.{FollowedSample, IsSized}
use Rattle.text_control.proofs.NextBoxes.{outside}
use Rattle.text_control.proofs.following.follows.Goals as goal

pub returns-else-lies_in_box : goal.returns-else-lies_in_box
returns-else-lies_in_box c =
    let q = c.plant-plant.result.now in
    let s : FollowedSample = record { state = c.args.state.now; values = c.args.input.now; next = c.args.next.now } in
    let sized : IsSized q s = search rules in
    let inside = subst (λ (axes : List Axis). IsInDomain axes s.state) c.grid.ensures (c.in-Some.ensures.inside.0 refl) in
    let cell = subst (λ (axes : List Axis). c.in-Some.cell ≡ cell_of axes s.state) c.grid.ensures c.in-Some.ensures.cell in
    outside q c.args.text.now.plant s c.in-Some.cell c.in-Some-vector_at.vector c.plant-plant.ensures.plant sized inside cell c.in-Some-vector_at.ensures c.in-Some-slopes.ensures.1
    (λ lies. let yes = c.lies_in_box.ensures.1 lies in let no = c.if-lies_in_box.false in cc)
