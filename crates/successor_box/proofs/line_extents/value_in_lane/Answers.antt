use Rattle.std.proofs.Common.{◌≡◌, ℕ, ◌<◌, ◌∙◌, List, length, get_or, set, take, refl, ap, ap₂, w64, rules, arith}
use Rattle.std.specs.Prelude.{ℤ, pos, FitsSigned}
use Rattle.std.specs.Int.{w128}
use Rattle.std.proofs.Math.Seq.{take-set-lt}
use Rattle.std.proofs.lemmas.Int.{to_z-of_z}
use Rattle.expr_lanes.specs.declared.lane_eval.ValuesAlong.{ValuesAlong}
use Rattle.fixed_expr.specs.Expression.{expression_of}
use Rattle.expr_lanes.specs.LaneEval.{lane_of}
use Rattle.fixed_expr.specs.Value.{value_of}
use Rattle.plant_record.proofs.lemmas.ListElements.{fill_all}
use Rattle.successor_box.proofs.line_extents.value_in_lane.Goals as goal

-- the values in the lane, once that from the column stands there
lane_is : (at : ValuesAlong) (filled : List ℤ) (k lane : ℕ) (x : ℤ) → at.along < length at.values.now → k ≡ length at.values.now → take k filled ≡ take k at.values.now → x ≡ get_or at.column.now lane (pos 0)
    → take (length at.values.now) (set filled at.along x) ≡ lane_of at lane
lane_is at filled k lane x lt all so_far is =
    take-set-lt (length at.values.now) filled at.along x lt ∙ ap₂ (λ (values : List ℤ) (y : ℤ). set values at.along y) (fill_all filled at.values.now k (length at.values.now) all refl so_far) is

pub unreachable-requires : goal.unreachable-requires
unreachable-requires c =
    let x : ℤ = c.from-2.result in
    let wide : FitsSigned w128 x = search rules in
    let narrow : FitsSigned w64 (get_or c.args.at.now.column.now c.args.j (pos 0)) = search rules in
    let lane = lane_is c.args.at.now c.loop-k.values c.loop-k.k c.args.j x c.requires.along (omega arith) c.loop-k.invariant.filled (c.from-2.ensures ∙ to_z-of_z w64 _ narrow) in
    c.in-None.ensures (rw (to_z-of_z w128 x wide, lane) c.requires.fits)

pub returns : goal.returns
returns c =
    let x : ℤ = c.from-2.result in
    let wide : FitsSigned w128 x = search rules in
    let narrow : FitsSigned w64 (get_or c.args.at.now.column.now c.args.j (pos 0)) = search rules in
    let lane = lane_is c.args.at.now c.loop-k.values c.loop-k.k c.args.j x c.requires.along (omega arith) c.loop-k.invariant.filled (c.from-2.ensures ∙ to_z-of_z w64 _ narrow) in
    let fits : FitsSigned w128 c.in-Some.value = search rules in
    to_z-of_z w128 c.in-Some.value fits ∙ (rw (to_z-of_z w128 x wide) at c.in-Some.ensures.1) ∙ ap (value_of (expression_of c.args.e.now)) lane
