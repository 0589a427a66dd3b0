use Rattle.std.proofs.Common.{◌≡◌, ◌<◌, get_or, length, pos, arith, rules}
use Rattle.std.specs.Prelude.{FitsSigned}
use Rattle.std.specs.Int.{w128}
use Rattle.std.proofs.lemmas.Int.{to_z-of_z}
use Rattle.plant_writing.proofs.lemmas.WrittenLines.{appended, box_parts, box_more}
use Rattle.plant_writing.proofs.plant_writer.push_box.Goals as goal

pub loop-i-preserved : goal.loop-i-preserved
loop-i-preserved c =
    let b = c.args.b.now in
    let low : FitsSigned w128 (get_or b.low c.loop-i.i (pos 0)) = search rules in
    let high : FitsSigned w128 (get_or b.high c.loop-i.i (pos 0)) = search rules in
    let before : c.loop-i.i < length b.low = omega arith in
    let after : c.loop-i.i < length b.high = omega arith in
    rw (c.in_ok-push_spaced-2.ensures, c.in_ok-push_spaced.ensures, c.loop-i.invariant, to_z-of_z w128 (get_or b.low c.loop-i.i (pos 0)) low, to_z-of_z w128 (get_or b.high c.loop-i.i (pos 0)) high)
    (box_more c.args.text.now.items c.args.keyword.now c.loop-i.i b.low b.high before after)

pub returns : goal.returns
returns c =
    let all : c.loop-i.i ≡ c.args.states = omega arith in
    appended c.extend_from_slice-2.result _ _ _ (rw (c.loop-i.invariant, all, box_parts c.args.text.now.items c.args.keyword.now c.args.states c.args.b.now) at c.extend_from_slice-2.ensures.items)
