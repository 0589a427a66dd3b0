use Rattle.std.proofs.Common.{◌<◌, ◌≤◌, length, get_or, pos, ◌<ℤ◌, arith, rules}
use Rattle.std.proofs.lemmas.Int.{ints}
use Rattle.plant_refine.proofs.InBoxes.{at_most_each}
use Rattle.plant_refine.proofs.targets.lies_in.Goals as goal
use Rattle.plant_refine.proofs.targets.lies_in.Goals.{then-x-i-via-then-x-i, then-x-i-via-else-x-i+then-high-i}
use Rattle.grid_quantiser.proofs.AtMost.{at_most_from_each}

pub returns-then-x-i : goal.returns-then-x-i
returns-then-x-i c =
    let i = c.loop-i.i in
    let lt : i < length c.args.grid.now = omega arith in (
      λ h. cc,
      λ h.
          elim c.then-x-i.branch [
            | then-x-i-via-then-x-i w ↦
                let below : get_or c.args.x.now i (pos 0) <ℤ get_or c.args.low.now i (pos 0) = search rules in
                absurd (omega (arith, ints, below, at_most_each c.args.grid.now c.args.low.now c.args.x.now h.0 i lt))
            | then-x-i-via-else-x-i+then-high-i w ↦
                let above : get_or c.args.high.now i (pos 0) <ℤ get_or c.args.x.now i (pos 0) = search rules in
                absurd (omega (arith, ints, above, at_most_each c.args.grid.now c.args.x.now c.args.high.now h.1 i lt))
          ],
    )

pub returns : goal.returns
returns c =
    let axes = c.args.grid.now in
    let all : length axes ≤ c.loop-i.i = omega arith in
    let long_low : length axes ≤ length c.args.low.now = omega arith in
    let long_x : length axes ≤ length c.args.x.now = omega arith in
    let long_high : length axes ≤ length c.args.high.now = omega arith in (
      λ h. (
        at_most_from_each axes c.args.low.now c.args.x.now long_low long_x (λ k lt. (c.loop-i.invariant k (omega (arith, lt, all))).0),
        at_most_from_each axes c.args.x.now c.args.high.now long_x long_high (λ k lt. (c.loop-i.invariant k (omega (arith, lt, all))).1),
      ),
      λ h. cc,
    )
