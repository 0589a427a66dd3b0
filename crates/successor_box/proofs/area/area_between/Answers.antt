use Rattle.std.proofs.Common.{arith, rules}
use Rattle.plant_record.proofs.lemmas.ListElements.{fill_more, fill_all}
use Rattle.successor_box.specs.inside.Area.{area_from, no_range}
use Rattle.successor_box.proofs.Ranges.{between_count}
use Rattle.successor_box.proofs.area.area_between.Goals as goal

pub loop-k-preserved : goal.loop-k-preserved
loop-k-preserved c =
    let p = c.args.p.now in
    let few = c.variables-k-end.ensures.limits.plant.states_bound in
    let count = between_count p c.args.input c.args.low.now c.args.high.now (omega arith) (omega arith) in
    record {
      count = search rules;
      filled = fill_more c.loop-k.area (area_from p c.args.low.now c.args.high.now c.args.input) c.loop-k.k c.range.result no_range (omega arith) (omega arith) c.loop-k.invariant.filled c.range.ensures;
    }

pub returns : goal.returns
returns c =
    let p = c.args.p.now in
    let few = c.variables-k-end.ensures.limits.plant.states_bound in
    let count = between_count p c.args.input c.args.low.now c.args.high.now (omega arith) (omega arith) in
    fill_all c.loop-k.area (area_from p c.args.low.now c.args.high.now c.args.input) c.loop-k.k _ (omega arith) count c.loop-k.invariant.filled
