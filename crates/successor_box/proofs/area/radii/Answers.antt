use Rattle.std.proofs.Common.{rules, arith}
use Rattle.std.specs.Prelude.{pos, FitsSigned}
use Rattle.std.specs.Int.{w128}
use Rattle.std.proofs.lemmas.Int.{to_z-of_z}
use Rattle.plant_record.proofs.lemmas.ListElements.{fill_more, fill_all}
use Rattle.successor_box.specs.SuccessorBoxes.{radii_of}
use Rattle.successor_box.proofs.Ranges.{all_radii_count}
use Rattle.successor_box.proofs.area.radii.Goals as goal

pub loop-k-preserved : goal.loop-k-preserved
loop-k-preserved c =
    let p = c.args.p.now in
    let fits : FitsSigned w128 c.radius.result = search rules in
    rw (to_z-of_z w128 c.radius.result fits)
    (record {
      count = search rules;
      filled = λ u. let count = all_radii_count p u in fill_more c.loop-k.radii (radii_of p u) c.loop-k.k c.radius.result (pos 0) (omega arith) (omega arith) (c.loop-k.invariant.filled u) (c.radius.ensures u);
    })

pub returns : goal.returns
returns c = λ u. fill_all c.loop-k.radii (radii_of c.args.p.now u) c.loop-k.k _ (omega arith) (all_radii_count c.args.p.now u) (c.loop-k.invariant.filled u)
