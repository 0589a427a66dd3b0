use Rattle.plant_writing.proofs.lemmas.WrittenLines.{equations_more}
use Rattle.plant_writing.proofs.plant_writer.push_equations.Goals as goal

pub loop-i-preserved : goal.loop-i-preserved
loop-i-preserved c =
    rw (c.in_ok-push_equation.ensures, c.loop-i.invariant, c.as_bytes.ensures)
    (equations_more c.args.text.now.items c.args.names.now c.args.states.now c.args.equations.now c.loop-i.i c.index-states-i.result c.index-equations-i.result c.requires.one_each c.loop-i-test.true c.index-equations-i.is)
