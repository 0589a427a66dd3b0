use Rattle.std.proofs.Common.{Option, ap, sym, subst, ◌∙◌}
use Rattle.std.specs.Prelude.{List, SomeIff}
use Rattle.plant_record.specs.States.{state_point}
use Rattle.loop_sim.specs.declared.sim_line.SimLine.{SimLine}
use Rattle.loop_sim.specs.Trace.{HasSomeRowAt, trace_lines, trace_from}
use Rattle.loop_sim.proofs.sim.Sim.new.Goals as goal

pub returns-in_err-row_at : goal.returns-in_err-row_at
returns-in_err-row_at c =
    let t = c.args.t.now in
    let x = c.args.x.now in
    subst (λ (o : Option (List SimLine)). SomeIff o (HasSomeRowAt t x) (trace_from t c.args.seed c.args.steps x)) (sym c.from_residual.ensures) (λ has. let none = sym c.in_err-row_at.was ∙ c.row_at.ensures ∙ has.1 in cc)

pub returns : goal.returns
returns c =
    let t = c.args.t.now in (
      (c.in_ok-row_at.field-0, sym c.row_at.ensures ∙ c.in_ok-row_at.was),
      c.begin.ensures ∙ ap (trace_lines t.plant t.rows c.args.seed c.args.steps 0) (c.state_point.ensures ∙ ap (λ p. state_point p c.args.x.now) c.plant.ensures),
    )
