use Rattle.std.proofs.Common.{◌++◌, ℕ, List, Option, map, ap₂, sym, subst, ◌∙◌}
use Rattle.std.specs.Prelude.{SomeIff}
use Rattle.std.specs.List.{concat}
use Rattle.loop_sim.specs.declared.sim_line.SimLine.{SimLine}
use Rattle.loop_sim.specs.Trace.{HasSomeRowAt}
use Rattle.loop_sim.specs.TraceText.{line_text, trace_text}
use Rattle.loop_sim.proofs.trace_writer.TraceWriter.new.Goals as goal

pub returns-in_err-row_at : goal.returns-in_err-row_at
returns-in_err-row_at c =
    let t = c.args.t.now in
    let x = c.args.x.now in
    subst (λ (o : Option (List ℕ)). SomeIff o (HasSomeRowAt t x) (trace_text t.plant t.rows x c.args.seed c.args.steps)) (sym c.from_residual.ensures) (λ has. let none = sym c.in_err-row_at.was ∙ c.row_at.ensures ∙ has.1 in cc)

pub returns : goal.returns
returns c =
    let t = c.args.t.now in (
      (c.in_ok-row_at.field-0, sym c.row_at.ensures ∙ c.in_ok-row_at.was),
      ap₂ (λ (text : List ℕ) (lines : List SimLine). text ++ concat (map (line_text t.plant) lines)) c.write_first.ensures c.begin.ensures,
    )
