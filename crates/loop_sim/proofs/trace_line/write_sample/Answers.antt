use Rattle.std.proofs.Common.{◌≡◌, ℕ, take, ap, ◌∙◌}
use Rattle.std.specs.Prelude.{length}
use Rattle.std.proofs.lemmas.List.{length-map}
use Rattle.plant_record.specs.Description.{axis_of}
use Rattle.loop_sim.proofs.Lines.{sample_parts}
use Rattle.loop_sim.proofs.trace_line.write_sample.Goals as goal

pub returns-clause-text : goal.returns-clause-text
returns-clause-text c =
    let p = c.args.p.now in
    let x = c.args.x.now in
    let front : take c.states.result x ≡ take (length p.states) x = ap (λ (n : ℕ). take n x) (c.states.ensures.count ∙ ap length c.grid.ensures ∙ length-map p.states axis_of) in
    rw (c.prepend_number.ensures.text, c.prepend_state.ensures.text, c.prepend_row.ensures.text, c.begin.ensures.text, front, c.format_of.ensures, c.goal.ensures) (sample_parts p c.args.time x c.args.row)
