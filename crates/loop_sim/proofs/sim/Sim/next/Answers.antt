use Rattle.std.proofs.Common.{◌≡◌, sym, ap, ◌∙◌}
use Rattle.loop_sim.specs.declared.closed_loop.Sample.{Sample}
use Rattle.loop_sim.specs.declared.closed_loop.Stage.{Stage}
use Rattle.loop_sim.specs.declared.closed_loop.Stage.TheVariants.{Due, Over}
use Rattle.loop_sim.specs.declared.sim_line.SimLine.{SimLine}
use Rattle.loop_sim.proofs.sim.Sim.next.Goals as goal
use Rattle.loop_sim.proofs.sim.Sim.next.Goals.{in-Due, in-Ending}

pub first_line-requires-clause-sample : goal.first_line-requires-clause-sample
first_line-requires-clause-sample c = c.self.invariant.1 c.in-Due.sample c.in-Due.is

is_over : (s : Sample) → Over ≡ Due s → ⊥
is_over s e = cc

pub invariant_of-self : goal.invariant_of-self
invariant_of-self c =
    (c.self.invariant.0, elim c.match-self.branch [ in-Due w ↦ λ s e. w.first_line.ensures.stage s (ap (λ (q : SimLine × Stage). q.1) (sym w.line-is) ∙ e) | in-Ending w ↦ λ s e. absurd (is_over s (ap (λ (q : SimLine × Stage). q.1) (sym w.line-is) ∙ e)) ], c.self.invariant.2, c.self.invariant.3)
