use Rattle.std.proofs.Common.{◌≡◌, arith, below_more, ◌∙◌}
use Rattle.frontier_pool.specs.inside.ClaimProtocol.{times_in}
use Rattle.frontier_pool.proofs.Gains.{gained_none, gained_then, gained_all}
use Rattle.frontier_pool.proofs.sweep_context.SweepContext.finish.Goals as goal

pub loop-item-init : goal.loop-item-init
loop-item-init g c = record { gained = gained_none _ _ _; once = λ n below. absurd (omega arith); sound = c.requires.sound }

pub finish_one-requires-clause-caller : goal.finish_one-requires-clause-caller
finish_one-requires-clause-caller g c κs within = gained_all _ _ _ _ _ _ c.requires.caller c.loop-item.invariant.gained

pub finish_one-requires-clause-sound : goal.finish_one-requires-clause-sound
finish_one-requires-clause-sound g c κs within = c.loop-item.invariant.sound

pub loop-item-preserved : goal.loop-item-preserved
loop-item-preserved g c = record {
  gained = gained_then _ _ _ _ _ _ _ c.loop-item.invariant.gained c.finish_one.ensures.gained;
  once = below_more (λ n. times_in n c.finish_one.new.caller.me.0.claim_lists ≡ 1) _ (λ n below. c.finish_one.ensures.others n below ∙ c.loop-item.invariant.once n below) c.finish_one.ensures.once;
  sound = c.finish_one.ensures.sound;
}

pub returns-clause-gained : goal.returns-clause-gained
returns-clause-gained g c = c.loop-item.invariant.gained

pub returns-clause-once : goal.returns-clause-once
returns-clause-once g c = λ n below. c.loop-item.invariant.once n (omega arith)

pub returns-clause-sound : goal.returns-clause-sound
returns-clause-sound g c = c.loop-item.invariant.sound
