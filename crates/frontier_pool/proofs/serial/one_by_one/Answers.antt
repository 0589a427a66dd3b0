use Rattle.std.proofs.Common.{ap, sym, ◌∙◌, [], ◌∷◌, ◌++◌, append_assoc}
use Rattle.std.proofs.lemmas.List.{append-nil}
use Rattle.std.specs.List.{range_with_len}
use Rattle.frontier_pool.proofs.serial.one_by_one.Goals as goal
use Rattle.base.proofs.Ranges.{range_more}

pub loop-item-init : goal.loop-item-init
loop-item-init g c = record { done = sym (append-nil _); sound = c.requires.sound }

pub one-requires-clause-sound : goal.one-requires-clause-sound
one-requires-clause-sound g c = c.loop-item.invariant.sound

pub loop-item-preserved : goal.loop-item-preserved
loop-item-preserved g c = record { done = c.one.ensures.done ∙ ap (λ l. l ++ c.loop-item.item ∷ []) c.loop-item.invariant.done ∙ append_assoc (g.T.Toil.done c.args.hand.now) (range_with_len 0 c.loop-item.item) (c.loop-item.item ∷ []) ∙ ap (λ l. g.T.Toil.done c.args.hand.now ++ l) (sym (range_more c.loop-item.item)); sound = c.one.ensures.sound }
