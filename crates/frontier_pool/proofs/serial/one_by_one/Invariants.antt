use Rattle.std.proofs.Common.{◌≡◌, ◌++◌}
use Rattle.std.specs.List.{range_with_len}
use Rattle.frontier_pool.proofs.serial.one_by_one.Given as goal

abbrev pub invariant-loop-item : goal.invariant-loop-item
invariant-loop-item g l = record {
  done : g.T.Toil.done l.hand ≡ g.T.Toil.done l.fn.hand ++ range_with_len 0 l.item;
  sound : g.T.Toil.sound l.job l.hand;
}
