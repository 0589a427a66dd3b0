use Rattle.std.proofs.Common.{◌+◌, ◌≤◌, length}
use Rattle.run_tests.proofs.live.threads.publish_all.Given as goal

abbrev pub invariant-loop : goal.invariant-loop
invariant-loop g l = length l.publisher.list ≤ 99 + l.counter
