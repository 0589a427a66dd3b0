use Rattle.std.proofs.Common.{◌≡◌, ◌+◌, All, vec_len}
use Rattle.std.specs.Vec.{vec_capacity}
use Rattle.board_rounds.specs.Crew.{IsFresh}
use Rattle.board_rounds.proofs.workers.add_workers.Given as goal

abbrev pub invariant-loop-worker : goal.invariant-loop-worker
invariant-loop-worker l = record {
  same : l.root ≡ record l.initial.root { out = l.initial.root.out + l._worker };
  many : vec_len l.members ≡ l._worker;
  fresh : All (IsFresh l.board) l.members.items;
  capacity : vec_capacity l.members ≡ vec_capacity l.initial.members;
}
