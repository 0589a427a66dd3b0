use Rattle.std.proofs.Common.{◌≡◌, ◌≤◌, filter, vec_len}
use Rattle.std.specs.List.{range_with_len}
use Rattle.std.specs.Vec.{vec_capacity}
use Rattle.board_rounds.proofs.first.first_list.Given as goal

-- the cells so far
abbrev pub invariant-loop-c : goal.invariant-loop-c
invariant-loop-c g l =
    record {
      same : l.root ≡ l.initial.root;
      cells : l.list.items ≡ filter (g.L.Rule.first l.rule) (range_with_len 0 l.c);
      few : vec_len l.list ≤ l.c;
      capacity : vec_capacity l.list ≡ vec_capacity l.initial.list;
    }
