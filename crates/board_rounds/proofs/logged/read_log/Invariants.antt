use Rattle.std.proofs.Common.{◌≡◌, ◌-◌, map, vec_len}
use Rattle.std.specs.List.{range_with_len}
use Rattle.std.specs.Vec.{vec_capacity}
use Rattle.cell_counters.specs.Accounts.{all_logs, cell_at}
use Rattle.board_rounds.proofs.logged.read_log.Given as goal

abbrev pub invariant-loop-at : goal.invariant-loop-at
invariant-loop-at l = record {
  same : l.root ≡ l.fn.root;
  cells : l.list.items ≡ map (λ slot. cell_at slot (all_logs l.fn.root.accounts)) (range_with_len l.listed (l.at - l.listed));
  many : vec_len l.list ≡ l.at - l.listed;
  capacity : vec_capacity l.list ≡ vec_capacity l.fn.list;
}
