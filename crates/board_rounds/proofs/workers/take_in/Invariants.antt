use Rattle.std.proofs.Common.{◌≡◌, ◌++◌, reverse, All, vec_len}
use Rattle.std.specs.Vec.{vec_capacity}
use Rattle.cell_counters.specs.BoardModels.{IsLawful}
use Rattle.board_rounds.specs.Crew.{IsTalliedBy, accounts_of}
use Rattle.board_rounds.proofs.Crews.{IsOfBoard}
use Rattle.board_rounds.proofs.workers.take_in.Given as goal

abbrev pub invariant-loop-member : goal.invariant-loop-member
invariant-loop-member l = record {
  at : l.root.board ≡ l.board;
  out : l.root.out ≡ vec_len l.members;
  accounts : l.root.accounts ++ reverse (accounts_of l.members.items) ≡ l.initial.root.accounts ++ reverse (accounts_of l.initial.members.items);
  members : All (IsOfBoard l.board) l.members.items;
  lawful : vec_len l.members ≡ 0 → IsLawful l.root.accounts l.board.starts l.board.least;
  capacity : vec_capacity l.members ≡ vec_capacity l.initial.members;
  rounds : l.tally.rounds ≡ l.initial.tally.rounds;
  tally : IsTalliedBy l.initial.root.accounts l.initial.tally → IsTalliedBy l.root.accounts l.tally;
}

abbrev pub decreases-loop-member : goal.decreases-loop-member
decreases-loop-member l = vec_len l.members
