use Rattle.std.proofs.Common.{◌≡◌, ℕ, ◌+◌, ◌-◌, ◌^◌, ◌<◌, ◌++◌, ◌∷◌, [], map, sym, ◌∙◌, ap, subst, arith}
use Rattle.std.specs.List.{range_with_len}
use Rattle.std.proofs.lemmas.List.FromFn.{map-range_with_len_more}
use Rattle.cell_counters.specs.Accounts.{all_logs, log_count, cell_at}
use Rattle.cell_counters.specs.BoardModels.{RootModel, filled_slots}
use Rattle.board_rounds.proofs.logged.read_log.Goals as goal

pub loop-at-init : goal.loop-at-init
loop-at-init c =
    let cells = λ (n : ℕ). map (λ slot. cell_at slot (all_logs c.args.root.now.accounts)) (range_with_len c.args.listed n) in
    record {
      same = c.log_len-filled.ensures.same;
      cells = c.clear.ensures.items ∙ ap cells {x = 0} {y = c.args.listed - c.args.listed} (omega arith);
      many = (let e = c.clear.ensures.len in omega arith);
      capacity = c.clear.ensures.capacity;
    }

pub logged-requires-clause-root : goal.logged-requires-clause-root
logged-requires-clause-root c = ap (λ (r : RootModel). r.board) c.loop-at.invariant.same ∙ c.requires.root.0

pub logged-requires-clause-settled : goal.logged-requires-clause-settled
logged-requires-clause-settled c = ap (λ (r : RootModel). r.out) c.loop-at.invariant.same ∙ c.requires.root.1

pub logged-requires-clause-at : goal.logged-requires-clause-at
logged-requires-clause-at c =
    let lt : c.loop-at.at < filled_slots c.args.root.now.accounts c.args.board.now.slots = (let t = c.loop-at-test.true in omega arith) in
    subst (λ (r : RootModel). c.loop-at.at < filled_slots r.accounts c.args.board.now.slots) (sym c.loop-at.invariant.same) lt

pub loop-at-preserved : goal.loop-at-preserved
loop-at-preserved c =
    let before = c.loop-at.invariant in
    let logs = all_logs c.args.root.now.accounts in
    let cells = λ (n : ℕ). map (λ slot. cell_at slot logs) (range_with_len c.args.listed n) in
    let at = c.loop-at.at in
    let read : c.logged.result ≡ cell_at at logs =
    subst (λ (r : RootModel). log_count r.accounts < 2 ^ 64 → c.logged.result ≡ cell_at at (all_logs r.accounts)) before.same c.logged.ensures.cell c.requires.few in
    record {
      same = c.logged.ensures.same ∙ before.same;
      cells =
          c.push_reserved.ensures.items
          ∙ (ap (λ l. l ++ c.logged.result ∷ []) before.cells
          ∙ (ap (λ (n : ℕ). cells (at - c.args.listed) ++ n ∷ []) read
          ∙ (sym (map-range_with_len_more (λ slot. cell_at slot logs) c.args.listed (at - c.args.listed) at (omega arith))
          ∙ ap cells {x = at - c.args.listed + 1} {y = at + 1 - c.args.listed} (omega arith))));
      many = (let e = c.push_reserved.ensures.len in let m = before.many in omega arith);
      capacity = c.push_reserved.ensures.capacity ∙ before.capacity;
    }

pub returns-clause-listed : goal.returns-clause-listed
returns-clause-listed c = let end = c.log_len-filled.ensures.filled c.requires.few in let p = c.requires.slots.0 in omega arith

pub returns-clause-list : goal.returns-clause-list
returns-clause-list c =
    let cells = λ (n : ℕ). map (λ slot. cell_at slot (all_logs c.args.root.now.accounts)) (range_with_len c.args.listed n) in
    c.loop-at.invariant.cells ∙ ap cells {x = c.loop-at.at - c.args.listed} {y = log_count c.args.root.now.accounts - c.args.listed} (omega arith)
