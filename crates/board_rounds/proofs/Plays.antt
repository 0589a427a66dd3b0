-- What a round of workers leaves.
use Rattle.std.proofs.Common.{◌≡◌, ℕ, suc, ◌+◌, ◌-◌, ◌<◌, ◌≤◌, ◌==◌, Bool, List, [], ◌++◌, map, length, reverse, sum_by, All, IsPermutation, arith, refl, sym, ◌∙◌, ap, ap₂, subst, length-append}
use Rattle.std.specs.List.{range_with_len}
use Rattle.std.specs.Vec.{vec_capacity}
use Rattle.std.proofs.lemmas.List.{length-map}
use Rattle.std.proofs.lemmas.List.Elements.{All-map, All-weaker}
use Rattle.std.proofs.lemmas.List.FromFn.{length-range_with_len}
use Rattle.std.proofs.lemmas.List.Sorted.{IsPermutation-reverse, IsPermutation-trans, All-permutation, sum_by-IsPermutation}
use Rattle.cell_counters.specs.declared.account.Account.{Account}
use Rattle.cell_counters.specs.Accounts.{IsLawfulLog, all_logs, log_count, cell_at}
use Rattle.cell_counters.specs.BoardModels.{BoardModel, HandModel, IsLawful}
use Rattle.cell_counters.proofs.Consequences.{new_slots}
use Rattle.frontier_pool.specs.declared.member.Member.{Member}
use Rattle.game_core.specs.Counts.{one_if, times}
use Rattle.game_core.specs.Game.{Game, successors_at}
use Rattle.base.proofs.Counts.{sum_positions}
use Rattle.board_rounds.specs.Crew.{accounts_of, notes_of, logged_cells, IsTalliedBy, counters_of}
use Rattle.board_rounds.specs.declared.rounds.Rounds.{Rounds}
use Rattle.board_rounds.specs.Rules.{IsRound, LeadsOn}
use Rattle.board_rounds.specs.inside.WorkerSteps.{cuts_for, IsAtWork, AllAtWork}
use Rattle.board_rounds.specs.inside.RoundInvariant.{IsRoundInvariant, to_go}
use Rattle.board_rounds.proofs.Accounts.{notes_in, cuts_by_notes, notes_reversed, all_logs-append}
use Rattle.base.proofs.Times.{from_both_sides}

-- the slots that were filled since
abbrev pub cells_since : ℕ → List Account → List ℕ
cells_since listed accounts = map (λ slot. cell_at slot (all_logs accounts)) (range_with_len listed (log_count accounts - listed))

-- what a round did between two stands
pub record Played (g : Game) (fits : BoardModel → Type 0) (keeps : Account → Type 0) (board : BoardModel) (workers : ℕ) (old new : Rounds) : Type 0 where
  -- the list in the order in which it was done
  pub order : List ℕ
  pub alike : IsPermutation old.list.items order
  pub members : List (Member HandModel)
  pub worked : AllAtWork g fits keeps board order members
  pub swept : IsPermutation (range_with_len 0 (length order)) (notes_of members)
  pub accounts : new.root.accounts ≡ old.root.accounts ++ reverse (accounts_of members)
  pub lawful : IsLawful new.root.accounts board.starts board.least
  pub at : new.root.board ≡ board
  pub settled : new.root.out ≡ 0
  pub rounds : new.tally.rounds ≡ suc old.tally.rounds
  pub tallied : IsTalliedBy new.root.accounts new.tally
  pub listed : new.listed ≡ log_count new.root.accounts
  pub list : new.list.items ≡ cells_since old.listed new.root.accounts
  pub nobody : new.members.items ≡ []
  pub seats : workers ≤ vec_capacity new.members
  pub capacity : g.cells ≤ vec_capacity new.list

module _ (g : Game) (fits : BoardModel → Type 0) (first : ℕ → Bool) (keeps : ℕ → Account → Type 0) (holds_before : ℕ → List ℕ → List Account → Type 0) (board : BoardModel) (leads : LeadsOn g board first keeps holds_before) where
  module _ (d : ℕ) (list order : List ℕ) (alike : IsPermutation list order) (accounts : List Account) (members : List (Member HandModel)) (early : d ≤ g.cells) (some' : 0 < length list) (was : holds_before d list accounts) (worked : AllAtWork g fits (keeps d) board order members) (swept : IsPermutation (range_with_len 0 (length order)) (notes_of members)) (lawful : IsLawful (accounts ++ reverse (accounts_of members)) board.starts board.least) where
    abbrev more : List Account
    more = reverse (accounts_of members)

    -- what holds of each member's account holds of each account that is added
    of_each : (P : Account → Type 0) → ((h : HandModel) → IsAtWork g fits (keeps d) board order h → P h.account) → All P more
    of_each P is =
        All-permutation P (accounts_of members) more (IsPermutation-reverse (accounts_of members))
        (All-map P (λ (m : Member HandModel). m.hand.account) members
        (All-weaker (λ (m : Member HandModel). IsAtWork g fits (keeps d) board order m.hand) (λ (m : Member HandModel). P m.hand.account) (λ m w. is m.hand w) members worked))

    round : IsRound g (keeps d) list more
    round = record {
      each = of_each (keeps d) (λ h w. w.kept);
      cuts = λ pair lt.
          let done_to = λ (c : ℕ). times c (successors_at g pair) in
          cuts_by_notes pair (cuts_for g order pair) more (of_each (λ (a : Account). times pair (counters_of a.cuts) ≡ sum_by (cuts_for g order pair) a.notes) (λ h w. w.cuts pair lt))
          ∙ (sum_by-IsPermutation (cuts_for g order pair) (range_with_len 0 (length order)) (notes_in more) (IsPermutation-trans (range_with_len 0 (length order)) (notes_of members) (notes_in more) swept (notes_reversed members))
          ∙ (sum_positions done_to 0 order
          ∙ (sum_by-IsPermutation done_to list order alike ∙ from_both_sides list (successors_at g pair))));
    }

    leads_to : (next : List ℕ) → ((c : ℕ) → times c next ≡ times c (logged_cells (all_logs more))) → holds_before (suc d) next (accounts ++ more)
    leads_to next same = leads.next d list next accounts more early some' was round lawful same

    -- each cell is logged once at most
    pub few : log_count (accounts ++ more) ≤ g.cells
    few = let next = logged_cells (all_logs more) in leads.few (suc d) next (accounts ++ more) (leads_to next (λ c. refl))

    pub new_log : IsLawfulLog (accounts ++ more)
    new_log = lawful.log (let n = few in let m = leads.graph.cells_bound in omega arith)

    pub logs_more : log_count (accounts ++ more) ≡ log_count accounts + log_count more
    logs_more = ap length (all_logs-append accounts more) ∙ length-append (all_logs accounts) (all_logs more)

    pub next_stand : IsLawfulLog accounts → holds_before (suc d) (cells_since (log_count accounts) (accounts ++ more)) (accounts ++ more)
    next_stand before =
        let cells = λ (n : ℕ). map (λ slot. cell_at slot (all_logs (accounts ++ more))) (range_with_len (log_count accounts) n) in
        let many : log_count (accounts ++ more) - log_count accounts ≡ log_count more = (let e = logs_more in omega arith) in
        leads_to (cells_since (log_count accounts) (accounts ++ more)) (λ c.
        ap (λ n. times c (cells n)) many
        ∙ sym (sum_by-IsPermutation (λ x. one_if (x == c)) (cells (log_count more)) (logged_cells (all_logs more)) (new_slots accounts more before new_log)))

  module _ (workers : ℕ) (old : Rounds) (was : IsRoundInvariant holds_before board g.cells workers old) (some' : 0 < length old.list.items) where
    pub early : old.tally.rounds ≤ g.cells
    early = let a = was.early some' in let b = was.all_listed in let c = leads.few old.tally.rounds old.list.items old.root.accounts was.by_rule in omega arith

    pub few_after : (order : List ℕ) (members : List (Member HandModel)) (now : List Account) → IsPermutation old.list.items order → AllAtWork g fits (keeps old.tally.rounds) board order members
        → IsPermutation (range_with_len 0 (length order)) (notes_of members) → now ≡ old.root.accounts ++ reverse (accounts_of members) → IsLawful now board.starts board.least → log_count now ≤ g.cells
    few_after order members now alike worked swept e lawful =
        subst (λ l. log_count l ≤ g.cells) (sym e)
        (few old.tally.rounds old.list.items order alike old.root.accounts members early some' was.by_rule worked swept (subst (λ l. IsLawful l board.starts board.least) e lawful))

    -- a round leads from one stand to the next, and on
    pub stands_after : (new : Rounds) → Played g fits (keeps old.tally.rounds) board workers old new → IsRoundInvariant holds_before board g.cells workers new × (to_go g.cells new < to_go g.cells old)
    stands_after new p =
        let d = old.tally.rounds in
        let accounts = old.root.accounts in
        let all = accounts ++ reverse (accounts_of p.members) in
        let lawful : IsLawful all board.starts board.least = subst (λ l. IsLawful l board.starts board.least) p.accounts p.lawful in
        let listed : new.list.items ≡ cells_since (log_count accounts) all = p.list ∙ ap₂ cells_since was.all_listed p.accounts in
        let next : holds_before (suc d) new.list.items all = subst (λ l. holds_before (suc d) l all) (sym listed) (next_stand d old.list.items p.order p.alike accounts p.members early some' was.by_rule p.worked p.swept lawful was.log) in
        let back : all ≡ new.root.accounts = sym p.accounts in
        let rule : holds_before new.tally.rounds new.list.items new.root.accounts = subst (λ k. holds_before k new.list.items new.root.accounts) (sym p.rounds) (subst (holds_before (suc d) new.list.items) back next) in
        let added = logs_more d old.list.items p.order p.alike accounts p.members early some' was.by_rule p.worked p.swept lawful in
        let most = leads.few new.tally.rounds new.list.items new.root.accounts rule in
        let now = ap log_count p.accounts in
        let long : length new.list.items ≡ log_count all - log_count accounts =
        ap length listed
        ∙ (length-map (range_with_len (log_count accounts) (log_count all - log_count accounts)) (λ slot. cell_at slot (all_logs all))
        ∙ length-range_with_len (log_count accounts) (log_count all - log_count accounts)) in
        let sooner = was.early some' in (
          record {
            by_rule = rule;
            log = subst IsLawfulLog back (new_log d old.list.items p.order p.alike accounts p.members early some' was.by_rule p.worked p.swept lawful);
            all_listed = p.listed;
            at = p.at;
            settled = p.settled;
            tallied = p.tallied;
            nobody = p.nobody;
            seats = p.seats;
            capacity = p.capacity;
            few = omega arith;
            early = λ found. omega arith;
            in_time = omega arith;
          },
          omega arith,
        )
