use Rattle.std.proofs.Common.{◌≡◌, ◌+◌, ◌-◌, ◌%◌, ◌^◌, ◌++◌, ◌∷◌, [], List, Some, reverse, refl, sym, ◌∙◌, ap, subst, arith}
use Rattle.std.proofs.lemmas.List.{append-nil, nil_from_length}
use Rattle.std.proofs.lemmas.List.Elements.{All-pop}
use Rattle.cell_counters.specs.BoardModels.{HandModel, RootModel}
use Rattle.cell_counters.specs.declared.account.Account.{Account}
use Rattle.game_core.specs.declared.tally.Tally.{Tally}
use Rattle.board_rounds.specs.Crew.{IsTalliedBy, accounts_of}
use Rattle.board_rounds.proofs.Crews.{IsOfBoard, taken_step, tally_step}
use Rattle.board_rounds.proofs.workers.take_in.Goals as goal

pub loop-member-init : goal.loop-member-init
loop-member-init c = record {
  at = c.requires.root.0;
  out = c.requires.root.1;
  accounts = refl;
  members = c.requires.members;
  lawful = λ e. absurd (let some' = c.requires.some in omega arith);
  capacity = refl;
  rounds = refl;
  tally = λ tallied. tallied;
}

pub take_in-requires-clause-hand : goal.take_in-requires-clause-hand
take_in-requires-clause-hand c =
    let rest = All-pop (IsOfBoard c.args.board.now) c.loop-member.members.items c.pop.new.self.items (Some c.in-Some.member) c.in-Some.ensures.items c.loop-member.invariant.members in
    ap (λ (h : HandModel). h.board) (c.hand.view_is ∙ c.into_hand.ensures) ∙ rest.1

pub loop-member-preserved : goal.loop-member-preserved
loop-member-preserved c =
    let before = c.loop-member.invariant in
    let m = c.in-Some.member in
    let worker = c.hand.inside in
    let a = worker.hand.account in
    let left = c.pop.new.self.items in
    let root = c.take_in.new.root in
    let all : root.accounts ≡ c.loop-member.root.accounts ++ a ∷ [] = ap (λ (r : RootModel). r.accounts) c.take_in.ensures.root in
    let same : a ≡ m.hand.account = ap (λ (h : HandModel). h.account) (c.hand.view_is ∙ c.into_hand.ensures) in
    let out : root.out ≡ c.loop-member.root.out - 1 = ap (λ (r : RootModel). r.out) c.take_in.ensures.root in
    let many = c.in-Some.ensures.cases in
    let was = before.out in
    record {
      at = ap (λ (r : RootModel). r.board) c.take_in.ensures.root ∙ before.at;
      out = omega arith;
      accounts =
          ap (λ (l : List Account). l ++ reverse (accounts_of left)) (all ∙ ap (λ (b : Account). c.loop-member.root.accounts ++ b ∷ []) same)
          ∙ (taken_step c.loop-member.root.accounts c.loop-member.members.items left m c.in-Some.ensures.items ∙ before.accounts);
      members = (All-pop (IsOfBoard c.args.board.now) c.loop-member.members.items left (Some m) c.in-Some.ensures.items before.members).0;
      lawful = λ e. c.take_in.ensures.lawful (omega arith);
      capacity = c.in-Some.ensures.capacity ∙ before.capacity;
      rounds = before.rounds;
      tally = λ tallied.
          let was = c.loop-member.tally in
          let now : Tally = record was { cuts = (was.cuts + worker.cuts) % 2 ^ 64; offers = (was.offers + worker.offers) % 2 ^ 64 } in
          subst (λ l. IsTalliedBy l now) (sym all) (tally_step c.loop-member.root.accounts a worker.cuts worker.offers was now c.hand.invariant (before.tally tallied) refl refl);
    }

pub returns-clause-root : goal.returns-clause-root
returns-clause-root c = (c.loop-member.invariant.at, let out = c.loop-member.invariant.out in let none' = c.in_default.ensures.cases.0 in omega arith)

pub returns-clause-accounts : goal.returns-clause-accounts
returns-clause-accounts c =
    let none' : c.loop-member.members.items ≡ [] = nil_from_length c.loop-member.members.items (let n = c.in_default.ensures.cases.0 in omega (arith, c.loop-member.members.ok.0)) in
    sym (ap (λ l. c.loop-member.root.accounts ++ reverse (accounts_of l)) none' ∙ append-nil c.loop-member.root.accounts) ∙ c.loop-member.invariant.accounts

pub returns-clause-lawful : goal.returns-clause-lawful
returns-clause-lawful c = c.loop-member.invariant.lawful c.in_default.ensures.cases.0

pub returns-clause-members : goal.returns-clause-members
returns-clause-members c = nil_from_length c.pop.new.self.items (let n = c.in_default.ensures.cases.1 in omega (arith, c.pop.new.self.ok.0))

pub returns-clause-capacity : goal.returns-clause-capacity
returns-clause-capacity c = c.in_default.ensures.capacity ∙ c.loop-member.invariant.capacity

pub returns-clause-tally : goal.returns-clause-tally
returns-clause-tally c = c.loop-member.invariant.tally
