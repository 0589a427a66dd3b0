use Rattle.std.proofs.Common.{◌≡◌, [], refl, sym, ◌∙◌, ap, subst, arith}
use Rattle.cell_counters.specs.Accounts.{IsLawfulLog, log_count}
use Rattle.cell_counters.specs.BoardModels.{RootModel}
use Rattle.cell_counters.proofs.Consequences.{nothing_done}
use Rattle.game_core.specs.declared.tally.Tally.{Tally}
use Rattle.board_rounds.specs.Crew.{IsTalliedBy}
use Rattle.board_rounds.specs.Rounds.{no_tally}
use Rattle.board_rounds.proofs.Here.{here}
use Rattle.board_rounds.proofs.rounds.Rounds.run_all.Goals as goal

pub rounds-init : goal.rounds-init
rounds-init g c =
    let holds_before = g.L.Rule.holds_before c.args.rule.now in
    let old = c.args.self.now in
    let root = c.first_list.new.root in
    let list = c.first_list.new.list in
    let unused = c.requires.unused in
    let is_new = c.first_list.ensures.root ∙ unused.root_is in
    let accounts : [] ≡ root.accounts = sym (ap (λ (r : RootModel). r.accounts) is_new) in
    let rounds : 0 ≡ old.tally.rounds = sym (ap (λ (t : Tally). t.rounds) unused.untallied) in
    let none_tallied : IsTalliedBy [] no_tally = record { cuts = refl; offers = refl } in
    record {
      by_rule = subst (holds_before old.tally.rounds list.items) accounts (subst (λ d. holds_before d list.items []) rounds (subst (λ l. holds_before 0 l []) (sym c.first_list.ensures.list) ((g.met.L.Rule g.world.𝓛 g.world.𝓜 g.world.𝓡 (here g.world)).leads_on c.args.rule.now c.args.board.now c.requires.board).begins));
      log = subst IsLawfulLog accounts nothing_done.2;
      all_listed = unused.unlisted ∙ ap log_count accounts;
      at = ap (λ (r : RootModel). r.board) is_new;
      settled = ap (λ (r : RootModel). r.out) is_new;
      tallied = subst (IsTalliedBy root.accounts) (sym unused.untallied) (subst (λ l. IsTalliedBy l no_tally) accounts none_tallied);
      nobody = unused.nobody;
      seats = unused.seats;
      capacity = (let e = c.first_list.ensures.capacity in let r = unused.capacity in omega arith);
      few = (let e = c.first_list.ensures.few in omega (arith, list.ok.0));
      early = λ found. omega arith;
      in_time = omega arith;
    }
