use Rattle.std.proofs.Common.{◌≡◌, ◌+◌, ◌<◌, ◌++◌, All, IsPermutation, reverse, sym, ◌∙◌, ap, subst, arith}
use Rattle.std.specs.List.{range_with_len}
use Rattle.std.proofs.lemmas.List.Sorted.{All-permutation}
use Rattle.cell_counters.specs.Accounts.{log_count}
use Rattle.cell_counters.specs.BoardModels.{RootModel, IsLawful}
use Rattle.board_rounds.specs.Crew.{IsTalliedBy, accounts_of, notes_of}
use Rattle.board_rounds.specs.declared.rounds.Rounds.{Rounds}
use Rattle.board_rounds.specs.inside.WorkerSteps.{AllAtWork}
use Rattle.board_rounds.proofs.Here.{here}
use Rattle.board_rounds.proofs.Plays.{Played, cells_since, few_after, stands_after}
use Rattle.board_rounds.proofs.rounds.Rounds.run_round.Goals as goal

pub invariant_of-round_job : goal.invariant_of-round_job
invariant_of-round_job g c =
    let rule = c.args.rule.now in
    let cells = (g.L.Rule.game rule).cells in
    let old = c.args.self.now in
    let was = c.requires.holds_before in
    let list = old.list.items in
    let leads = (g.met.L.Rule g.world.𝓛 g.world.𝓜 g.world.𝓡 (here g.world)).leads_on rule c.args.board.now c.requires.board in
    let most = leads.few old.tally.rounds list old.root.accounts was.by_rule in
    let within : All (λ s. s < cells) list = leads.within old.tally.rounds list old.root.accounts was.by_rule in
    record {
      is_round_job = record {
        early = omega arith;
        items_are = omega (arith, c.len-items.ensures, c.arrange.ensures.long, c.as_slice.ensures.len);
        within = subst (All (λ s. s < cells)) (sym c.as_slice.ensures.value) (All-permutation (λ s. s < cells) list c.arrange.new.list.items c.arrange.ensures.same within);
      };
    }

pub read_log-self-requires-clause-slots : goal.read_log-self-requires-clause-slots
read_log-self-requires-clause-slots g c =
    let rule = c.args.rule.now in
    let game = g.L.Rule.game rule in
    let fits = g.L.Rule.fits rule in
    let old = c.args.self.now in
    let keeps = g.L.Rule.keeps rule old.tally.rounds in
    let members = c.do_items.new.members.items in
    let few = few_after game fits (g.L.Rule.first rule) (g.L.Rule.keeps rule) (g.L.Rule.holds_before rule) c.args.board.now ((g.met.L.Rule g.world.𝓛 g.world.𝓜 g.world.𝓡 (here g.world)).leads_on rule c.args.board.now c.requires.board)
    c.args.workers old c.requires.holds_before (omega (arith, c.requires.some, old.list.ok.0)) c.arrange.new.list.items members c.take_in.new.root.accounts
    c.arrange.ensures.same
    (subst (λ l. AllAtWork game fits keeps c.args.board.now l members) c.as_slice.ensures.value c.do_items.ensures.worked)
    (subst (λ n. IsPermutation (range_with_len 0 n) (notes_of members)) (omega (arith, c.len-items.ensures, c.arrange.ensures.long, old.list.ok.0, c.arrange.new.list.ok.0)) c.do_items.ensures.swept)
    (c.take_in.ensures.accounts ∙ ap (λ l. l ++ reverse (accounts_of members)) {y = old.root.accounts} (ap (λ (r : RootModel). r.accounts) c.add_workers.ensures.root))
    c.take_in.ensures.lawful in
    (omega arith, omega arith)

pub read_log-self-requires-clause-few : goal.read_log-self-requires-clause-few
read_log-self-requires-clause-few g c =
    omega (arith, (read_log-self-requires-clause-slots g c).0)

pub returns : goal.returns
returns g c =
    let rule = c.args.rule.now in
    let game = g.L.Rule.game rule in
    let fits = g.L.Rule.fits rule in
    let board = c.args.board.now in
    let old = c.args.self.now in
    let keeps = g.L.Rule.keeps rule old.tally.rounds in
    let members = c.do_items.new.members.items in
    let tally = c.take_in.new.tally in
    let root = c.read_log-self.new.root in
    let new : Rounds = record {
      root = root;
      members = c.take_in.new.members;
      list = c.read_log-self.new.list;
      listed = c.read_log-self.result;
      tally = record { cuts = tally.cuts; offers = tally.offers; rounds = tally.rounds + 1 };
    } in
    let before : c.add_workers.new.root.accounts ≡ old.root.accounts = ap (λ (r : RootModel). r.accounts) c.add_workers.ensures.root in
    let after : c.take_in.new.root.accounts ≡ root.accounts = ap (λ (r : RootModel). r.accounts) (sym c.read_log-self.ensures.root) in
    let tallied : IsTalliedBy root.accounts tally =
    subst (λ l. IsTalliedBy l tally) after (c.take_in.ensures.tally (subst (λ l. IsTalliedBy l old.tally) (sym before) c.requires.holds_before.tallied)) in
    let played : Played game fits keeps board c.args.workers old new = record {
      order = c.arrange.new.list.items;
      alike = c.arrange.ensures.same;
      members = members;
      worked = subst (λ l. AllAtWork game fits keeps board l members) c.as_slice.ensures.value c.do_items.ensures.worked;
      swept = subst (λ n. IsPermutation (range_with_len 0 n) (notes_of members)) (omega (arith, c.len-items.ensures, c.arrange.ensures.long, old.list.ok.0, c.arrange.new.list.ok.0)) c.do_items.ensures.swept;
      accounts = sym after ∙ (c.take_in.ensures.accounts ∙ ap (λ l. l ++ reverse (accounts_of members)) before);
      lawful = subst (λ l. IsLawful l board.starts board.least) after c.take_in.ensures.lawful;
      at = ap (λ (r : RootModel). r.board) c.read_log-self.ensures.root ∙ c.take_in.ensures.root.0;
      settled = ap (λ (r : RootModel). r.out) c.read_log-self.ensures.root ∙ c.take_in.ensures.root.1;
      rounds = (let e = c.take_in.ensures.rounds in omega arith);
      tallied = record { cuts = tallied.cuts; offers = tallied.offers };
      listed = c.read_log-self.ensures.listed ∙ ap log_count after;
      list = subst (λ l. c.read_log-self.new.list.items ≡ cells_since old.listed l) after c.read_log-self.ensures.list;
      nobody = c.take_in.ensures.members;
      seats = (let a = c.take_in.ensures.capacity in let b = c.do_items.ensures.capacity in let d = c.add_workers.ensures.capacity in let e = c.requires.holds_before.seats in omega arith);
      capacity = (let a = c.read_log-self.ensures.capacity in let e = c.requires.holds_before.capacity in omega arith);
    } in
    let both = stands_after game fits (g.L.Rule.first rule) (g.L.Rule.keeps rule) (g.L.Rule.holds_before rule) board ((g.met.L.Rule g.world.𝓛 g.world.𝓜 g.world.𝓡 (here g.world)).leads_on rule board c.requires.board)
    c.args.workers old c.requires.holds_before (omega (arith, c.requires.some, old.list.ok.0)) new played in
    record { holds_before = both.0; nearer = both.1 }
