use Rattle.std.proofs.Common.{◌≡◌, ℕ, suc, ◌≤◌, List, [], Option, None, length, refl, sym, ◌∙◌, ap, subst}
use Rattle.std.proofs.lemmas.List.{length-replicate}
use Rattle.cell_counters.specs.declared.account.Account.{Account}
use Rattle.cell_counters.specs.BoardModels.{BoardModel, RootModel, new_root}
use Rattle.game_core.specs.declared.game.Row.{Row}
use Rattle.game_core.specs.declared.tally.Tally.{Tally}
use Rattle.board_rounds.specs.declared.solving.SolvedGame.{SolvedGame}
use Rattle.board_rounds.specs.declared.rounds.Rounds.{Rounds}
use Rattle.board_rounds.specs.Crew.{IsTalliedBy}
use Rattle.board_rounds.specs.Solving.{AreTold, IsSolvedByRule}
use Rattle.board_rounds.specs.Rounds.{IsUnused, IsOver}
use Rattle.board_rounds.proofs.solving.solve_by_rule.Goals as goal

-- with the rounds over and the rows read the game is solved
solved_game : (cells : ℕ) (holds_before : ℕ → List ℕ → List Account → Type 0) (tells : List Account → ℕ → Option Row → Type 0) (board seen : BoardModel) (r : Rounds) → board ≡ seen → IsOver board cells r → holds_before r.tally.rounds [] r.root.accounts
    → (s : SolvedGame) → AreTold cells (tells r.root.accounts) s.answer → s.tally ≡ r.tally → s.board ≡ board → s.root ≡ r.root → IsSolvedByRule cells holds_before tells seen s
solved_game cells holds_before tells board seen r same over stood s told tally on root = record {
  on = on ∙ same;
  at = ap (λ (m : RootModel). m.board) root ∙ (over.at ∙ same);
  settled = ap (λ (m : RootModel). m.out) root ∙ over.settled;
  in_time = subst (λ (t : Tally). t.rounds ≤ suc cells) (sym tally) over.in_time;
  stood = subst (λ (t : Tally). holds_before t.rounds [] s.root.accounts) (sym tally) (subst (λ (m : RootModel). holds_before r.tally.rounds [] m.accounts) (sym root) stood);
  tallied = subst (λ (t : Tally). IsTalliedBy s.root.accounts t) (sym tally) (subst (λ (m : RootModel). IsTalliedBy m.accounts r.tally) (sym root) over.tallied);
  told = subst (λ (m : RootModel). AreTold cells (tells m.accounts) s.answer) (sym root) told;
}

pub run_all-requires-clause-board : goal.run_all-requires-clause-board
run_all-requires-clause-board g c κs within = subst (g.L.Rule.fits c.args.rule.now) (sym c.scratch.view_is) c.requires.board

pub run_all-requires-clause-slots : goal.run_all-requires-clause-slots
run_all-requires-clause-slots g c κs within = ap (λ (b : BoardModel). b.slots) c.scratch.view_is ∙ c.requires.slots

pub run_all-requires-clause-unused : goal.run_all-requires-clause-unused
run_all-requires-clause-unused g c κs within =
    subst (λ n. IsUnused (new_root c.scratch.inside.board) n c.scratch.inside.workers c.scratch.inside.rounds)
    (ap (λ (b : BoardModel). b.slots) c.scratch.view_is ∙ c.requires.slots)
    c.scratch.invariant.unused

pub read_rows-requires-clause-board : goal.read_rows-requires-clause-board
read_rows-requires-clause-board g c κs within = subst (g.L.Rule.fits c.args.rule.now) (sym c.scratch.view_is) c.requires.board

pub read_rows-requires-clause-root : goal.read_rows-requires-clause-root
read_rows-requires-clause-root g c κs within = (c.run_all.ensures.over.at, c.run_all.ensures.over.settled)

pub read_rows-requires-clause-end : goal.read_rows-requires-clause-end
read_rows-requires-clause-end g c κs within = record { rounds = c.run_all.new.self.tally.rounds; in_time = c.run_all.ensures.over.in_time; stood = c.run_all.ensures.holds_before }

pub read_rows-requires-clause-answer : goal.read_rows-requires-clause-answer
read_rows-requires-clause-answer g c κs within =
    let no_row : Option Row = None in
    ap length c.scratch.invariant.blank ∙ (length-replicate c.scratch.inside.board.slots no_row ∙ (ap (λ (b : BoardModel). b.slots) c.scratch.view_is ∙ c.requires.slots))

pub returns : goal.returns
returns g c =
    let rule = c.args.rule.now in
    solved_game (g.L.Rule.game rule).cells (g.L.Rule.holds_before rule) (g.L.Rule.tells rule) c.scratch.inside.board c.args.scratch
    c.run_all.new.self c.scratch.view_is c.run_all.ensures.over c.run_all.ensures.holds_before
    _ c.read_rows.ensures.rows refl refl c.read_rows.ensures.root
