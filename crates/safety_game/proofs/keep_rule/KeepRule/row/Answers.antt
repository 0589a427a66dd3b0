use Rattle.std.proofs.Common.{◌≡◌, ◌+◌, ◌*◌, false, sym, ◌∙◌, subst, below_more}
use Rattle.cell_counters.specs.BoardModels.{RootModel}
use Rattle.game_core.specs.Game.{pair_of}
use Rattle.safety_game.specs.inside.KeepRounds.{is_whole, AreFewCuts}
use Rattle.safety_game.proofs.Ends.{few_each}
use Rattle.safety_game.proofs.keep_rule.KeepRule.row.Goals as goal

pub is_whole-requires-clause-board : goal.is_whole-requires-clause-board
is_whole-requires-clause-board g c = c.requires.board.of_game

pub is_whole-requires-clause-few : goal.is_whole-requires-clause-few
is_whole-requires-clause-few g c =
    let rule = c.args.self.now in
    let game = g.G.Graph.game rule.graph.now in
    subst (λ (r : RootModel). AreFewCuts game r.accounts) (sym c.loop-input.invariant.same) (few_each game rule.is_graph c.args.root.now.accounts c.requires.end)

pub loop-input-preserved : goal.loop-input-preserved
loop-input-preserved g c =
    let rule = c.args.self.now in
    let game = g.G.Graph.game rule.graph.now in
    let before = c.loop-input.invariant in
    let input = c.loop-input.input in
    let broken = subst (λ (r : RootModel). is_whole game r.accounts (c.args.c * rule.inputs + input) ≡ false) before.same (sym c.is_whole.ensures.whole ∙ c.if-is_whole.false) in
    record {
      same = c.is_whole.ensures.root ∙ before.same;
      none = below_more (λ u. is_whole game c.args.root.now.accounts (pair_of game c.args.c u) ≡ false) input before.none
          (subst (λ n. is_whole game c.args.root.now.accounts (c.args.c * n + input) ≡ false) rule.inputs_are broken);
    }
