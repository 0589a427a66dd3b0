use Rattle.std.proofs.Common.{◌≡◌, ◌+◌, length, get_or, arith, subst, sym}
use Rattle.std.proofs.lemmas.List.Elements.{Contains-get_or}
use Rattle.game_core.proofs.Losses.{IsTaking, pair_leads, one_more, taking_end}
use Rattle.game_core.proofs.falling.Falling.take.Goals as goal

pub sources-pair-items-requires : goal.sources-pair-items-requires
sources-pair-items-requires g c =
    let p = c.args.self.now in
    let has = (c.requires.falling.fallen.empty (get_or p.queue c.args.head 0) (Contains-get_or p.queue c.args.head 0 c.requires.at)).0 in
    omega arith

pub lose-requires-clause-pair : goal.lose-requires-clause-pair
lose-requires-clause-pair g c =
    (pair_leads (g.G.Graph.game c.args.g.now) c.args.head c.cell_at-c.result c.sources-pair-items.result.now c.sources-pair-items.ensures c.loop-pair.self c.loop-pair.pair-index c.loop-pair-test.true c.loop-pair.invariant).0

pub loop-pair-preserved : goal.loop-pair-preserved
loop-pair-preserved g c =
    let game = g.G.Graph.game c.args.g.now in
    subst (IsTaking game c.args.head c.cell_at-c.result c.sources-pair-items.result.now (c.loop-pair.pair-index + 1)) (sym c.lose.ensures)
    (one_more game c.args.head c.cell_at-c.result c.sources-pair-items.result.now c.sources-pair-items.ensures c.loop-pair.self c.loop-pair.pair-index c.loop-pair-test.true c.loop-pair.invariant)

pub returns : goal.returns
returns g c =
    let ended : c.loop-pair.pair-index ≡ length c.sources-pair-items.result.now = (let t = c.loop-pair-test.false in let a = c.loop-pair.auto.pair-index-end in omega arith) in
    record {
      falling = taking_end (g.G.Graph.game c.args.g.now) c.args.head c.cell_at-c.result c.sources-pair-items.result.now c.sources-pair-items.ensures c.loop-pair.self c.loop-pair.pair-index ended c.loop-pair.invariant;
    }
