use Rattle.std.proofs.Common.{◌≡◌, ℕ, suc, ◌+◌, ◌^◌, ◌<◌, length, length-append, get_or, Contains, is_some, arith, subst, sym, ap}
use Rattle.std.proofs.lemmas.List.Elements.{Contains-get_or}
use Rattle.std.proofs.lemmas.List.Sums.{count_by-le-length}
use Rattle.game_core.proofs.Rows.{below_from_row}
use Rattle.game_core.proofs.Taking.{taking_start, taking_step, taking_end, left_to_cut}
use Rattle.game_core.specs.Game.{Game, IsGraph}
use Rattle.game_core.specs.inside.Search.{SearchProgress, IsSearched}
use Rattle.game_core.specs.Solution.{rank_at}
use Rattle.game_core.proofs.search.Search.take.Goals as goal

-- the cell at the head has a row
cell_below : (g : Game) (head : ℕ) (p : SearchProgress) → IsSearched g head p → head < length p.queue → (c : ℕ) → c ≡ get_or p.queue head 0 → c < length p.rows
cell_below g head p h lt c e =
    let has = h.search.queue.has_row c (subst (Contains p.queue) (sym e) (Contains-get_or p.queue head 0 lt)) in
    below_from_row p.rows c has.0 has.1

-- its rank is below the number of cells
rank_below : (g : Game) → IsGraph g → (head : ℕ) (p : SearchProgress) → IsSearched g head p → head < length p.queue → (c : ℕ) → c ≡ get_or p.queue head 0 → rank_at p.rows c < 2 ^ 20
rank_below g a head p h lt c e =
    omega (arith, h.search.queue, ap (rank_at p.rows) e, count_by-le-length is_some p.rows)

pub rank_of-rank-requires : goal.rank_of-rank-requires
rank_of-rank-requires g c = cell_below (g.G.Graph.game c.args.g.now) c.args.head c.args.self.now c.requires.searched c.requires.at c.cell_at-c.result c.cell_at-c.ensures

pub overflow_add-rank : goal.overflow_add-rank
overflow_add-rank g c =
    let low = rank_below (g.G.Graph.game c.args.g.now) (g.met.G.Graph.lawful c.args.g.now) c.args.head c.args.self.now c.requires.searched c.requires.at c.cell_at-c.result c.cell_at-c.ensures in
    omega arith

pub sources-pair-items-requires : goal.sources-pair-items-requires
sources-pair-items-requires g c =
    let lt = cell_below (g.G.Graph.game c.args.g.now) c.args.head c.args.self.now c.requires.searched c.requires.at c.cell_at-c.result c.cell_at-c.ensures in
    omega arith

pub loop-pair-init : goal.loop-pair-init
loop-pair-init g c =
    let top : c.rank_of-rank.result + 1 ≡ suc (rank_at c.args.self.now.rows c.cell_at-c.result) = omega arith in
    taking_start (g.G.Graph.game c.args.g.now) c.args.head c.cell_at-c.result c.sources-pair-items.result.now c.args.self.now c.requires.at (sym c.cell_at-c.ensures) (c.rank_of-rank.result + 1) top c.requires.searched

pub cut-requires-clause-pair : goal.cut-requires-clause-pair
cut-requires-clause-pair g c = ((c.sources-pair-items.ensures.exactly (get_or c.sources-pair-items.result.now c.loop-pair.pair-index 0)).0 (Contains-get_or c.sources-pair-items.result.now c.loop-pair.pair-index 0 c.loop-pair-test.true)).0

pub cut-requires-clause-counters : goal.cut-requires-clause-counters
cut-requires-clause-counters g c = c.loop-pair.invariant.search.counted.one_each

pub cut-requires-clause-rows : goal.cut-requires-clause-rows
cut-requires-clause-rows g c = c.loop-pair.invariant.search.told.one_each

pub cut-requires-clause-open : goal.cut-requires-clause-open
cut-requires-clause-open g c =
    left_to_cut (g.G.Graph.game c.args.g.now) (g.met.G.Graph.lawful c.args.g.now).game c.args.head (c.rank_of-rank.result + 1) c.cell_at-c.result c.sources-pair-items.result.now c.sources-pair-items.ensures c.args.self.now c.requires.at (sym c.cell_at-c.ensures) c.loop-pair.self c.loop-pair.pair-index c.loop-pair-test.true c.loop-pair.invariant

pub loop-pair-preserved : goal.loop-pair-preserved
loop-pair-preserved g c =
    taking_step (g.G.Graph.game c.args.g.now) (g.met.G.Graph.lawful c.args.g.now).game c.args.head (c.rank_of-rank.result + 1) c.cell_at-c.result c.sources-pair-items.result.now c.sources-pair-items.ensures c.args.self.now c.requires.at (sym c.cell_at-c.ensures) c.loop-pair.self c.loop-pair.pair-index c.loop-pair-test.true c.loop-pair.invariant c.cut.new.self c.cut.ensures

pub returns-clause-searched : goal.returns-clause-searched
returns-clause-searched g c =
    let ended : c.loop-pair.pair-index ≡ length c.sources-pair-items.result.now = (let t = c.loop-pair-test.false in let a = c.loop-pair.auto.pair-index-end in omega arith) in
    taking_end (g.G.Graph.game c.args.g.now) (g.met.G.Graph.lawful c.args.g.now).game c.args.head (c.rank_of-rank.result + 1) c.cell_at-c.result c.sources-pair-items.result.now c.sources-pair-items.ensures c.args.self.now c.requires.at (sym c.cell_at-c.ensures) c.loop-pair.self c.loop-pair.pair-index ended c.loop-pair.invariant

pub returns-clause-at : goal.returns-clause-at
returns-clause-at g c =
    let grows = c.loop-pair.invariant.grows in
    omega (arith, ap length grows.is, length-append c.args.self.now.queue grows.more)
