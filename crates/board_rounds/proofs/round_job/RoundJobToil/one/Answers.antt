use Rattle.std.proofs.Common.{◌≡◌, ℕ, ◌<◌, ◌≤◌, List, All, length, take, get_or, slice_index, sym, subst, arith}
use Rattle.std.proofs.lemmas.List.{take_more, take_all}
use Rattle.std.proofs.lemmas.List.Elements.{Contains-get_or}
use Rattle.game_core.specs.Counts.{times}
use Rattle.game_core.specs.Game.{Game, AreSources, pairs_of}
use Rattle.game_core.proofs.Times.{edges_from_both_ends}
use Rattle.board_rounds.specs.inside.WorkerSteps.{cuts_for}
use Rattle.board_rounds.proofs.Working.{IsUnderWay, sets_out, goes_on, comes_back}
use Rattle.board_rounds.proofs.round_job.RoundJobToil.one.Goals as goal

-- the pairs that lead to a cell have counters
have_counters : (game : Game) (cell : ℕ) (starts pairs : List ℕ) → pairs_of game ≤ length starts → AreSources game cell pairs → All (λ pair. pair < length starts) pairs
have_counters game cell starts pairs many h k d lt =
    omega (arith, ((h.exactly (get_or pairs k d)).0 (Contains-get_or pairs k d lt)).0)

pub prefetch_list-requires : goal.prefetch_list-requires
prefetch_list-requires g c =
    let round_job = c.args.self.now in
    have_counters (g.L.Rule.game round_job.rule.now) _ round_job.board.now.starts c.sources.result.now (g.met.L.Rule.leads_on round_job.rule.now round_job.board.now c.requires.sound.of_game).counters c.sources.ensures

pub cut-requires-clause-pair : goal.cut-requires-clause-pair
cut-requires-clause-pair g c =
    let pairs = c.sources-sources.result.now in
    ((c.sources-sources.ensures.exactly (get_or pairs c.loop-pair.pair-index 0)).0 (Contains-get_or pairs c.loop-pair.pair-index 0 c.loop-pair-test.true)).0

pub cut-requires-clause-enabled : goal.cut-requires-clause-enabled
cut-requires-clause-enabled g c =
    let pairs = c.sources-sources.result.now in
    let has = ((c.sources-sources.ensures.exactly (get_or pairs c.loop-pair.pair-index 0)).0 (Contains-get_or pairs c.loop-pair.pair-index 0 c.loop-pair-test.true)).1 in
    omega arith

pub loop-pair-init : goal.loop-pair-init
loop-pair-init g c =
    let round_job = c.args.self.now in
    sets_out (g.L.Rule.game round_job.rule.now) (g.L.Rule.fits round_job.rule.now) (g.L.Rule.keeps round_job.rule.now round_job.round) round_job.board.now round_job.list.now c.args.worker.now c.requires.sound

pub loop-pair-preserved : goal.loop-pair-preserved
loop-pair-preserved g c =
    let round_job = c.args.self.now in
    let game = g.L.Rule.game round_job.rule.now in
    let keeps = g.L.Rule.keeps round_job.rule.now round_job.round in
    let pairs = c.sources-sources.result.now in
    let i = c.loop-pair.pair-index in
    subst (λ l. IsUnderWay game keeps round_job.board.now round_job.list.now l c.args.worker.now c.cut.new.worker) (sym (take_more pairs i 0 c.loop-pair-test.true))
    (goes_on game (g.L.Rule.fits round_job.rule.now) keeps round_job.board.now round_job.list.now c.args.worker.now (take i pairs) (get_or pairs i 0) c.loop-pair.worker c.cut.new.worker c.loop-pair.invariant c.cut.ensures.once c.cut.ensures.keeps)

pub returns-clause-sound : goal.returns-clause-sound
returns-clause-sound g c =
    let round_job = c.args.self.now in
    let game = g.L.Rule.game round_job.rule.now in
    let keeps = g.L.Rule.keeps round_job.rule.now round_job.round in
    let pairs = c.sources-sources.result.now in
    let all = take_all c.loop-pair.pair-index pairs c.loop-pair-test.false in
    let each : (pair : ℕ) → pair < pairs_of game → times pair pairs ≡ cuts_for game round_job.list.now pair c.args.item =
    λ pair lt. edges_from_both_ends game (slice_index round_job.list.now c.args.item) pair pairs (g.met.L.Rule.leads_on round_job.rule.now round_job.board.now c.requires.sound.of_game).graph.game c.sources-sources.ensures lt in
    comes_back game (g.L.Rule.fits round_job.rule.now) keeps round_job.board.now round_job.list.now c.args.worker.now c.requires.sound.of_game pairs c.args.item c.loop-pair.worker c.note.new.self
    ((g.met.L.Rule.leads_on round_job.rule.now round_job.board.now c.requires.sound.of_game).noted round_job.round) each
    (subst (λ l. IsUnderWay game keeps round_job.board.now round_job.list.now l c.args.worker.now c.loop-pair.worker) all c.loop-pair.invariant)
    c.note.ensures
