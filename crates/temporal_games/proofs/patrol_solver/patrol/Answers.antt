use Rattle.std.proofs.Common.{ℕ, length, Option, List, arith, sym, subst}
use Rattle.game_core.specs.declared.game.Row.{Row}
use Rattle.game_core.specs.Game.{IsGraph}
use Rattle.turn_rows.specs.Targets.{IsInTarget}
use Rattle.temporal_games.specs.Patrol.{IsPatrol}
use Rattle.temporal_games.specs.inside.PatrolSearch.{IsBefore}
use Rattle.temporal_games.proofs.Ends.{ends}
use Rattle.temporal_games.proofs.Starts.{starts}
use Rattle.temporal_games.proofs.Steps.{goes_on, less_work}
use Rattle.turn_rows.proofs.NextTurns.{next_below}
use Rattle.temporal_games.proofs.patrol_solver.patrol.Goals as goal

pub loop-turn-init : goal.loop-turn-init
loop-turn-init g c =
    let game = g.G.Graph.game c.args.g.now in
    let lawful : IsGraph game = (g.met.G.Graph g.world.𝓛 g.world.𝓜 g.world.𝓡 ((λ s x. x), (λ x. x), (λ x. x), λ x. x)).lawful c.args.g.now in
    starts c.args.p.now game c.in_ok-turns.turns lawful.game c.in_ok-turns.ensures

pub loop-turn-smaller : goal.loop-turn-smaller
loop-turn-smaller g c =
    let game = g.G.Graph.game c.args.g.now in
    let t = c.loop-turn.turns in
    let h = c.loop-turn.invariant in
    let s = c.in_ok-solve_turn.ensures in
    let some' = c.in-Some.ensures.some in
    let b = s.1.below in
    less_work game c.in-Some.turn s.0 t c.solve_turn.new.self some'.0 b (omega (arith, b, h.tests, h.mark_lists)) some'.1 s.2

pub loop-turn-preserved : goal.loop-turn-preserved
loop-turn-preserved g c =
    let game = g.G.Graph.game c.args.g.now in
    let lawful : IsGraph game = (g.met.G.Graph g.world.𝓛 g.world.𝓜 g.world.𝓡 ((λ s x. x), (λ x. x), (λ x. x), λ x. x)).lawful c.args.g.now in
    let p = c.args.p.now in
    let turns = length p.targets in
    let h = c.loop-turn.invariant in
    let s = c.in_ok-solve_turn.ensures in
    let some' = c.in-Some.ensures.some in
    let is : IsBefore turns c.in-Some.turn s.0 = subst (λ (n : ℕ). IsBefore n c.in-Some.turn s.0) h.tests s.1 in
    goes_on game lawful.game (IsInTarget p) turns c.in-Some.turn s.0 c.loop-turn.turns c.solve_turn.new.self h (omega (arith, some'.0, h.tests)) is.below is.next is.only s.2

pub returns : goal.returns
returns g c =
    let game = g.G.Graph.game c.args.g.now in
    let lawful : IsGraph game = (g.met.G.Graph g.world.𝓛 g.world.𝓜 g.world.𝓡 ((λ s x. x), (λ x. x), (λ x. x), λ x. x)).lawful c.args.g.now in
    let p = c.args.p.now in
    let turns = length p.targets in
    let h = c.loop-turn.invariant in
    subst (λ (r : List (List (Option Row))). IsPatrol game (IsInTarget p) turns r) (sym c.into_rows.ensures)
    (ends game (IsInTarget p) turns c.loop-turn.turns lawful.game (next_below turns) (λ j lt. c.in_default.ensures.none j (omega (arith, lt, h.tests))) h)
