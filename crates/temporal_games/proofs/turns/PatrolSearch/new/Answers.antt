use Rattle.std.proofs.Common.{rules, sym, subst}
use Rattle.temporal_games.specs.inside.PatrolSearch.{AreFirstMarks}
use Rattle.temporal_games.proofs.FirstMarks.{one_turn_more}
use Rattle.temporal_games.proofs.Withdrawing.{first_from_target}
use Rattle.temporal_games.proofs.turns.PatrolSearch.new.Goals as goal

pub loop-turn-preserved : goal.loop-turn-preserved
loop-turn-preserved g c =
    let n = c.loop-turn.turn in
    let before = c.loop-turn.invariant in
    record {
      mark_lists = search rules;
      row_lists = search rules;
      marked = one_turn_more c.args.p.now (g.G.Graph.game c.args.g.now) c.args.kept_answer.now n c.loop-turn.arrivals.items c.push.new.self.items c.remove_lost.new.self before.mark_lists before.marked
          (subst (AreFirstMarks c.args.p.now (g.G.Graph.game c.args.g.now) c.args.kept_answer.now n) (sym c.remove_lost.ensures.marks) (first_from_target c.args.p.now (g.G.Graph.game c.args.g.now) c.args.kept_answer.now n c.in_ok-first.first c.in_ok-first.ensures))
          (search rules);
    }
