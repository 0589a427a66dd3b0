use Rattle.std.proofs.Common.{◌≡◌, ◌<◌, ◌+◌, List, length, count_by, arith, sym, ap, ap₂, ◌∙◌, subst₂}
use Rattle.game_core.specs.declared.game.Mark.{Mark}
use Rattle.game_core.specs.declared.game.Mark.TheVariants.{Plain}
use Rattle.std.proofs.lemmas.List.{get_or_default}
use Rattle.game_core.specs.Solution.{row_of}
use Rattle.temporal_games.specs.declared.arrivals.Arrivals.TheInside.{Inside}
use Rattle.temporal_games.specs.inside.PatrolSearch.{mark_at, is_gone, is_goal, withdrawn, one_if}
use Rattle.temporal_games.proofs.Withdrawing.{IsWithdrawing, begins, one_gone, one_stays, all_withdrawn}
use Rattle.temporal_games.proofs.arrivals.Arrivals.remove_lost.Goals as goal
use Rattle.temporal_games.proofs.arrivals.Arrivals.remove_lost.Goals.{then-is_gone, else-is_gone}

pub loop-c-init : goal.loop-c-init
loop-c-init c = begins c.self.inside.marks.items c.args.answer.now

pub loop-c-preserved : goal.loop-c-preserved
loop-c-preserved c =
    let first = c.self.inside.marks.items in
    let marks = c.loop-c.self-inside.marks.items in
    let rows = c.args.answer.now in
    let long : length rows ≡ length first = c.requires ∙ ap (λ (l : List Mark). length l) (sym c.self.view_is) in
    let lt : c.loop-c.c < length marks = (let t = c.loop-c-test.true in let e = c.cells-c-end.ensures in let n = c.loop-c.invariant.one_each in omega arith) in
    let mark : c.index.result.now ≡ mark_at marks c.loop-c.c = c.index.ensures ∙ get_or_default marks c.loop-c.c c.index.result.now Plain lt in
    let told : c.is_gone.result ≡ is_gone (mark_at marks c.loop-c.c) (row_of rows c.loop-c.c) = c.is_gone.ensures ∙ ap₂ is_gone mark c.row.ensures in
    elim c.if-is_gone.branch [
      | then-is_gone w ↦
          subst₂ (IsWithdrawing first rows (c.loop-c.c + 1)) (sym w.found-is) (sym (ap (λ (i : Inside). i.marks.items) w.self-inside-is))
          (one_gone first rows c.loop-c.c c.loop-c.found marks (let t = c.loop-c-test.true in let e = c.cells-c-end.ensures in omega arith) c.loop-c.invariant (sym told ∙ w.if-is_gone.true))
      | else-is_gone w ↦
          subst₂ (IsWithdrawing first rows (c.loop-c.c + 1)) (sym w.found-is) (sym (ap (λ (i : Inside). i.marks.items) w.self-inside-is))
          (one_stays first rows c.loop-c.c c.loop-c.found marks c.loop-c.invariant (sym told ∙ w.if-is_gone.false))
    ]

pub returns : goal.returns
returns c =
    let first = c.self.inside.marks.items in
    let rows = c.args.answer.now in
    let past = c.loop-c-test.false in
    let cells = c.cells-c-end.ensures in
    let same = c.requires in
    let long : length rows ≡ length first = c.requires ∙ ap (λ (l : List Mark). length l) (sym c.self.view_is) in
    let view : first ≡ c.args.self.now = c.self.view_is in
    record {
      marks = all_withdrawn first rows c.loop-c.c c.loop-c.found c.loop-c.self-inside.marks.items (omega arith) c.loop-c.invariant ∙ ap (λ (l : List Mark). withdrawn l rows) view;
      same = λ e. c.loop-c.invariant.same e ∙ view;
      fewer = λ e. let few = c.loop-c.invariant.fewer in let one : one_if c.loop-c.found ≡ 1 = ap one_if e in let was = ap (λ (l : List Mark). count_by is_goal l) view in omega arith;
    }
