use Rattle.std.proofs.Common.{◌≡◌, ◌+◌, ◌*◌, false, get_or, arith, sym, ap, ◌∙◌}
use Rattle.std.specs.List.{range_with_len}
use Rattle.std.proofs.lemmas.List.FromFn.{length-range_with_len}
use Rattle.std.proofs.lemmas.List.Sums.{count_by-le-length}
use Rattle.game_core.specs.Counts.{one_if}
use Rattle.base.proofs.Counts.{count_range_more}
use Rattle.game_core.specs.Game.{pair_of}
use Rattle.game_core.specs.inside.Falling.{is_safe}
use Rattle.game_core.proofs.falling.count_safe.Goals as goal
use Rattle.game_core.proofs.falling.count_safe.Goals.{then-safe-first, else-safe-first}

pub overflow_add-count : goal.overflow_add-count
overflow_add-count g c =
    let most = count_by-le-length (λ u. is_safe c.args.safe.now (pair_of (g.G.Graph.game c.args.g.now) c.args.c u)) (range_with_len 0 c.loop-input.input) in
    let len = length-range_with_len 0 c.loop-input.input in
    omega arith

pub loop-input-preserved : goal.loop-input-preserved
loop-input-preserved g c =
    let game = g.G.Graph.game c.args.g.now in
    let more = count_range_more (λ u. is_safe c.args.safe.now (pair_of game c.args.c u)) c.loop-input.input in
    let same : get_or c.args.safe.now (pair_of game c.args.c c.loop-input.input) false ≡ get_or c.args.safe.now (c.args.c * c.inputs.result + c.loop-input.input) false =
    ap (λ n. get_or c.args.safe.now (c.args.c * n + c.loop-input.input) false) (sym c.inputs.ensures) in
    elim c.if-safe-first.branch [
      | then-safe-first w ↦ let is = w.count-is in let one : one_if (is_safe c.args.safe.now (pair_of game c.args.c c.loop-input.input)) ≡ 1 = ap one_if (same ∙ w.if-safe-first.true) in omega arith
      | else-safe-first w ↦ let is = w.count-is in let none : one_if (is_safe c.args.safe.now (pair_of game c.args.c c.loop-input.input)) ≡ 0 = ap one_if (same ∙ w.if-safe-first.false) in omega arith
    ]
