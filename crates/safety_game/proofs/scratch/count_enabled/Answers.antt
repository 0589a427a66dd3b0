use Rattle.std.proofs.Common.{◌≡◌, ◌+◌, ◌*◌, nat_lt, length, arith, sym, ap, ◌∙◌}
use Rattle.std.specs.List.{range_with_len}
use Rattle.std.proofs.lemmas.Bool.{lt-ltb, le-ltb}
use Rattle.std.proofs.lemmas.List.FromFn.{length-range_with_len}
use Rattle.std.proofs.lemmas.List.Sums.{count_by-le-length}
use Rattle.game_core.specs.Counts.{one_if}
use Rattle.game_core.specs.Game.{successors_at}
use Rattle.safety_game.proofs.Counting.{count_more}
use Rattle.safety_game.proofs.scratch.count_enabled.Goals as goal
use Rattle.safety_game.proofs.scratch.count_enabled.Goals.{then-fan-gt0, else-fan-gt0}

pub overflow_add-count : goal.overflow_add-count
overflow_add-count g c =
    let game = g.G.Forward.game c.args.g.now in
    let first = c.args.c * game.inputs in
    let most = count_by-le-length (λ pair. nat_lt 0 (length (successors_at game pair))) (range_with_len first c.loop-input.input) in
    let len = length-range_with_len first c.loop-input.input in
    omega arith

pub loop-input-preserved : goal.loop-input-preserved
loop-input-preserved g c =
    let game = g.G.Forward.game c.args.g.now in
    let pair = c.args.c * game.inputs + c.loop-input.input in
    let more = count_more (λ pair. nat_lt 0 (length (successors_at game pair))) (c.args.c * game.inputs) c.loop-input.input in
    let fan : length (successors_at game pair) ≡ c.fan.result = ap (λ n. length (successors_at game (c.args.c * n + c.loop-input.input))) (sym c.inputs.ensures) ∙ sym c.fan.ensures in
    elim c.if-fan-gt0.branch [
      | then-fan-gt0 w ↦
          omega (arith, ap one_if (lt-ltb 0 (length (successors_at game pair)) (omega arith)))
      | else-fan-gt0 w ↦
          omega (arith, w.if-fan-gt0.false, ap one_if (le-ltb 0 (length (successors_at game pair)) (omega arith)))
    ]
