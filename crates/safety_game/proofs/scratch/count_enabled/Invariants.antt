use Rattle.std.proofs.Common.{◌≡◌, ◌*◌, nat_lt, length, count_by}
use Rattle.std.specs.List.{range_with_len}
use Rattle.game_core.specs.Game.{successors_at}
use Rattle.safety_game.proofs.scratch.count_enabled.Given as goal

-- the enabled ones among the inputs so far
abbrev pub invariant-loop-input : goal.invariant-loop-input
invariant-loop-input g l =
    let game = g.G.Forward.game l.g in
    l.count ≡ count_by (λ pair. nat_lt 0 (length (successors_at game pair))) (range_with_len (l.c * game.inputs) l.input)
