use Rattle.std.proofs.Common.{◌≡◌, count_by}
use Rattle.std.specs.List.{range_with_len}
use Rattle.game_core.specs.Game.{pair_of}
use Rattle.game_core.specs.inside.Falling.{is_safe}
use Rattle.game_core.proofs.falling.count_safe.Given as goal

-- the safe ones among the inputs so far
abbrev pub invariant-loop-input : goal.invariant-loop-input
invariant-loop-input g l = l.count ≡ count_by (λ u. is_safe l.safe (pair_of (g.G.Graph.game l.g) l.c u)) (range_with_len 0 l.input)
