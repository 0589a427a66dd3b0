use Rattle.std.proofs.Common.{◌≡◌, ℕ, ◌+◌, ◌*◌, ◌<◌, List, [], ◌∷◌, ◌++◌, length, map, get_or, set, take, arith, sym, ap₂, ◌∙◌, length-set, take_all}
use Rattle.std.proofs.lemmas.List.{take_more, take_more_set, get_or-map, length-map}
use Rattle.game_core.specs.Game.{pairs_of}
use Rattle.game_core.proofs.search.fans.Goals as goal

-- one fan more
one_more : (xss : List (List ℕ)) (fans : List ℕ) (i n : ℕ) → i < length fans → i < length xss → n ≡ length (get_or xss i []) → take i fans ≡ take i (map length xss) → take (i + 1) (set fans i n) ≡ take (i + 1) (map length xss)
one_more xss fans i n lf lx e h =
    let same = length-map xss length in
    take_more_set fans i n lf
    ∙ (ap₂ (λ (front : List ℕ) (m : ℕ). front ++ m ∷ []) h (e ∙ sym (get_or-map length xss i [] 0 lx))
    ∙ sym (take_more (map length xss) i 0 (omega arith)))

pub loop-pair-preserved : goal.loop-pair-preserved
loop-pair-preserved g c =
    let game = g.G.Graph.game c.args.g.now in
    let one_list_each = (g.met.G.Graph.lawful c.args.g.now).game.one_list_each in
    let pairs : c.cells.result * c.inputs.result ≡ pairs_of game = ap₂ ◌*◌ c.cells.ensures c.inputs.ensures in
    let same = length-set c.loop-pair.fans.items c.loop-pair.pair c.fan.result in
    (omega arith, one_more game.successors c.loop-pair.fans.items c.loop-pair.pair c.fan.result (omega arith) (omega arith) c.fan.ensures c.loop-pair.invariant.1)

pub returns : goal.returns
returns g c =
    let game = g.G.Graph.game c.args.g.now in
    let one_list_each = (g.met.G.Graph.lawful c.args.g.now).game.one_list_each in
    let pairs : c.cells.result * c.inputs.result ≡ pairs_of game = ap₂ ◌*◌ c.cells.ensures c.inputs.ensures in
    let same = length-map game.successors length in
    sym (take_all c.loop-pair.pair c.loop-pair.fans.items (omega arith)) ∙ (c.loop-pair.invariant.1 ∙ take_all c.loop-pair.pair (map length game.successors) (omega arith))
