use Rattle.std.proofs.Common.{◌≡◌, ℕ, ◌+◌, ◌*◌, List, length, get_or, drop, replicate, arith, rules, sym, ap, ap₂, ◌∙◌}
use Rattle.std.specs.Fork.{IsChunk}
use Rattle.std.proofs.lemmas.List.{get_or-take, get_or-drop, get_or-replicate, length-replicate, same_lists}
use Rattle.std.proofs.lemmas.Grind.{same_number_lists}
use Rattle.game_core.specs.Game.{IsGraph, pairs_of}
use Rattle.board_rounds.specs.inside.FirstWords.{first_words}
use Rattle.board_rounds.proofs.Boards.{words_many}
use Rattle.board_rounds.proofs.Here.{here}
use Rattle.board_rounds.proofs.scratch.Scratch.numbers.Goals as goal

-- a chunk of zeros has zeros alone
zeros_in_chunk : (n size start : ℕ) (chunk : List ℕ) → IsChunk (replicate n 0) size start chunk → chunk ≡ replicate (length chunk) 0
zeros_in_chunk n size start chunk h =
    same_number_lists chunk (replicate (length chunk) 0) (sym (length-replicate {A = ℕ} (length chunk) 0)) (λ k lt.
    h.elements k 0 lt ∙ (get_or-replicate n (start + k) 0 0 (omega (arith, h.in_bounds, length-replicate {A = ℕ} n 0)) ∙ sym (get_or-replicate (length chunk) k 0 0 lt)))

pub by_chunks-requires-clause-accepts : goal.by_chunks-requires-clause-accepts
by_chunks-requires-clause-accepts g c κs within =
    let game = g.G.Forward.game c.args.g.now in
    let number = g.S.Start.number game in
    let a : IsGraph game = (g.met.G.Forward g.world.𝓛 g.world.𝓜 g.world.𝓡 (here g.world)).lawful c.args.g.now in
    let pairs : c.cells.result * c.inputs.result ≡ pairs_of game = ap₂ ◌*◌ c.cells.ensures c.inputs.ensures in
    let many = words_many game a number in
    let len = c.cells.result * c.inputs.result + 2 * c.cells-cells.result + 1 in
    λ start p chunk.
    (record { zeros = zeros_in_chunk len c.words_per_call-size.result start p.now chunk; within = omega (arith, chunk.in_bounds, length-replicate {A = ℕ} len 0) }, search rules)

pub returns : goal.returns
returns g c =
    let game = g.G.Forward.game c.args.g.now in
    let number = g.S.Start.number game in
    let all = first_words game number in
    let a : IsGraph game = (g.met.G.Forward g.world.𝓛 g.world.𝓜 g.world.𝓡 (here g.world)).lawful c.args.g.now in
    let pairs : c.cells.result * c.inputs.result ≡ pairs_of game = ap₂ ◌*◌ c.cells.ensures c.inputs.ensures in
    let many = words_many game a number in
    let list = c.in_ok-list.list in
    let len : length list ≡ length all = omega (arith, c.in_ok-list.ensures.len) in
    let size = c.cells.result * c.inputs.result + 2 * c.cells-cells.result + 1 in
    same_lists list all len (λ k d lt.
    let at = (c.in_ok-list.ensures.by_index k d (omega (arith, length-replicate {A = ℕ} size 0, c.in_ok-list.ensures.len))).1 in
    sym at.new_element ∙ (ap (λ l. get_or l at.offset d) at.call
    ∙ (get_or-take (length at.argument.now) (drop at.start all) at.offset d at.offset_in_chunk ∙ (get_or-drop at.start all at.offset d ∙ ap (λ i. get_or all i d) at.start_plus_offset))))
