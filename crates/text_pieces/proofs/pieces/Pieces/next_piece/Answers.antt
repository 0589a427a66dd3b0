use Rattle.std.proofs.Common.{◌≡◌, ◌+◌, ◌-◌, ◌≤◌, ◌∙◌, ◌++◌, length, take, drop, List, ℕ, ap, arith, length-drop}
use Rattle.std.proofs.lemmas.List.{drop-drop}
use Rattle.text_pieces.proofs.Copies.{more_pieces, capacity_for, piece_length}
use Rattle.text_pieces.proofs.pieces.Pieces.next_piece.Goals as goal

pub loop-filled-preserved : goal.loop-filled-preserved
loop-filled-preserved g c =
    let text = g.Self.Pieces.left c.args.self.now in
    let buf = c.loop-filled.buf in
    let filled = c.loop-filled.filled in
    let count = c.copy_some-count.result in
    let new = c.copy_some-count.new.buf in
    let rest : g.Self.Pieces.left c.loop-filled.self ≡ drop filled text = c.loop-filled.invariant.left in
    let within : count ≤ length (drop filled text) = omega (arith, c.copy_some-count.ensures.within, ap length rest) in
    let enough : filled + count ≤ length text = omega (arith, within, length-drop filled text, c.loop-filled.invariant.enough) in
    let copied : new ≡ take count (drop filled text) ++ drop count (take (length buf - filled) (drop filled buf)) =
    c.copy_some-count.ensures.copied ∙ ap (λ (x : List ℕ). take count x ++ drop count (take (length buf - filled) (drop filled buf))) rest in
    record {
      capacity = capacity_for buf new filled count (length buf - filled) c.loop-filled.invariant.capacity (piece_length (drop filled text) new (take (length buf - filled) (drop filled buf)) count within copied);
      enough = enough;
      piece = more_pieces text buf new (take (length buf - filled) (drop filled buf)) filled count (length buf - filled) c.loop-filled.invariant.capacity enough c.loop-filled.invariant.piece copied within;
      left = c.copy_some-count.ensures.rest ∙ ap (drop count) rest ∙ drop-drop count filled text;
    }
