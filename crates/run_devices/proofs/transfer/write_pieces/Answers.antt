use Rattle.std.proofs.Common.{◌≡◌, ◌+◌, ◌++◌, List, ℕ, drop, get_or, [], length, length-append, ap, ◌∙◌, arith, Bor}
use Rattle.std.specs.List.{flat_map}
use Rattle.std.proofs.lemmas.Result.{err_from_is_err_and}
use Rattle.run_devices.specs.Devices.{writing}
use Rattle.run_devices.proofs.SoFar.{piece_part, piece_more, pieces_from}
use Rattle.run_devices.proofs.transfer.write_pieces.Goals as goal

pub returns-in_err-write_whole-clause-part : goal.returns-in_err-write_whole-clause-part
returns-in_err-write_whole-clause-part g c =
    let p = err_from_is_err_and c.from_residual.result c.from_residual.ensures.1 in
    let bytes : Bor (List ℕ) → List ℕ = λ piece. piece.now in
    let piece : List ℕ = (get_or c.args.pieces.now c.loop-piece.piece-index (record { ref_ptr = (0, 0); now = [] })).now in
    let more : List ℕ = flat_map bytes (drop (c.loop-piece.piece-index + 1) c.args.pieces.now) in
    rw p.1 (piece_part (writing g.O.Sink.got g.O.Sink.faults g.O.Sink.capacity c.args.out.now c.write_whole.new.out) (g.O.Sink.got c.loop-piece.out) (g.O.Sink.faults c.loop-piece.out) (g.O.Sink.capacity c.loop-piece.out)
    (flat_map bytes c.args.pieces.now) (flat_map bytes (drop c.loop-piece.piece-index c.args.pieces.now)) piece more
    c.loop-piece.invariant.written c.loop-piece.invariant.faults c.loop-piece.invariant.capacity
    (pieces_from bytes c.args.pieces.now c.loop-piece.piece-index (record { ref_ptr = (0, 0); now = [] }) c.loop-piece-test.true)
    c.in_err-write_whole.ensures.part)

pub loop-piece-preserved : goal.loop-piece-preserved
loop-piece-preserved g c =
    let bytes : Bor (List ℕ) → List ℕ = λ piece. piece.now in
    let piece : List ℕ = (get_or c.args.pieces.now c.loop-piece.piece-index (record { ref_ptr = (0, 0); now = [] })).now in
    let more : List ℕ = flat_map bytes (drop (c.loop-piece.piece-index + 1) c.args.pieces.now) in
    let cut : flat_map bytes (drop c.loop-piece.piece-index c.args.pieces.now) ≡ piece ++ more = pieces_from bytes c.args.pieces.now c.loop-piece.piece-index (record { ref_ptr = (0, 0); now = [] }) c.loop-piece-test.true in
    record {
      written = piece_more _ _ _ _ _ _ _ c.loop-piece.invariant.written cut c.in_ok-write_whole.ensures.whole.gained;
      faults = c.in_ok-write_whole.ensures.whole.no_fault ∙ c.loop-piece.invariant.faults;
      capacity = omega (arith, c.loop-piece.invariant.capacity, c.in_ok-write_whole.ensures.capacity, ap length cut, length-append piece more);
    }
