use Rattle.std.proofs.Common.{◌≡◌, ◌++◌, List, ℕ, take, drop, length, length-append, ap, ◌∙◌, arith}
use Rattle.std.proofs.lemmas.Result.{err_from_is_err_and}
use Rattle.run_devices.specs.Devices.{writing}
use Rattle.run_devices.proofs.SoFar.{piece_part, piece_more, piece_cut}
use Rattle.run_devices.proofs.transfer.write_through.Goals as goal

pub loop-count-preserved : goal.loop-count-preserved
loop-count-preserved g c =
    let n : ℕ = c.next_piece-count.result in
    let left : List ℕ = g.T.Pieces.left c.loop-count.text in
    let piece : List ℕ = take n c.next_piece-count.new.buf in
    let more : List ℕ = drop n left in
    let cut : left ≡ piece ++ more = piece_cut left c.next_piece-count.new.buf n c.next_piece-count.ensures.piece in
    rw c.next_piece-count.ensures.rest
    (record {
      written = piece_more _ _ _ _ _ piece more c.loop-count.invariant.written cut c.in_ok-write_whole.ensures.whole.gained;
      faults = c.in_ok-write_whole.ensures.whole.no_fault ∙ c.loop-count.invariant.faults;
      capacity = omega (arith, c.loop-count.invariant.capacity, c.in_ok-write_whole.ensures.capacity, ap length cut, length-append piece more);
    })

pub returns-in_err-write_whole-clause-part : goal.returns-in_err-write_whole-clause-part
returns-in_err-write_whole-clause-part g c =
    let p = err_from_is_err_and c.from_residual.result c.from_residual.ensures.1 in
    let n : ℕ = c.next_piece-count.result in
    let left : List ℕ = g.T.Pieces.left c.loop-count.text in
    let piece : List ℕ = take n c.next_piece-count.new.buf in
    let more : List ℕ = drop n left in
    rw p.1 (piece_part (writing g.O.Sink.got g.O.Sink.faults g.O.Sink.capacity c.args.out.now c.write_whole.new.out) (g.O.Sink.got c.loop-count.out) (g.O.Sink.faults c.loop-count.out) (g.O.Sink.capacity c.loop-count.out)
    (g.T.Pieces.left c.args.text.now) left piece more
    c.loop-count.invariant.written c.loop-count.invariant.faults c.loop-count.invariant.capacity
    (piece_cut left c.next_piece-count.new.buf n c.next_piece-count.ensures.piece)
    c.in_err-write_whole.ensures.part)
