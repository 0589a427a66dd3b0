use Rattle.std.proofs.Common.{ℕ, ◌<◌, length, length-drop, ap, ◌∙◌, arith, rules}
use Rattle.std.proofs.lemmas.Result.{err_from_is_err_and}
use Rattle.run_devices.specs.Devices.{next_count, writing}
use Rattle.run_devices.proofs.SoFar.{written_part, written_more, short_of_capacity}
use Rattle.run_devices.proofs.transfer.write_whole.Goals as goal

pub returns-in_err-n-clause-part : goal.returns-in_err-n-clause-part
returns-in_err-n-clause-part g c =
    let p = err_from_is_err_and c.from_residual.result c.from_residual.ensures.1 in
    let some : 0 < length c.loop-rest.rest.now = search rules in
    rw p.1 (written_part (writing g.O.Sink.got g.O.Sink.faults g.O.Sink.capacity c.args.out.now c.write.new.self) (g.O.Sink.got c.loop-rest.out) c.args.text.now c.loop-rest.rest.now
    c.loop-rest.invariant.written c.in_err-n.ensures.kept some
    (c.in_err-n.ensures.failed ∙ ap next_count c.loop-rest.invariant.faults)
    (short_of_capacity _ _ _ _ c.loop-rest.invariant.capacity (λ enough. let ok = c.in_err-n.ensures.capacity some enough in cc)))

pub loop-rest-preserved : goal.loop-rest-preserved
loop-rest-preserved g c = record {
  written = rw c.split_at.ensures.back (written_more _ _ _ c.args.text.now c.loop-rest.rest.now c.in_ok-n.n c.loop-rest.invariant.written c.in_ok-n.ensures.gained);
  faults = c.in_ok-n.ensures.counted ∙ c.loop-rest.invariant.faults;
  capacity = rw c.split_at.ensures.back (omega (arith, c.loop-rest.invariant.capacity, c.in_ok-n.ensures.capacity_left, c.in_ok-n.ensures.bound, length-drop c.in_ok-n.n c.loop-rest.rest.now));
}
