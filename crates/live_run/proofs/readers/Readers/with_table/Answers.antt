use Rattle.std.proofs.Common.{◌≡◌, length, sym, ◌∙◌}
use Rattle.std.proofs.Math.Seq.{take-append_seam}
use Rattle.live_run.proofs.readers.Readers.with_table.Goals as goal

pub invariant_of-result : goal.invariant_of-result
invariant_of-result g c =
    let size : c.self.inside.readers.len ≡ length c.publish.new.readers = sym (c.publish.auto.readers ∙ c.deref_mut.ensures.len) in
    rw (size, take-append_seam) c.in-Ok.ensures.told
