use Rattle.std.proofs.Common.{arith}
use Rattle.source_lists.proofs.BandCuts.{is_parted, start_read}
use Rattle.source_lists.proofs.cuts.Cuts.groups.Goals as goal

pub overflow_mul-from : goal.overflow_mul-from
overflow_mul-from c =
    let k = c.loop-band.band in
    let parted = is_parted c.args.cells c.args.self.now k c.requires.cuts c.requires.limit (omega (arith, c.loop-band-test.true, c.bands-band-end.ensures)) in
    omega (arith, start_read c.args.self.now k c.index.result.now (omega arith) c.index.ensures, parted.starts)
