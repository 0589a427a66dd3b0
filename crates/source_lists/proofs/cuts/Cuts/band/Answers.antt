use Rattle.std.proofs.Common.{◌+◌, arith}
use Rattle.source_lists.proofs.BandCuts.{is_parted, start_read}
use Rattle.source_lists.proofs.cuts.Cuts.band.Goals as goal

pub overflow_mul-from : goal.overflow_mul-from
overflow_mul-from c =
    let parted = is_parted c.args.cells c.args.self.now c.args.k c.requires.cuts c.requires.limit c.requires.band in
    let start = start_read c.args.self.now c.args.k c.index.result.now (omega arith) c.index.ensures in
    omega (arith, start, parted.starts)

pub overflow_mul-index : goal.overflow_mul-index
overflow_mul-index c =
    let parted = is_parted c.args.cells c.args.self.now c.args.k c.requires.cuts c.requires.limit c.requires.band in
    omega (arith, start_read c.args.self.now (c.args.k + 1) c.index-2.result.now (omega arith) c.index-2.ensures, parted.fits)

pub overflow_sub-result : goal.overflow_sub-result
overflow_sub-result c =
    let parted = is_parted c.args.cells c.args.self.now c.args.k c.requires.cuts c.requires.limit c.requires.band in
    let start = start_read c.args.self.now c.args.k c.index.result.now (omega arith) c.index.ensures in
    omega (arith, start, start_read c.args.self.now (c.args.k + 1) c.index-2.result.now (omega arith) c.index-2.ensures, parted.starts, parted.ends, c.min-end.ensures)

pub returns-clause-end : goal.returns-clause-end
returns-clause-end c =
    let parted = is_parted c.args.cells c.args.self.now c.args.k c.requires.cuts c.requires.limit c.requires.band in
    let start = start_read c.args.self.now c.args.k c.index.result.now (omega arith) c.index.ensures in
    omega (arith, start, start_read c.args.self.now (c.args.k + 1) c.index-2.result.now (omega arith) c.index-2.ensures, parted.starts, parted.ends, c.min-end.ensures)
