-- A reader may go to another thread, and so may what it is to be told.
use denote.Param.Send.{IsSend, IsSync, sendable, view_send, recorded_send, struct_send}
use denote.Struct.Declared as Declared
use Rattle.std.proofs.Crossing.{crosses}
use Rattle.std.proofs.alloc.Global.TheSendSync as Heap
use Rattle.std.below.std_heap.proofs.GlobalAllocator.TheSendSync as Frees
use Rattle.std.specs.contracts.alloc.Global
use Rattle.std.specs.contracts.impls.GlobalAllocator.TheImpl as InHeap
use Rattle.core.specs.contracts.option.Option
use Rattle.fixed_expr.proofs.expr.Expr.TheLaws.TheKnot
use Rattle.left_right.proofs.reader.Reader.TheSendSync as CopyReader
use Rattle.live_table.proofs.prefix.Prefix.TheSendSync as Prefixed
use Rattle.live_table.specs.contracts.current.Current
use Rattle.live_table.specs.contracts.copy.LiveCopy
use Rattle.live_table.specs.contracts.copy.OneList
use Rattle.live_table.specs.contracts.copy.OneListProtocolLiveCopyOptionCurrent.TheImpl
use Rattle.live_table.specs.contracts.reader.Reader
use Rattle.live_table.specs.contracts.reader.Reader.TheInside
use Rattle.live_table.specs.contracts.told.Told
use Rattle.live_table.specs.contracts.told.Told.TheInside as ToldInside

pub copy_sync : IsSync LiveCopy.the_row
copy_sync = search (crosses, TheKnot.crosses, sendable, Prefixed.the_sync) depth 60 fits 20000

pub reader_send : IsSend Reader.the_row
reader_send =
    let copies = CopyReader.the_field_send LiveCopy.the_row (Option.the_row Current.the_row) OneList.the_row Global.the_row TheImpl.ghosts InHeap.ghosts Heap.the_send copy_sync Heap.the_sync Frees.the_frees in
    view_send TheInside.the_row _ _ _ _
    (recorded_send (TheInside.the_field).row _ _ (TheInside.the_type).to_one
    (struct_send (Declared.shape TheInside.the_type) (copies, (Prefixed.the_send, (Prefixed.the_send, tt)))))

pub told_send : IsSend Told.the_row
told_send =
    let copies = CopyReader.the_field_send LiveCopy.the_row (Option.the_row Current.the_row) OneList.the_row Global.the_row TheImpl.ghosts InHeap.ghosts Heap.the_send copy_sync Heap.the_sync Frees.the_frees in
    view_send ToldInside.the_row _ _ _ _
    (recorded_send (ToldInside.the_field).row _ _ (ToldInside.the_type).to_one
    (struct_send (Declared.shape ToldInside.the_type) (copies, (Prefixed.the_send, tt))))
