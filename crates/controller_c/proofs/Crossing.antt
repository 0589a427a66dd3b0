-- What a `Held` owns says the same to every thread.
use mir.Raw.{raw}
use base.Shift.{Keyless}
use denote.Memory.{lone}
use denote.RawPtr.{Ptr}
use denote.Param.Send.{IsSend, sendable}
use Rattle.std.specs.Prelude.{Option, Some, None}
use Rattle.std.proofs.Crossing.{crosses, frees}
use Rattle.std_alloc.proofs.SendSync.{lies}
use Rattle.std_heap.specs.declared.Global.{Global}
use Rattle.fixed_expr.proofs.expr.Expr.TheLaws.TheKnot
use Rattle.text_control.specs.Texts.{TextModel}
use Rattle.text_control.specs.contracts.packed_text.PackedText
use Rattle.controller_c.specs.Ownership.{held_at}

text_send : IsSend PackedText.the_row
text_send = search (crosses, TheKnot.crosses, sendable) depth 60 fits 20000

pub held_keyless : (a : Global) (p : Ptr) (t : Option TextModel) → Keyless (held_at a p t)
held_keyless a p None = tt
held_keyless a p (Some t) = (lies PackedText.the_row text_send p t, frees.frees a (raw (lone PackedText.the_row.mir)) p)
