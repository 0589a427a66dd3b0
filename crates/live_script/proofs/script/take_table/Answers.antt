use Rattle.std.proofs.Common.{◌≡◌, ◌++◌, inl, refl, sym, subst, take-append-drop, arith}
use Rattle.live_script.specs.declared.script_fault.ScriptFault.{ScriptFault}
use Rattle.live_script.specs.declared.script_fault.ScriptFault.TheVariants.{Memory}
use Rattle.live_script.specs.Scripts.{publish_line}
use Rattle.live_script.specs.ScriptRefusals.{IsRefusedAfter}
use Rattle.live_script.proofs.TableLines.{ends_too_early, table_refused}
use Rattle.live_script.proofs.script.take_table.Goals as goal

pub returns-then-bytes-size-clause-refused : goal.returns-then-bytes-size-clause-refused
returns-then-bytes-size-clause-refused c = λ _. inl (refl, ends_too_early c.args.tables c.args.size c.args.bytes.now (omega arith) c.requires.size.0 c.requires.size.1 (omega arith))

pub returns-in-Err-clause-refused : goal.returns-in-Err-clause-refused
returns-in-Err-clause-refused c =
    let bytes = c.args.bytes.now in
    let size = c.args.size in
    let text = c.split_at.result.0.now in
    let rest = c.split_at.result.1.now in
    let whole = take-append-drop size bytes in
    let front = c.split_at.ensures.front in
    let back = c.split_at.ensures.back in
    let cut : bytes ≡ text ++ rest = cc in
    subst (λ (f : ScriptFault). (f ≡ Memory → ⊥) → IsRefusedAfter c.args.tables c.args.line (publish_line size ++ bytes) f) (sym c.after_line.ensures)
    (table_refused c.args.tables c.args.line size bytes text rest c.in-Err.fault (omega arith) c.requires.size.0 c.requires.size.1 (omega arith) cut c.in-Err.ensures.refused)
