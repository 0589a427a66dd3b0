use Rattle.std.proofs.Common.{◌≡◌, ◌≤◌, ℕ, List, length, refl, sym, ap, subst, arith}
use Rattle.base.proofs.Results.{passed_on}
use Rattle.controller_table.specs.declared.text_kind.TextKind.{TextKind}
use Rattle.controller_table.specs.KindTexts.{IsTextOf}
use Rattle.text_control.specs.declared.control_fault.ControlFault.TheVariants.{Memory}
use Rattle.text_control.specs.Texts.{IsReadFrom, IsNoTextFor, control_fault}
use Rattle.text_control.proofs.RefusedTexts.{refused_after, too_long, none_too_long, none_begins}
use Rattle.text_control.proofs.reading.read_text.Goals as goal

pub returns-then-bytes-gt-TABLE_LIMIT-clause-refused : goal.returns-then-bytes-gt-TABLE_LIMIT-clause-refused
returns-then-bytes-gt-TABLE_LIMIT-clause-refused c = let long = c.if-bytes-gt-TABLE_LIMIT.true in λ _. none_too_long c.args.bytes.now c.in_default.ensures (λ short. omega (arith, short, long))

pub returns-in_default-clause-refused : goal.returns-in_default-clause-refused
returns-in_default-clause-refused c = λ _. none_begins c.args.bytes.now c.in_default.ensures c.if-bytes-gt-TABLE_LIMIT.false

pub returns-then-bytes-most_bytes-clause-refused : goal.returns-then-bytes-most_bytes-clause-refused
returns-then-bytes-most_bytes-clause-refused c =
    let long = c.if-bytes-most_bytes.true in
    let most = c.most_bytes.ensures in
    λ _. too_long c.args.bytes.now c.in-Some.kind c.in-Some.rest.now c.in-Some.ensures (λ short. omega (arith, short, long, most))

pub returns-in_err-text-clause-refused : goal.returns-in_err-text-clause-refused
returns-in_err-text-clause-refused c =
    let bytes = c.args.bytes.now in
    let fault = c.in_err-text.field-0.0 in
    let short = subst (λ (n : ℕ). length bytes ≤ n) c.most_bytes.ensures c.if-bytes-most_bytes.false in
    passed_on c.from_residual.result (control_fault fault) (λ f. (f ≡ Memory → ⊥) → IsNoTextFor bytes f) c.from_residual.ensures.1 (λ some.
    refused_after bytes c.in-Some.kind c.in-Some.rest.now fault c.in-Some.ensures short (c.in_err-text.ensures.refused (λ e. some (ap control_fault e))))

pub returns-clause-read : goal.returns-clause-read
returns-clause-read c =
    let bytes = c.args.bytes.now in
    let text = c.in_ok-text.text in
    let read = subst (λ (x : List ℕ). IsTextOf c.in-Some.kind x text.plant text.turns) (sym c.in-Some.ensures) c.in_ok-text.ensures.read in
    subst (IsReadFrom bytes) (sym c.in_ok-of.ensures) (subst (λ (kind : TextKind). IsTextOf kind bytes text.plant text.turns) (sym c.in_ok-text.ensures.kind) read, refl)
