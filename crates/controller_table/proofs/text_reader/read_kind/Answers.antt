use Rattle.std.proofs.Common.{inl, ◌++◌, refl, ap, ◌∙◌}
use Rattle.controller_table.specs.declared.text_kind.TextKind.{TextKind}
use Rattle.controller_table.specs.TextKinds.{first_line}
use Rattle.controller_table.proofs.text_reader.read_kind.Goals as goal

pub returns-in_default-clause-refused : goal.returns-in_default-clause-refused
returns-in_default-clause-refused c =
    let short = rw c.most_bytes.ensures at c.if-bytes-most_bytes.false in
    λ _. (short, inl (refl, λ kind is first. c.in_default.ensures first.0 (first.1 ∙ ap (λ (k : TextKind). first_line k ++ first.0) is)))
