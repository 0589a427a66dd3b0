use Rattle.std.proofs.Common.{◌≡◌, length, map, sym, ◌∙◌, arith}
use Rattle.std.proofs.lemmas.List.{length-map}
use Rattle.std.proofs.lemmas.Slice.Eq.{bytes_eq-Decides}
use Rattle.fixed_expr.specs.Expression.{expression_of}
use Rattle.plant_text.proofs.lemmas.Lists.{named_at}
use Rattle.plant_text.proofs.draft.Draft.is_next.Goals as goal

pub returns-in-Some : goal.returns-in-Some
returns-in-Some c =
    let d = c.args.self.now in
    let s = c.in-Some.next.now in
    let equations = length (map expression_of d.equations.items) in
    let count : c.len.result ≡ equations = omega (arith, c.len.ensures, d.equations.ok.0, length-map d.equations.items expression_of) in
    let at = rw (c.deref.ensures.value, count) at c.in-Some.ensures.lookup.3 in
    let name = named_at d.variables.states.items d.variables.inputs.items d.variables.noises.items equations s at.0 (at.1 s) in
    let same = bytes_eq-Decides c.as_bytes.result.now c.args.state.now in
    (λ yes. (at.0, name ∙ sym c.as_bytes.ensures ∙ same.0 (sym c.eq.ensures ∙ yes)), λ f. c.eq.ensures ∙ same.1 (c.as_bytes.ensures ∙ sym name ∙ f.1))
