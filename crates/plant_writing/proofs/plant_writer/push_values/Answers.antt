use Rattle.std.proofs.Common.{◌<◌, ◌∷◌, get_or, length, pos, sym, ◌∙◌, arith, rules}
use Rattle.std.specs.Prelude.{FitsSigned}
use Rattle.std.specs.Fmt.{signed_decimal}
use Rattle.std.specs.Int.{w128}
use Rattle.std.proofs.lemmas.Int.{to_z-of_z}
use Rattle.std.proofs.lemmas.List.{append-nil, get_or_default}
use Rattle.plant_writing.proofs.lemmas.WrittenLines.{pieces_more, pieces_all}
use Rattle.plant_writing.proofs.plant_writer.push_values.Goals as goal

pub loop-value-init : goal.loop-value-init
loop-value-init c = sym (append-nil c.args.text.now.items)

pub loop-value-preserved : goal.loop-value-preserved
loop-value-preserved c =
    let values = c.args.values.now in
    let i = c.loop-value.value-index in
    let z = get_or values i (pos 0) in
    let within : i < length values = omega arith in
    let fits : FitsSigned w128 z = search rules in
    rw (c.in_ok-push_spaced.ensures, to_z-of_z w128 z fits, c.loop-value.invariant)
    (pieces_more (λ y. 32 ∷ signed_decimal y) c.args.text.now.items values i z within (get_or_default values i (pos 0) z within))

pub returns : goal.returns
returns c = c.loop-value.invariant ∙ pieces_all (λ z. 32 ∷ signed_decimal z) c.args.text.now.items c.args.values.now c.loop-value.value-index c.loop-value-test.false
