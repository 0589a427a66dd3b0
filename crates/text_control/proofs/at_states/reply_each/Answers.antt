use Rattle.std.proofs.Common.{◌≡◌, ◌*◌, ◌<◌, ℕ, length, sym, ap, ◌∙◌, w32, arith, rules}
use Rattle.std.specs.Prelude.{ℤ, FitsSigned}
use Rattle.std.proofs.lemmas.Int.{to_z-of_z}
use Rattle.std.proofs.lemmas.List.{length-set}
use Rattle.plant_record.specs.Description.{Description}
use Rattle.text_control.proofs.Replies.{as_long, later_next, encodes_at}
use Rattle.text_control.proofs.at_states.reply_each.Goals as goal

pub loop-k-preserved : goal.loop-k-preserved
loop-k-preserved c =
    let t = c.args.text.now in
    let k : ℕ = c.loop-k.k in
    let count : ℕ = length c.args.replies.now in
    let capacity : ℕ = c.input_variables-inputs_each.result in
    let before = c.loop-k.invariant in
    let is_size : c.states-states_each.result ≡ length t.plant.states = c.states-states_each.ensures ∙ ap (λ (p : Description). length p.states) c.plant.ensures.plant in
    let is_capacity : capacity ≡ length t.plant.inputs = c.input_variables-inputs_each.ensures ∙ ap (λ (p : Description). length p.inputs) c.plant-2.ensures.plant in
    let lt : k < count = omega (arith, c.loop-k-test.true) in
    let long : length c.loop-k.inputs ≡ count * capacity = before.wide ∙ c.requires.inputs ∙ ap (λ (m : ℕ). count * m) (sym is_capacity) in
    let fits : FitsSigned w32 c.number.result = search rules in
    let number : ℤ = mir.Val.to_z w32 (mir.Val.of_z w32 c.number.result) in
    record {
      long = length-set c.loop-k.replies k number ∙ before.long;
      wide = as_long k count capacity c.loop-k.inputs c.control.new.input long lt c.control.auto.input ∙ before.wide;
      done = encodes_at k count capacity c.loop-k.inputs c.control.new.input long lt c.control.auto.input t c.states-states_each.result c.args.states.now c.args.inputs.now c.loop-k.replies number c.control.result (omega (arith, lt, before.long)) (to_z-of_z w32 c.number.result fits ∙ c.number.ensures) before.later c.control.ensures.reply c.control.ensures.text is_size is_capacity before.done;
      later = later_next k count capacity c.loop-k.inputs c.control.new.input long lt c.control.auto.input c.args.inputs.now before.later;
    }
