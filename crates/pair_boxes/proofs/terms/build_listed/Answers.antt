use Rattle.std.proofs.Common.{◌≡◌, ℕ, ◌+◌, ◌*◌, ◌<◌, ◌∙◌, List, All, Option, None, length, get_or, refl, ap, sym, subst, arith}
use Rattle.grid_quantiser.specs.declared.boxes.CellBox.{CellBox}
use Rattle.grid_quantiser.specs.declared.extents.Extent.{Extent}
use Rattle.plant_record.proofs.lemmas.SoundPlants.{sound as sound_plant}
use Rattle.successor_box.specs.PairExtents.{shifted_by}
use Rattle.pair_boxes.specs.inside.ExtentTables.{IsRelativeExtent, first_of}
use Rattle.pair_boxes.specs.inside.Terms.{IsTermFrom}
use Rattle.pair_boxes.proofs.ListedTerms.{one_variable_more, listed_within, listed_term, own_digit_brings, no_digit_brings}
use Rattle.pair_boxes.proofs.TermTables.{HasVariable}
use Rattle.pair_boxes.proofs.terms.build_listed.Goals as goal
use Rattle.pair_boxes.proofs.terms.build_listed.Goals.{then-shifts+in_ok-push, else-shifts}

pub build_term_list-requires-clause-extents : goal.build_term_list-requires-clause-extents
build_term_list-requires-clause-extents c = subst (All (IsRelativeExtent c.args.of.now.sampled.plant.now c.args.of.now.state)) (sym c.as_slice-extents.ensures) c.requires.table.each

pub returns : goal.returns
returns c =
    let p = c.args.of.now.sampled.plant.now in
    let i : ℕ = c.args.of.now.state in
    let plant = c.args.of.now.sampled.within.plant in
    let sound = sound_plant p plant in
    let held = c.requires.table in
    let state : i < length p.states = omega (arith, c.args.of.now.equation, plant.one_each) in
    let own : ℕ = c.args.own in
    let all : List (Option CellBox) = c.in_ok-terms.terms.items in
    let extents : List (Option Extent) = c.args.table.extents in
    let size : length c.as_slice-extents.result.now ≡ length extents = ap length c.as_slice-extents.ensures in
    let long : length all ≡ own * length extents = c.in_ok-terms.ensures.long ∙ ap (λ (n : ℕ). own * n) size in
    let each : (o k : ℕ) → o < own → k < length extents → IsTermFrom p i o (get_or extents k None) (get_or all (o * length extents + k) None) =
    subst (λ (xs : List (Option Extent)). (o k : ℕ) → o < own → k < length xs → IsTermFrom p i o (get_or xs k None) (get_or all (o * length xs + k) None)) c.as_slice-extents.ensures c.in_ok-terms.ensures.each
    in
    let variables : All (HasVariable p) c.if-shifts.digits.items =
    elim c.if-shifts.branch [
      | then-shifts+in_ok-push w ↦ rw w.digits-is (rw w.in_ok-push.ensures.items (one_variable_more p i c.args.table.digits.items _ state refl held.digits))
      | else-shifts w ↦ rw w.digits-is held.digits
    ]
    in
    let firsts : (cell : ℕ) → first_of p c.if-shifts.digits.items cell ≡ first_of p c.args.table.digits.items cell + shifted_by p i cell * length extents =
    λ cell.
    elim c.if-shifts.branch [
      | then-shifts+in_ok-push w ↦
          rw w.digits-is
          (rw w.in_ok-push.ensures.items (own_digit_brings p i cell c.args.table.digits.items _ (length extents) state refl (omega (arith, size, held.few)) (sym held.shifts ∙ w.if-shifts.true)))
      | else-shifts w ↦ rw w.digits-is (no_digit_brings p i cell c.args.table.digits.items (length extents) (sym held.shifts ∙ w.if-shifts.false))
    ]
    in
    record {
      digits = variables;
      few = omega (arith, long, c.requires.few);
      shifts = held.shifts;
      free = λ is. subst (All (λ n. n ≡ 0)) c.deref.ensures.value (c.are_zero-free.ensures is);
      stride = c.args.of.now.stride_is;
      inputs = held.inputs;
      slot = λ cell u below input. listed_within p sound i c.args.of.now.equation c.args.table held own c.requires.own all long each c.if-shifts.digits.items firsts cell u below input;
      term = λ cell u below input. listed_term p sound i c.args.of.now.equation c.args.table held own c.requires.own all long each c.if-shifts.digits.items firsts cell u below input;
    }
