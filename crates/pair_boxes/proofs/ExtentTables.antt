-- Tables of the extents of all boxes.
use Rattle.std.proofs.Common.{◌≡◌, ℕ, ◌+◌, ◌^◌, ◌<◌, ◌≤◌, None, length, get_or, sym, ap, subst, ◌∙◌, arith}
use Rattle.std.proofs.lemmas.List.{get_or_default}
use Rattle.plant_record.specs.Description.{Description, vectors_of}
use Rattle.plant_record.specs.Plants.{IsPlant}
use Rattle.plant_record.specs.Soundness.{IsSound}
use Rattle.successor_box.specs.PairExtents.{index_in, shifts_along}
use Rattle.pair_boxes.specs.declared.extent_table.ExtentTable.{ExtentTable}
use Rattle.pair_box.specs.PlantBoxes.{pairs_of_plant}
use Rattle.pair_boxes.specs.inside.Digits.{slot_at, HoldSlots, AreDigitsOf}
use Rattle.pair_boxes.specs.inside.ExtentTables.{first_of, IsRelativeExtent, IsExtentTableOf, HoldExtentsFrom}
use Rattle.pair_boxes.proofs.EquationDigits.{variables, slot_below}
use Rattle.pair_boxes.proofs.PackedDigits.{slot_sums}
use Rattle.pair_boxes.proofs.PairDigits.{index_terms}

-- what was found for each slot is a table of all extents
module _ (p : Description) (plant : IsPlant p) (sound : IsSound p) (limit : pairs_of_plant p ≤ 2 ^ 22) (i : ℕ) (t : ExtentTable) (slots : ℕ) (are : AreDigitsOf p i t.digits.items slots)
    (inputs_long : length t.inputs.items ≡ vectors_of p.inputs) (inputs_are : HoldSlots p t.digits.items t.inputs.items)
    (shifts : t.shifts ≡ shifts_along p i) (extents_long : length t.extents ≡ slots) (extents_are : HoldExtentsFrom p i t.digits.items 0 t.extents) where
  -- a pair has the slot that its cell and its input bring
  slot_of_pair : (c u : ℕ) → u < vectors_of p.inputs → slot_at t.digits.items (index_in p c u) ≡ first_of p t.digits.items c + get_or t.inputs.items u 0
  slot_of_pair c u input =
      slot_sums (index_in p c u) (index_in p c 0) (index_in p 0 u) (index_terms p c u) t.digits.items ∙ ap (λ (n : ℕ). first_of p t.digits.items c + n) (sym (inputs_are u input))

  has_slot : (c u : ℕ) → u < vectors_of p.inputs → first_of p t.digits.items c + get_or t.inputs.items u 0 < length t.extents
  has_slot c u input = omega (arith, slot_of_pair c u input, slot_below p plant sound i t.digits.items slots are c u, extents_long)

  pub table_of : IsExtentTableOf p i t
  table_of = record {
    digits = variables p i t.digits.items are.each;
    few = omega (arith, limit, extents_long, are.few);
    each = λ k d short. subst (IsRelativeExtent p i) (get_or_default t.extents k None d short) (extents_are k short).relative;
    shifts = shifts;
    inputs = inputs_long;
    slot = λ c u cell input. has_slot c u input;
    extent = λ c u cell input. (extents_are (first_of p t.digits.items c + get_or t.inputs.items u 0) (has_slot c u input)).each c u cell input (slot_of_pair c u input ∙ (let here : first_of p t.digits.items c + get_or t.inputs.items u 0 ≡ 0 + (first_of p t.digits.items c + get_or t.inputs.items u 0) = omega arith in here));
  }
