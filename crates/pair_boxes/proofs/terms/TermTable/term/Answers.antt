use Rattle.std.proofs.Common.{◌≡◌, ℕ, ◌+◌, ◌<◌, ◌∙◌, List, Option, None, length, get_or, refl, sym, subst, subst₂, arith}
use Rattle.std.proofs.lemmas.List.{get_or_default}
use Rattle.grid_quantiser.specs.declared.extents.Extent.{Extent}
use Rattle.plant_record.proofs.lemmas.SoundPlants.{sound as sound_plant}
use Rattle.successor_box.specs.PairExtents.{shifted_by, IsExtentBeforeAt}
use Rattle.pair_boxes.specs.declared.terms.Terms.{Terms}
use Rattle.pair_boxes.specs.inside.ExtentTables.{IsRelativeExtent}
use Rattle.pair_boxes.specs.inside.Terms.{count_of, HasTermAt, IsTermAt}
use Rattle.pair_boxes.proofs.RelativeExtents.{extended_at}
use Rattle.pair_boxes.proofs.TermTables.{has_term, slot_within, own_below}
use Rattle.pair_boxes.proofs.terms.TermTable.term.Goals as goal

pub term_of-requires-clause-indices : goal.term_of-requires-clause-indices
term_of-requires-clause-indices c =
    let p = c.args.of.now.sampled.plant.now in
    own_below p (sound_plant p c.args.of.now.sampled.within.plant) c.args.of.now.state c.args.of.now.equation c.args.self.now c.requires.table c.args.first c.args.own c.args.input (c.args.first + get_or c.args.self.now.inputs.items c.args.input 0) refl c.requires.cell.0 c.requires.cell.1

pub term_of-requires-clause-extent : goal.term_of-requires-clause-extent
term_of-requires-clause-extent c =
    let p = c.args.of.now.sampled.plant.now in
    let i : ℕ = c.args.of.now.state in
    let sound = sound_plant p c.args.of.now.sampled.within.plant in
    let cell = c.requires.cell in
    let slot : ℕ = c.args.first + c.index.result.now in
    let slot_is : slot ≡ c.args.first + get_or c.args.self.now.inputs.items c.args.input 0 = omega (arith, c.index.ensures, get_or_default c.args.self.now.inputs.items c.args.input 0 c.index.result.now (omega (arith, c.requires.input, c.requires.table.inputs))) in
    let before = subst (λ (terms : Terms). HasTermAt p cell.0 c.args.input i terms slot) c.in-Shifted.is (has_term p sound i c.args.of.now.equation c.args.self.now c.requires.table c.args.first c.args.own c.args.input slot slot_is cell.0 c.args.input cell.1 c.requires.input refl) in
    subst (λ (extents : List (Option Extent)). IsRelativeExtent p i (get_or extents slot None)) (sym c.as_slice.ensures)
    (extended_at p sound i c.args.of.now.equation cell.0 c.args.input (shifted_by p i cell.0) (get_or c.in-Shifted.extents slot None) before)

pub returns-in-Listed : goal.returns-in-Listed
returns-in-Listed c = λ cell u brought below same.
    let p = c.args.of.now.sampled.plant.now in
    let i : ℕ = c.args.of.now.state in
    let sound = sound_plant p c.args.of.now.sampled.within.plant in
    let slot : ℕ = c.args.first + c.index.result.now in
    let slot_is : slot ≡ c.args.first + get_or c.args.self.now.inputs.items c.args.input 0 = omega (arith, c.index.ensures, get_or_default c.args.self.now.inputs.items c.args.input 0 c.index.result.now (omega (arith, c.requires.input, c.requires.table.inputs))) in
    let short : slot < length c.in-Listed.terms.items = subst (λ (terms : Terms). slot < count_of terms) c.in-Listed.is (slot_within p sound i c.args.of.now.equation c.args.self.now c.requires.table c.args.first c.args.own c.args.input slot slot_is cell brought c.requires.input) in
    subst (IsTermAt p cell u i) (get_or_default c.in-Listed.terms.items slot None c.index-in-Listed.result.now short ∙ sym c.index-in-Listed.ensures)
    (subst (λ (terms : Terms). HasTermAt p cell u i terms slot) c.in-Listed.is (has_term p sound i c.args.of.now.equation c.args.self.now c.requires.table c.args.first c.args.own c.args.input slot slot_is cell u brought below same))

pub returns-in-Shifted : goal.returns-in-Shifted
returns-in-Shifted c = λ cell u brought below same.
    let p = c.args.of.now.sampled.plant.now in
    let i : ℕ = c.args.of.now.state in
    let sound = sound_plant p c.args.of.now.sampled.within.plant in
    let slot : ℕ = c.args.first + c.index.result.now in
    let slot_is : slot ≡ c.args.first + get_or c.args.self.now.inputs.items c.args.input 0 = omega (arith, c.index.ensures, get_or_default c.args.self.now.inputs.items c.args.input 0 c.index.result.now (omega (arith, c.requires.input, c.requires.table.inputs))) in
    let before = subst (λ (terms : Terms). HasTermAt p cell u i terms slot) c.in-Shifted.is (has_term p sound i c.args.of.now.equation c.args.self.now c.requires.table c.args.first c.args.own c.args.input slot slot_is cell u brought below same) in
    c.term_of.ensures cell u
    (subst₂ (λ (n : ℕ) (extents : List (Option Extent)). IsExtentBeforeAt p cell u i n (get_or extents slot None)) (sym brought.shifts) (sym c.as_slice.ensures) before)
