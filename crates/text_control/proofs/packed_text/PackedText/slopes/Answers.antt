use Rattle.std.proofs.Common.{◌≡◌, List, Option, Some, None, Bor, sym, ap, subst₂}
use Rattle.std.specs.Prelude.{ℤ, MatchOption}
use Rattle.std.specs.Option.{option_copied}
use Rattle.plant_record.specs.Description.{Description}
use Rattle.successor_box.specs.Deviations.{HasNoOverflow, deviations_of}
use Rattle.text_control.specs.Texts.{TextModel}
use Rattle.text_control.specs.inside.Slopes.{AreSlopes}
use Rattle.text_control.proofs.packed_text.PackedText.slopes.Goals as goal

told : (p : Description) (r : Option (Bor (List (List ℤ)))) → AreSlopes p (option_copied r) → MatchOption r (HasNoOverflow p → ⊥) (λ s. (s.now ≡ deviations_of p) × HasNoOverflow p)
told p None are = are
told p (Some s) are = are

pub returns : goal.returns
returns c =
    let plant : c.self.inside.plant ≡ c.args.self.now.plant = ap (λ (t : TextModel). t.plant) c.self.view_is in
    told c.args.self.now.plant c.as_ref.result (subst₂ (λ (p : Description) (o : Option (List (List ℤ))). AreSlopes p o) plant (sym c.as_ref.ensures.value) c.self.invariant.slopes_are)
