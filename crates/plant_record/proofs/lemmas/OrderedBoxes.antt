-- The boxes of a plant are ordered in its grid.
use Rattle.std.proofs.Common.{◌≡◌, ℕ, List, [], ◌∷◌, ◌++◌, length, take, sym, subst, ◌∙◌, Bool, true, false, not, refl, arith}
use Rattle.std.specs.Prelude.{ℤ, IsTrue, ◌↔◌}
use Rattle.std.specs.List.{All, Any, AllZip}
use Rattle.std.proofs.lemmas.List.Elements.{All-weaker}
use Rattle.grid_quantiser.specs.declared.axis.Axis.{Axis}
use Rattle.grid_quantiser.specs.CellBoxes.{IsAtMost, LiesInside}
use Rattle.plant_record.specs.declared.aims.StateBox.{StateBox}
use Rattle.plant_record.specs.Description.{Description, axes_of}
use Rattle.plant_record.specs.CellMarks.{IsGoalCell, IsObstacleCell}
use Rattle.plant_record.specs.StateBoxes.{AreEnds, IsStateBox}

at_most : (axes : List Axis) (low high zeros rest : List ℤ) → length low ≡ length axes → AllZip AreEnds low high → IsAtMost axes (low ++ zeros) (high ++ rest)
at_most [] low high zeros rest e ends = tt
at_most (a ∷ axes) [] high zeros rest e ends = absurd (omega (arith, e))
at_most (a ∷ axes) (x ∷ low) [] zeros rest e ends = absurd ends
at_most (a ∷ axes) (x ∷ low) (y ∷ high) zeros rest e ends = (ends.0.2, at_most axes low high zeros rest (omega (arith, e)) ends.1)

ordered : (n : ℕ) (axes : List Axis) (low high zeros rest : List ℤ) → low ≡ take n low ++ zeros → high ≡ take n high ++ rest → length (take n low) ≡ length axes → AllZip AreEnds (take n low) (take n high) → IsAtMost axes low high
ordered n axes low high zeros rest low-is high-is count ends =
    subst (λ (y : List ℤ). IsAtMost axes low y) (sym high-is) (subst (λ (x : List ℤ). IsAtMost axes x (take n high ++ rest)) (sym low-is) (at_most axes (take n low) (take n high) zeros rest count ends))

box_ordered : (n : ℕ) (axes : List Axis) (b : StateBox) → length axes ≡ n → IsStateBox n b → IsAtMost axes b.low b.high
box_ordered n axes b count h = ordered n axes b.low b.high _ _ h.low_rest h.high_rest (h.low_count ∙ sym count) h.ends

pub boxes_ordered : (n : ℕ) (axes : List Axis) (boxes : List StateBox) → length axes ≡ n → All (IsStateBox n) boxes → All (λ (b : StateBox). IsAtMost axes b.low b.high) boxes
boxes_ordered n axes boxes count each = All-weaker (IsStateBox n) (λ (b : StateBox). IsAtMost axes b.low b.high) (λ b. box_ordered n axes b count) boxes each

-- a cell that lies in a target is a goal where it is off the obstacles
pub goal_is : (p : Description) (c : ℕ) (blocked inside : Bool) → inside ≡ true → (IsTrue blocked ↔ IsObstacleCell p c)
    → (IsTrue inside ↔ Any (λ (b : StateBox). LiesInside (axes_of p) c b.low b.high) p.targets) → IsTrue (not blocked) ↔ IsGoalCell p c
goal_is p c true inside on obstacle target = ((λ r. cc), (λ g. absurd (g.0 (obstacle.0 refl))))
goal_is p c false inside on obstacle target = ((λ r. ((λ o. let e = obstacle.1 o in cc), target.0 on)), (λ g. refl))
