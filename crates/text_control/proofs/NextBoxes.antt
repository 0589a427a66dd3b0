-- A next state lies in its box where it lies in the box of any input vector with the values.
use Rattle.std.proofs.Common.{◌≡◌, ℕ, ◌<◌, Some, sym, subst, ◌∙◌}
use Rattle.grid_quantiser.specs.Cells.{IsInDomain, cell_of}
use Rattle.plant_record.specs.Description.{Description, axes_of, vector_of, vectors_of}
use Rattle.successor_box.specs.Deviations.{HasNoOverflow}
use Rattle.successor_box.specs.SuccessorBoxes.{IsBoxOf}
use Rattle.text_control.specs.declared.follow.Follow.TheVariants.{Outside}
use Rattle.text_control.specs.Followed.{FollowedSample, IsInItsBox, IsSized, IsFollow}
use Rattle.text_control.specs.inside.Slopes.{LiesInBox}
use Rattle.text_control.proofs.SameBox.{same_box}

its_box : (p : Description) (s : FollowedSample) (c u : ℕ) → c ≡ cell_of (axes_of p) s.state → s.values ≡ vector_of p.inputs u → IsInItsBox p s → LiesInBox p c u s.next
its_box p s c u cell are b = (b.box, same_box p c b.input u (Some b.box) (sym b.are ∙ are) (subst (λ (d : ℕ). IsBoxOf p d b.input (Some b.box)) (sym cell) b.is_box), b.inside, b.among)

-- where it doesn't lie in the box of the vector that is found, it lies in none
pub outside : (q p : Description) (s : FollowedSample) (c u : ℕ) → q ≡ p → IsSized q s → IsInDomain (axes_of q) s.state → c ≡ cell_of (axes_of q) s.state → (u < vectors_of q.inputs) × (s.values ≡ vector_of q.inputs u) → HasNoOverflow p → (LiesInBox q c u s.next → ⊥)
    → IsFollow p s Outside
outside q p s c u same sized inside cell vector fits out =
    subst (λ (d : Description). HasNoOverflow d → IsFollow d s Outside) same (λ fit. (sized, (inside, (u, vector.0, vector.1)), fit, λ b. out (its_box q s c u cell vector.1 b))) fits
