-- Whether a cell lies in a target is decided, by its least and its greatest point.
use Rattle.std.proofs.Common.{inl, inr, ◌≡◌, ◌⊎◌, ℕ, ◌<◌, List, [], ◌∷◌, length, All, arith, refl, ℤ}
use Rattle.std.proofs.lemmas.Int.{ints, by_lt_z}
use Rattle.grid_quantiser.specs.declared.axis.Axis.{Axis}
use Rattle.grid_quantiser.specs.Axes.{IsAxis, cells_of}
use Rattle.grid_quantiser.specs.CellBoxes.{IsAtMost, LiesInside}
use Rattle.grid_quantiser.specs.Cells.{low_of, high_of}
use Rattle.game_core.specs.declared.game.Mark.{Mark}
use Rattle.game_core.specs.declared.game.Mark.TheVariants.{Goal, Obstacle, Plain}
use Rattle.game_core.specs.Game.{Game, mark_of}
use Rattle.plant_record.specs.Description.{Description, axes_of}
use Rattle.plant_record.specs.CellMarks.{IsObstacleCell}
use Rattle.plant_record.specs.Plants.{IsPlant}
use Rattle.plant_game.specs.Abstraction.{IsGameOf}
use Rattle.grid_quantiser.proofs.CellPoints.{ends_from_inside, inside_from_ends}
use Rattle.plant_record.proofs.lemmas.SoundPlants.{sound}
use Rattle.turn_rows.specs.Targets.{target_at, IsInTarget}

at_most_told : (axes : List Axis) (xs ys : List ℤ) → IsAtMost axes xs ys ⊎ (IsAtMost axes xs ys → ⊥)
at_most_told [] xs ys = inl tt
at_most_told (a ∷ axes) [] ys = inr (λ h. h)
at_most_told (a ∷ axes) (x ∷ xs) [] = inr (λ h. h)
at_most_told (a ∷ axes) (x ∷ xs) (y ∷ ys) =
    by_lt_z y x (λ lt. inr (λ h. omega (arith, ints, lt, h.0)))
    (λ le. elim (at_most_told axes xs ys) [
      | inl rest ↦ inl (le, rest)
      | inr out ↦ inr (λ h. out h.1)
    ])

inside_told : (axes : List Axis) (c : ℕ) (lo hi : List ℤ) → All IsAxis axes → c < cells_of axes → LiesInside axes c lo hi ⊎ (LiesInside axes c lo hi → ⊥)
inside_told axes c lo hi each below =
    elim (at_most_told axes lo (low_of axes c)) [
      | inr out ↦ inr (λ h. out (ends_from_inside axes c lo hi each below h).0)
      | inl first ↦ elim (at_most_told axes (high_of axes c) hi) [
        | inr out ↦ inr (λ h. out (ends_from_inside axes c lo hi each below h).1)
        | inl last ↦ inl (inside_from_ends axes c lo hi each first last)
      ]
    ]

-- whether a cell is an obstacle is decided by its mark
obstacle_told : (p : Description) (g : Game) → IsGameOf p g → (c : ℕ) → c < g.cells → IsObstacleCell p c ⊎ (IsObstacleCell p c → ⊥)
obstacle_told p g game c lc = by_mark (mark_of g c) refl
  where
    by_mark : (m : Mark) → mark_of g c ≡ m → IsObstacleCell p c ⊎ (IsObstacleCell p c → ⊥)
    by_mark Obstacle e = inl ((game.marks c lc).1.0 e)
    by_mark Goal e = inr (λ o. let f = (game.marks c lc).1.1 o in cc)
    by_mark Plain e = inr (λ o. let f = (game.marks c lc).1.1 o in cc)

-- whether a cell lies in a target is decided
pub targets_are_told : (p : Description) (g : Game) → IsPlant p → IsGameOf p g → (j c : ℕ) → j < length p.targets → c < g.cells → IsInTarget p j c ⊎ (IsInTarget p j c → ⊥)
targets_are_told p g plant game j c lj lc =
    elim (obstacle_told p g game c lc) [
      | inl obstacle ↦ inr (λ t. t.1 obstacle)
      | inr clear ↦ elim (inside_told (axes_of p) c (target_at p j).low (target_at p j).high (sound p plant).axes.each (omega (arith, lc, game.cells))) [
        | inl inside ↦ inl (lj, clear, inside)
        | inr out ↦ inr (λ t. out t.2)
      ]
    ]
