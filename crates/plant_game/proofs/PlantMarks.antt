-- The marks that the targets and the obstacles of a plant give, box by box.
use Rattle.std.proofs.Common.{◌≡◌, ◌⊎◌, ℕ, ◌+◌, ◌<◌, arith, sym, ap, subst, ◌∙◌, List, [], length, replicate, get_or, inl, inr}
use Rattle.std.specs.List.{Any}
use Rattle.std.proofs.lemmas.Bool.{cases_lt}
use Rattle.std.proofs.lemmas.List.{get_or_default, get_or-replicate, length-replicate}
use Rattle.grid_quantiser.specs.Axes.{cells_of}
use Rattle.game_core.specs.declared.game.Mark.{Mark}
use Rattle.game_core.specs.declared.game.Mark.TheVariants.{Goal, Obstacle, Plain}
use Rattle.plant_record.specs.declared.aims.StateBox.{StateBox}
use Rattle.plant_record.specs.Description.{Description, axes_of}
use Rattle.plant_record.specs.CellMarks.{IsObstacleCell}
use Rattle.plant_game.specs.Marks.{LiesInSomeTarget, AreMarked, AreMarksOf}
use Rattle.plant_game.proofs.Marking.{marked_likewise, none_marked, more_marked}

abbrev pub no_box : StateBox
no_box = record { low = []; high = [] }

-- one of the first n boxes is so
abbrev pub AnyBefore : (StateBox → Type 0) → List StateBox → ℕ → Type 0
AnyBefore P boxes n = (k : ℕ) × (k < n) × P (get_or boxes k no_box)

module _ (mark : Mark) (P : ℕ → StateBox → Type 0) (boxes : List StateBox) where
  pub none_before : (marks : List Mark) → AreMarked mark (λ c. AnyBefore (P c) boxes 0) marks marks
  none_before marks = none_marked mark (λ c. AnyBefore (P c) boxes 0) marks (λ c any. omega (arith, any.1))

  -- one box more
  pub one_more : (n : ℕ) (b : StateBox) (before between after : List Mark) → get_or boxes n no_box ≡ b →
      AreMarked mark (λ c. AnyBefore (P c) boxes n) before between → AreMarked mark (λ c. P c b) between after → AreMarked mark (λ c. AnyBefore (P c) boxes (n + 1)) before after
  one_more n b before between after here first second =
      marked_likewise mark (λ c. AnyBefore (P c) boxes n ⊎ P c b) (λ c. AnyBefore (P c) boxes (n + 1)) before after
      (λ c below. (
        λ (either : AnyBefore (P c) boxes n ⊎ P c b). elim either [
          | inl any ↦ (any.0, omega (arith, any.1), any.2)
          | inr this ↦ (n, omega arith, subst (P c) (sym here) this)
        ],
        λ (any : AnyBefore (P c) boxes (n + 1)). elim (cases_lt any.0 n) [
          | inl earlier ↦ inl (any.0, earlier, any.2)
          | inr past ↦
              let last : any.0 ≡ n = omega (arith, past, any.1) in
              inr (subst (P c) (ap (λ (k : ℕ). get_or boxes k no_box) last ∙ here) any.2)
        ],
      ))
      (more_marked mark (λ c. AnyBefore (P c) boxes n) (λ c. P c b) before between after first second)

  -- all boxes
  pub any_marked : (n : ℕ) (before after : List Mark) → n ≡ length boxes → AreMarked mark (λ c. AnyBefore (P c) boxes n) before after → AreMarked mark (λ c. Any (P c) boxes) before after
  any_marked n before after all =
      marked_likewise mark (λ c. AnyBefore (P c) boxes n) (λ c. Any (P c) boxes) before after
      (λ c below. (
        λ (any : AnyBefore (P c) boxes n).
            let b : StateBox = get_or boxes any.0 no_box in
            let lt : any.0 < length boxes = omega (arith, any.1, all) in
            (any.0, b, lt, get_or_default boxes any.0 b no_box lt, any.2),
        λ (any : Any (P c) boxes).
            let same : any.1 ≡ get_or boxes any.0 no_box = sym any.3 ∙ get_or_default boxes any.0 any.1 no_box any.2 in
            (any.0, omega (arith, any.2, all), subst (P c) same any.4),
      ))

-- goals first, and then obstacles
pub both_marked : (p : Description) (n : ℕ) (between after : List Mark) → n ≡ cells_of (axes_of p) → AreMarked Goal (LiesInSomeTarget p) (replicate n Plain) between → AreMarked Obstacle (IsObstacleCell p) between after → AreMarksOf p after
both_marked p n between after cells goals obstacles = record {
  one_each = obstacles.long ∙ goals.long ∙ length-replicate n Plain ∙ cells;
  each = λ c below.
      let short : c < n = omega (arith, below, cells) in
      let here : c < length (replicate n Plain) = omega (arith, short, length-replicate n Plain) in
      let there : c < length between = omega (arith, here, goals.long) in
      let plain : get_or (replicate n Plain) c Plain ≡ Plain = get_or-replicate n c Plain Plain short in
      elim (obstacles.each c there) [
        | inl met ↦ (
          (λ goal. absurd (let is = met.1 in cc), λ goal. absurd (goal.0 met.0)),
          (λ obstacle. met.0, λ obstacle. met.1),
        )
        | inr free ↦ elim (goals.each c here) [
          | inl held ↦ (
            (λ goal. (free.0, held.0), λ goal. free.1 ∙ held.1),
            (λ obstacle. absurd (let is = free.1 ∙ held.1 in cc), λ obstacle. absurd (free.0 obstacle)),
          )
          | inr bare ↦ (
            (λ goal. absurd (let is = free.1 ∙ bare.1 ∙ plain in cc), λ goal. absurd (bare.0 goal.1)),
            (λ obstacle. absurd (let is = free.1 ∙ bare.1 ∙ plain in cc), λ obstacle. absurd (free.0 obstacle)),
          )
        ]
      ];
}
