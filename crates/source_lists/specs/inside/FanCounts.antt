-- How cells are counted, box by box and part by part.
use Rattle.std.specs.Prelude.{◌≡◌, ◌≢◌, ℕ, zero, suc, ◌+◌, max, ◌<◌, ◌≤◌, List, ◌++◌, length, slice_index, sum, Option}
use Rattle.std.specs.List.{All}
use Rattle.grid_quantiser.specs.declared.axis.Axis.{Axis}
use Rattle.grid_quantiser.specs.declared.boxes.CellBox.{CellBox}
use Rattle.plant_game.specs.BoxGame.{edges_of}
use Rattle.source_lists.specs.Fans.{IsCounted, AreShapes, AreFansOf}

-- one and the same item stands after those before
abbrev pub GoesOnIn : {A : Type 0} → A → List A → List A → Type 0
GoesOnIn empty before after = (more : List _) × (after ≡ before ++ more) × All (λ item. item ≡ empty) more

-- An empty item stands after those before, as far as an index.
pub record Reaches {A : Type 0} (empty : A) (index : ℕ) (before after : List A) : Type 0 where
  pub within : index < length after
  pub few : length after ≤ max (length before) (index + 1)
  pub same : GoesOnIn empty before after

-- Each shape that was counted still is, and each count but 0 is that of a shape.
pub record KeepsFans (axes : List Axis) (before after : List ℕ) : Type 0 where
  pub shapes : AreShapes axes after
  pub kept : (distance : ℕ) → IsCounted axes before distance → IsCounted axes after distance

-- counts but that of a distance stay
abbrev pub AreSameBut : ℕ → List ℕ → List ℕ → Type 0
AreSameBut distance before after = (k : ℕ) → k ≢ distance → slice_index after k ≡ slice_index before k

-- the first of two counts, and where it is 0 the other
abbrev pub known_count : ℕ → ℕ → ℕ
known_count zero other = other
known_count (suc n) other = suc n

-- Where there was no count, there is that of other boxes, and the counts are no more together.
pub record AreMerged (before other after : List ℕ) : Type 0 where
  pub few : length after ≤ max (length before) (length other)
  pub each : (distance : ℕ) → slice_index after distance ≡ known_count (slice_index before distance) (slice_index other distance)
  pub total : sum after ≤ sum before + sum other

-- Counts are those of boxes, and so many edges they have.
pub record CountBoxes (axes : List Axis) (boxes : List (Option CellBox)) (fans : List ℕ) (edges : ℕ) : Type 0 where
  pub fans_are : AreFansOf axes boxes fans
  pub edges_are : edges ≡ edges_of axes boxes
