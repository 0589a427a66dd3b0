-- The boxes of some pairs among all.
use Rattle.std.proofs.Common.{◌≡◌, ℕ, ◌+◌, ◌-◌, ◌<◌, ◌≤◌, List, ◌++◌, All, length, replicate, get_or, Option, None, ◌∙◌, arith}
use Rattle.std.proofs.lemmas.List.{length-append, length-replicate, get_or_append_left, get_or-append_right}
use Rattle.std.proofs.lemmas.List.Elements.{All-append, All-replicate}
use Rattle.std.proofs.lemmas.List.Sums.{sum_by-append}
use Rattle.std.proofs.lemmas.List.Folds.{sum_by-replicate}
use Rattle.grid_quantiser.specs.declared.axis.Axis.{Axis}
use Rattle.grid_quantiser.specs.declared.boxes.CellBox.{CellBox}
use Rattle.successor_box.specs.SuccessorBoxes.{cells_in}
use Rattle.game_parts.specs.inside.Padded.{padded}
use Rattle.plant_game.specs.BoxGame.{edges_of}

module _ (first : ℕ) (boxes : List (Option CellBox)) (pairs : ℕ) where
  abbrev none : List (Option CellBox)
  none = replicate first None

  abbrev rest : List (Option CellBox)
  rest = replicate (pairs - (first + length boxes)) None

  -- what is read of a pair that has one
  from_first : (pair : ℕ) → first ≤ pair → get_or (padded first boxes pairs) pair None ≡ get_or (boxes ++ rest) (pair - first) None
  from_first pair le = get_or-append_right none (boxes ++ rest) first pair None (length-replicate first None) le

  pub here : (pair : ℕ) → first ≤ pair → pair - first < length boxes → get_or (padded first boxes pairs) pair None ≡ get_or boxes (pair - first) None
  here pair le lt = from_first pair le ∙ get_or_append_left boxes rest None (pair - first) lt

  pub long : first + length boxes ≤ pairs → length (padded first boxes pairs) ≡ pairs
  long fits = omega (arith, fits, length-append none (boxes ++ rest), length-append boxes rest, length-replicate {A = Option CellBox} first None, length-replicate {A = Option CellBox} (pairs - (first + length boxes)) None)

  -- what holds of each box, and where there is none, holds of all
  pub all : (P : Option CellBox → Type 0) → P None → All P boxes → All P (padded first boxes pairs)
  all P nothing each = All-append P none (boxes ++ rest) (All-replicate P first None nothing) (All-append P boxes rest each (All-replicate P (pairs - (first + length boxes)) None nothing))

  pub edges : (axes : List Axis) → edges_of axes (padded first boxes pairs) ≡ edges_of axes boxes
  edges axes =
      let f : Option CellBox → ℕ = λ b. length (cells_in axes b) in
      omega (arith, sum_by-append f none (boxes ++ rest), sum_by-append f boxes rest, sum_by-replicate f first None, sum_by-replicate f (pairs - (first + length boxes)) None)
