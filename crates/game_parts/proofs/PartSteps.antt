-- The loop over the cells of a part.
use Rattle.std.proofs.Common.{◌≡◌, ℕ, ◌+◌, ◌-◌, ◌*◌, ◌<◌, ◌≤◌, min, List, ◌++◌, Option, length, take, drop, arith}
use Rattle.std.proofs.lemmas.Grind.{common_steps}
use Rattle.std.proofs.lemmas.List.{length-take}
use Rattle.std.proofs.lemmas.Nat.{mul-le}
use Rattle.grid_quantiser.specs.declared.boxes.CellBox.{CellBox}
use Rattle.game_core.specs.declared.game.Mark.{Mark}
use Rattle.game_core.specs.Game.{Game}
use Rattle.plant_record.specs.Description.{Description, axes_of, vectors_of}
use Rattle.source_lists.specs.declared.known_shapes.KnownShapes.{KnownShapes}
use Rattle.game_parts.specs.inside.GameParts.{IsFindingOf}
use Rattle.source_lists.specs.KnownShapes.{Knows, edges_known}

-- The cells of a part up to one are done, and there is room for the boxes of so many more.
pub record IsDoneTo (p : Description) (marks : List Mark) (Fact : Game → ℕ → Type 0) (from to size done room : ℕ) (known : KnownShapes) (first : Option ℕ) : Type 0 where
  pub low : from ≤ done
  pub high : done ≤ to
  pub fits : done < to → size * vectors_of p.inputs ≤ room
  pub knows : Knows (axes_of p) (edges_known known) known
  pub found : IsFindingOf p marks Fact from done (edges_known known) first

-- the boxes of the next cells fit
pub cut_long : (v size done to end n : ℕ) (boxes : List (Option CellBox)) → size * v ≤ length boxes → end ≡ min to (done + size) → n ≡ (end - done) * v → length (take n boxes) ≡ (end - done) * v
cut_long v size done to end n boxes room is count = omega (arith, length-take n boxes, count, room, mul-le (end - done) v size v (omega (arith, is)) (omega arith))

-- what was written over all boxes is read back
pub read_back : (old new : List (Option CellBox)) (len : ℕ) → length new ≡ length old → len ≡ length old → take len (new ++ drop (length new) old) ≡ new
read_back old new len same whole = grind (arith, common_steps)

-- if more cells are left, as many boxes were found as there is room for
pub room_left : (v size done to end : ℕ) → end ≡ min to (done + size) → end < to → size * v ≤ (end - done) * v
room_left v size done to end is more = let full : end - done ≡ size = omega (arith, is, more) in rw full (omega arith)
