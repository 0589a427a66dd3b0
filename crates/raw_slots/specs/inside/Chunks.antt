-- Slots that are filled chunk by chunk.
use Rattle.std.specs.Prelude.{◌≡◌, ℕ, ◌+◌, ◌*◌, ◌^◌, ◌<◌, ◌≤◌, ◌⊎◌, List, Option, Some, map, length, take, drop, replicate, slice_index_or}
use Rattle.std.specs.Fork.{AcceptsChunksMut, AllInChunks, IsInChunk}
use denote.Param.Members.{Shared}
use denote.Ref.{MutBor}
use Rattle.raw_slots.specs.declared.making.Making.{Making}
use Rattle.raw_slots.specs.declared.stretch.Stretch.{Stretch}

-- from a position of total elements on, len make count chunks
pub record IsStretch (size total at count len : ℕ) : Type 0 where
  pub begins : (first : ℕ) × (at ≡ first * size)
  pub some : (0 < size) × (0 < count)
  pub covered : (len ≤ count * size) × (count * size < len + size)
  pub within : at + len ≤ total
  pub small : at + len < 2 ^ 64
  pub whole : (at + len ≡ total) ⊎ (len ≡ count * size)

-- a list stands in another from a position on
abbrev pub StandsAt : {X : Type 0} → ℕ → List X → List X → Type 0
StandsAt {X = X} at xs all = (k : ℕ) (d : X) → k < length xs → slice_index_or all (at + k) d ≡ slice_index_or xs k d

module _ {F X R : Type 0} (g : Shared F (ℕ × (MutBor (List X) × Unit {0})) (Unit {0} × (MutBor (List X) × Unit {0}))) (making : Making R F) where
  -- f may change the chunks of the stretch
  abbrev pub AcceptsStretch : Stretch X → Type 0
  AcceptsStretch s = (total : ℕ) × IsStretch making.size total s.at s.count s.part.len × AcceptsChunksMut g making.f.now making.size (replicate total s.start)

  -- the len elements of a list from a position on are what calls of f left in their chunks
  abbrev pub AreInChunks : X → ℕ → List X → ℕ → ℕ → Type 0
  AreInChunks start total all at len = (i : ℕ) (d : X) → at ≤ i → i < at + len → IsInChunk g making.f.now making.size (replicate total start) all i d

  -- the slots hold a list each of whose elements a call of f left in its chunk
  abbrev pub AreFilledIn : X → ℕ → ℕ → List (Option X) → Type 0
  AreFilledIn start at count slots = (xs : List X) × (slots ≡ map Some xs)
      × ((total : ℕ) (all : List X) → IsStretch making.size total at count (length xs) → StandsAt at xs all → AreInChunks start total all at (length xs))

  -- the slots hold the chunks of the stretch
  abbrev pub AreFilled : Stretch X → List (Option X) → Type 0
  AreFilled s slots = AreFilledIn s.start s.at s.count slots

  -- the first slots hold the chunks of the one stretch, and the others those of the next
  abbrev pub AreBothFilled : Stretch X → Stretch X → List (Option X) → Type 0
  AreBothFilled s next slots = AreFilled s (take s.part.len slots) × AreFilled next (drop s.part.len slots)

  -- the slots hold a list as long as the one before, each of whose elements a call of f left in its chunk
  abbrev pub AreFilledByChunks : List X → List (Option X) → Type 0
  AreFilledByChunks before slots = (xs : List X) × (slots ≡ map Some xs) × (length xs ≡ length before) × AllInChunks g making.f.now making.size before xs
