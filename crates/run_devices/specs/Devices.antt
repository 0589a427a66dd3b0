-- What a source gave and what a sink took, where they tell their bytes.
use Rattle.std.specs.Prelude.{◌≡◌, ◌⊎◌, ℕ, ◌+◌, ◌-◌, ◌^◌, ◌<◌, ◌≤◌, Bool, List, ◌++◌, length, take, drop, min, Option, Some, None}

-- one more, up to the greatest number of 64 bits
abbrev pub next_count : ℕ → ℕ
next_count n = min (n + 1) (2 ^ 64 - 1)

-- a count of faults rose: it is greater, or has come to the last number that it can hold
abbrev pub Rose : ℕ → ℕ → Type 0
Rose before after = (before < after) ⊎ (after ≡ 2 ^ 64 - 1)

-- the first n bytes of what is left were taken into the front of a buffer
abbrev pub Takes : Option (List ℕ) → Option (List ℕ) → ℕ → List ℕ → Type 0
Takes None after n buffer = Unit {0}
Takes (Some bytes) after n buffer = (n ≤ length bytes) × (after ≡ Some (drop n bytes)) × (take n buffer ≡ take n bytes)

-- no more than so many bytes were taken of what is left, from its front
abbrev pub TakesAtMost : Option (List ℕ) → Option (List ℕ) → ℕ → Type 0
TakesAtMost None after most = Unit {0}
TakesAtMost (Some bytes) after most = (count : ℕ) × (count ≤ most) × (after ≡ Some (drop count bytes))

-- a piece was appended to what a sink has
abbrev pub Gains : Option (List ℕ) → Option (List ℕ) → List ℕ → Type 0
Gains None after piece = Unit {0}
Gains (Some bytes) after piece = after ≡ Some (bytes ++ piece)

-- What became of a source in a run: what was left to read before and after it, where the source tells it, how
-- many faults it counted, and whether it had promised that none comes.
pub record Reading : Type 0 where
  pub before : Option (List ℕ)
  pub after : Option (List ℕ)
  pub faults_before : ℕ
  pub faults_after : ℕ
  pub is_sound : Bool

-- What became of a sink in a run: what it had before and after it, where the sink tells it, how many faults it
-- counted, and for how many bytes it had promised that none comes.
pub record Writing : Type 0 where
  pub before : Option (List ℕ)
  pub after : Option (List ℕ)
  pub faults_before : ℕ
  pub faults_after : ℕ
  pub capacity : ℕ

-- a source between two moments, by its meanings
abbrev pub reading : {D : Type 0} → (D → Option (List ℕ)) → (D → ℕ) → (D → Bool) → D → D → Reading
reading left faults is_sound old new = record { before = left old; after = left new; faults_before = faults old; faults_after = faults new; is_sound = is_sound old }

-- a sink between two moments, by its meanings
abbrev pub writing : {D : Type 0} → (D → Option (List ℕ)) → (D → ℕ) → (D → ℕ) → D → D → Writing
writing got faults capacity old new = record { before = got old; after = got new; faults_before = faults old; faults_after = faults new; capacity = capacity old }

-- The whole text was appended, and no fault was counted.
pub record GainsWhole (sink : Writing) (text : List ℕ) : Type 0 where
  pub gained : Gains sink.before sink.after text
  pub no_fault : sink.faults_after ≡ sink.faults_before

-- A part of a text was appended, and not the whole: one fault was counted, and the sink hadn't promised capacity for the text.
pub record GainsPart (sink : Writing) (text : List ℕ) : Type 0 where
  pub count : ℕ
  pub proper : count < length text
  pub gained : Gains sink.before sink.after (take count text)
  pub fault : sink.faults_after ≡ next_count sink.faults_before
  pub no_capacity : sink.capacity < length text

-- a line was appended whole and no fault was counted, or one was, and a part of the line was appended
abbrev pub Reports : Writing → List ℕ → Type 0
Reports sink line = GainsWhole sink line ⊎ GainsPart sink line

-- Neither device was used.
pub record AreUnused (source : Reading) (out : Writing) : Type 0 where
  pub nothing_read : source.after ≡ source.before
  pub no_read_fault : source.faults_after ≡ source.faults_before
  pub nothing_written : out.after ≡ out.before
  pub no_write_fault : out.faults_after ≡ out.faults_before
