-- What the boxes of a plant keep.
use Rattle.std.specs.Prelude.{◌≡◌, ℕ, ◌-◌, ℤ, pos, ◌≤ℤ◌, ◌++◌, length, take, replicate}
use Rattle.std.specs.List.{AllZip}
use Rattle.plant_record.specs.declared.aims.StateBox.{StateBox}
use Rattle.line_words.specs.Numbers.{IsLiteral}
use Rattle.base.specs.declared.limits.TheConstants.{STATES_LIMIT}

-- two ends in order
abbrev pub AreEnds : ℤ → ℤ → Type 0
AreEnds low high = IsLiteral low × IsLiteral high × (low ≤ℤ high)

-- The corners of a box of n states; what stands past the states is 0.
pub record IsStateBox (n : ℕ) (b : StateBox) : Type 0 where
  pub low_rest : b.low ≡ take n b.low ++ replicate (STATES_LIMIT - n) (pos 0)
  pub high_rest : b.high ≡ take n b.high ++ replicate (STATES_LIMIT - n) (pos 0)
  pub low_count : length (take n b.low) ≡ n
  pub ends : AllZip AreEnds (take n b.low) (take n b.high)
