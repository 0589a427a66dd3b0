-- Devices in memory, by what they still have and what becomes of the next call.
use Rattle.std.specs.Prelude.{◌≡◌, ◌⊎◌, ℕ, ◌-◌, ◌≤◌, Bool, true, false, List, [], ◌∷◌, length}
use Rattle.std.specs.List.{Contains}

-- The bytes that are left, the calls so far, the numbers of the calls that fail, and the faults so far.
pub record MemoryLeft : Type 0 where
  pub left : List ℕ
  pub calls : ℕ
  pub fails : List ℕ
  pub faults : ℕ

-- The bytes that were taken, the capacity for all bytes, how many are taken at once, the calls so far, the
-- numbers of the calls that fail, and the faults so far.
pub record MemoryTaken : Type 0 where
  pub got : List ℕ
  pub capacity : ℕ
  pub at_once : ℕ
  pub calls : ℕ
  pub fails : List ℕ
  pub faults : ℕ

-- no call is to fail
abbrev pub is_none_listed : List ℕ → Bool
is_none_listed [] = true
is_none_listed (n ∷ fails) = false

-- the capacity that is left where no call is to fail, and otherwise none that could be relied upon
abbrev pub capacity_of : List ℕ → ℕ → List ℕ → ℕ
capacity_of [] capacity got = capacity - length got
capacity_of (n ∷ fails) capacity got = 0

-- the capacity of a sink that could be relied upon
abbrev pub sure_capacity : MemoryTaken → ℕ
sure_capacity s = capacity_of s.fails s.capacity s.got

-- a sink that was not called yet
abbrev pub uncalled_sink : ℕ → ℕ → List ℕ → MemoryTaken
uncalled_sink capacity at_once fails = record { got = []; capacity = capacity; at_once = at_once; calls = 0; fails = fails; faults = 0 }

-- a sink fails at the call of this number: the call is to fail, or there is no capacity left
abbrev pub FailsAt : MemoryTaken → ℕ → Type 0
FailsAt s call = Contains s.fails call ⊎ (s.capacity ≤ length s.got)

-- a sink after some calls is to fail at the same calls, and has the same capacity, for all bytes and for a call
abbrev pub HasSameLimits : MemoryTaken → MemoryTaken → Type 0
HasSameLimits before after = (after.fails ≡ before.fails) × (after.capacity ≡ before.capacity) × (after.at_once ≡ before.at_once)
