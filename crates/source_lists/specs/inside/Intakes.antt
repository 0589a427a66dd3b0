-- What takes in pairs at slots.
use Rattle.std.specs.Prelude.{◌≡◌, ℕ, zero, suc, ◌<◌, List, [], ◌++◌}

-- Its slots stay. A pair that was added at some slots and then at others was added at all of them, and there is room for these
-- if there was room for all.
pub record IsIntake (A : Type 0) (slots : A → ℕ) (HasRoomFor : A → List ℕ → Type 0) (IsAdded : ℕ → A → A → List ℕ → Type 0) : Type 0 where
  pub slots_stay : (pair : ℕ) (before after : A) (at : List ℕ) → IsAdded pair before after at → slots after ≡ slots before
  pub none : (pair : ℕ) (intake : A) → IsAdded pair intake intake []
  pub more : (pair : ℕ) (before now after : A) (at later : List ℕ) → IsAdded pair before now at → IsAdded pair now after later → IsAdded pair before after (at ++ later)
  pub room_left : (pair : ℕ) (before now : A) (done at later : List ℕ) → IsAdded pair before now done → HasRoomFor before ((done ++ at) ++ later) → HasRoomFor now at

-- the first n pairs were added, one after another, each at its slots
abbrev pub AreAdded : {A : Type 0} → (ℕ → A → A → List ℕ → Type 0) → (ℕ → List ℕ) → ℕ → A → A → Type 0
AreAdded IsAdded slots zero before after = after ≡ before
AreAdded {A = A} IsAdded slots (suc n) before after = (now : A) × AreAdded IsAdded slots n before now × IsAdded n now after (slots n)

-- there is room for each of the first n pairs, at its slots, once those before it were added
abbrev pub HasRoomForEach : {A : Type 0} → (A → List ℕ → Type 0) → (ℕ → A → A → List ℕ → Type 0) → (ℕ → List ℕ) → ℕ → A → Type 0
HasRoomForEach {A = A} HasRoomFor IsAdded slots n before = (pair : ℕ) (now : A) → pair < n → AreAdded IsAdded slots pair before now → HasRoomFor now (slots pair)
