-- Many states at once: their numbers stand one state after another, and so do the inputs.
use Rattle.std.specs.Prelude.{◌≡◌, ℕ, ◌*◌, ◌<◌, ℤ, pos, List, length, take, drop, slice_index_or, Bool, true, false}
use Rattle.text_control.specs.Texts.{TextModel}
use Rattle.text_control.specs.Control.{EncodesReply}

-- the k-th of the pieces of this size
abbrev pub piece : ℕ → ℕ → List ℤ → List ℤ
piece size k xs = take size (drop (k * size) xs)

-- One number for each state of so many, and room for their inputs.
pub record AreSizedEach (t : TextModel) (count : ℕ) (xs before : List ℤ) : Type 0 where
  pub states : length xs ≡ count * length t.plant.states
  pub inputs : length before ≡ count * length t.plant.inputs

-- the k-th number means the reply at the k-th state
abbrev pub EncodesReplyAt : TextModel → List ℤ → List ℤ → List ℤ → List ℤ → ℕ → Type 0
EncodesReplyAt t states before after numbers k =
    EncodesReply t (piece (length t.plant.states) k states) (piece (length t.plant.inputs) k before) (piece (length t.plant.inputs) k after) (slice_index_or numbers k (pos 0))

-- each does
abbrev pub AreReplies : TextModel → List ℤ → List ℤ → List ℤ → List ℤ → Type 0
AreReplies t states before after numbers = (k : ℕ) → k < length numbers → EncodesReplyAt t states before after numbers k

-- each number is set, or the sizes are wrong and nothing is changed
abbrev pub IsReplyEach : TextModel → List ℤ → List ℤ → List ℤ → List ℤ → List ℤ → Bool → Type 0
IsReplyEach t states before after old new true =
    AreSizedEach t (length old) states before × (length new ≡ length old) × AreReplies t states before after new
IsReplyEach t states before after old new false =
    (AreSizedEach t (length old) states before → ⊥) × (after ≡ before) × (new ≡ old)
