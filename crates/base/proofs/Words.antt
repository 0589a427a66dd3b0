-- Words in a line.
use Rattle.std.proofs.Common.{◌≡◌, ℕ, List, [], ◌∷◌, ◌++◌, append-nil, sym, ap}
use Rattle.std.specs.List.{flat_map}
use Rattle.std.specs.List.{flat_map, join_with_byte}

-- a word with the space before it
abbrev pub spaced : List ℕ → List ℕ
spaced word = 32 ∷ word

pub joined_words : (word : List ℕ) (words : List (List ℕ)) → join_with_byte 32 (word ∷ words) ≡ word ++ flat_map spaced words
joined_words word [] = sym (append-nil word)
joined_words word (next ∷ words) = ap (λ (x : List ℕ). word ++ 32 ∷ x) (joined_words next words)
