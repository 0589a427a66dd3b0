use Rattle.std.proofs.Common.{◌≡◌, ◌*◌, ◌<◌, ◌==◌, ℕ, List, [], ◌∷◌, Bool, false, length, arith}
use Rattle.text_control.proofs.Told.{all_words}
use Rattle.text_control.proofs.word_positions.positions_of.Goals as goal

-- they aren't none
some_words : (words : List ℕ) (empty : Bool) → empty ≡ (length words == 0) → empty ≡ false → 0 < length words
some_words [] empty is fails = absurd (cc)
some_words (word ∷ words) empty is fails = omega arith

pub search-requires-clause-among : goal.search-requires-clause-among
search-requires-clause-among c =
    let words = c.args.words.now in
    all_words words c.args.cells (c.loop-block.block * 64) c.requires.words (some_words words c.is_empty.result c.is_empty.ensures c.if-is_empty.false)
