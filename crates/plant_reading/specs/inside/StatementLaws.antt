-- What lines and statements owe to each other. No public clause names this.
use Rattle.std.specs.Prelude.{◌≡◌, ◌≢◌, ℕ, true, List, AllPairs}
use Rattle.std.specs.List.{All}
use Rattle.line_words.specs.Names.{IsName}
use Rattle.line_words.specs.Words.{words_of, is_skipped}
use Rattle.plant_reading.specs.Statements.{Statement, States}

-- the words of a line state one thing at most
abbrev pub OneStatement : Type 0
OneStatement =
    (names : List (List ℕ)) (n : ℕ) (words : List (List ℕ)) (s t : Statement) → AllPairs (λ a b. a ≢ b) names → All IsName names → States names n words s → States names n words t → s ≡ t

-- a line that is skipped states nothing
abbrev pub SkippedLinesStateNothing : Type 0
SkippedLinesStateNothing =
    (names : List (List ℕ)) (n : ℕ) (line : List ℕ) (s : Statement) → is_skipped line ≡ true → States names n (words_of line) s → ⊥
