-- Lines that are read: the words of a row with a rank, and the line of a run.
use Rattle.std.proofs.Common.{◌≡◌, ℕ, ◌^◌, ◌<◌, List, ◌∷◌, ◌++◌, refl, sym, ap, subst, ◌∙◌, eq-eqb}
use Rattle.std.specs.Prelude.{codes}
use Rattle.std.specs.Fmt.{decimal}
use Rattle.std.proofs.lemmas.Bool.{ne_eqb}
use Rattle.game_core.specs.declared.game.Row.{Row}
use Rattle.row_runs.specs.declared.row_format.RowFormat.{RowFormat}
use Rattle.row_runs.specs.declared.row_format.RowFormat.TheVariants.{InputAboveZero}
use Rattle.row_runs.specs.declared.run.Run.{Run}
use Rattle.row_runs.specs.declared.run.TableVersion.{TableVersion}
use Rattle.row_runs.specs.declared.run.TableVersion.TheVariants.{First, Second}
use Rattle.row_runs.specs.Runs.{HasCells}
use Rattle.row_runs.specs.RunText.{input_field}
use Rattle.row_reading.specs.Numbers.{IsNumberTo}
use Rattle.row_reading.specs.inside.RunReading.{IsLastAt, IsRowAt, IsRunAt, row_format, last_words}
use Rattle.row_reading.proofs.Digits.{one_read}
use Rattle.row_reading.proofs.RunWords.{run_words}

-- ---- with a rank

dash_at_zero : (row : Row) → row.rank ≡ 0 → input_field InputAboveZero row ≡ codes "-"
dash_at_zero row e = rw (eq-eqb row.rank 0 e) refl

number_above_zero : (row : Row) → (row.rank ≡ 0 → ⊥) → input_field InputAboveZero row ≡ decimal row.input
number_above_zero row some = rw (ne_eqb row.rank 0 some) refl

module _ (words : List ℕ) (rank : ℕ) (word : List ℕ) (number : IsNumberTo 32 words (rank, word)) where
  rank_told : (y : Row × List ℕ) → IsRowAt InputAboveZero words y → (rank ≡ y.0.rank) × (word ≡ input_field InputAboveZero y.0 ++ 10 ∷ y.1)
  rank_told y h = one_read 32 words (rank, word) (y.0.rank, input_field InputAboveZero y.0 ++ 10 ∷ y.1) refl number (h.0.rank, h.1)

  pub no_dash : rank ≡ 0 → ((after : List ℕ) → word ≡ codes "-\n" ++ after → ⊥) → (y : Row × List ℕ) → IsRowAt InputAboveZero words y → ⊥
  no_dash zero_is none y h =
      let told = rank_told y h in
      none y.1 (told.1 ∙ ap (λ (w : List ℕ). w ++ 10 ∷ y.1) (dash_at_zero y.0 (sym told.0 ∙ zero_is)))

  pub no_input : (rank ≡ 0 → ⊥) → ((z : ℕ × List ℕ) → IsNumberTo 10 word z → ⊥) → (y : Row × List ℕ) → IsRowAt InputAboveZero words y → ⊥
  no_input some none y h =
      let told = rank_told y h in
      none (y.0.input, y.1) (h.0.input, told.1 ∙ ap (λ (w : List ℕ). w ++ 10 ∷ y.1) (number_above_zero y.0 (λ z. some (told.0 ∙ z))))

-- ---- runs

-- the last cell of a run whose line this is
last_told : (v : TableVersion) (r : Run) (words after : List ℕ) → HasCells v r → r.last < 2 ^ 32 → words ≡ last_words v r.last after → IsLastAt v r.first words (r.last, after)
last_told First r words after cells few at = (cells, at)
last_told Second r words after cells few at = (cells, (few, at))

one_last : (v : TableVersion) (first : ℕ) (words : List ℕ) (m n : ℕ) (s t : List ℕ) → IsLastAt v first words (m, s) → IsLastAt v first words (n, t) → (m ≡ n) × (s ≡ t)
one_last First first words m n s t h k = (sym h.0 ∙ k.0, sym h.1 ∙ k.1)
one_last Second first words m n s t h k = one_read 32 words (m, s) (n, t) refl h.1 k.1

module _ (v : TableVersion) (format : RowFormat) (bytes : List ℕ) (first : ℕ) (words : List ℕ) (number : IsNumberTo 32 bytes (first, words)) where
  -- the run begins at this cell, and ends at the one that its words spell
  told : (y : Run × List ℕ) → IsRunAt v format bytes y → (first ≡ y.0.first) × IsLastAt v first words (y.0.last, row_format format y.0.row y.1)
  told y h =
      let same = one_read 32 bytes (first, words) (y.0.first, last_words v y.0.last (row_format format y.0.row y.1)) refl number (h.0.first, h.1 ∙ run_words v format y.0 y.1) in
      (same.0, subst (λ (n : ℕ). IsLastAt v n words (y.0.last, row_format format y.0.row y.1)) (sym same.0) (last_told v y.0 words (row_format format y.0.row y.1) h.0.cells h.0.last same.1))

  pub no_last : ((z : ℕ × List ℕ) → IsLastAt v first words z → ⊥) → (y : Run × List ℕ) → IsRunAt v format bytes y → ⊥
  no_last none y h = none (y.0.last, row_format format y.0.row y.1) (told y h).1

  module _ (last : ℕ) (more : List ℕ) (ends : IsLastAt v first words (last, more)) where
    pub no_row : ((z : Row × List ℕ) → IsRowAt format more z → ⊥) → (y : Run × List ℕ) → IsRunAt v format bytes y → ⊥
    no_row none y h = none (y.0.row, y.1) (h.0.row, (one_last v first words last y.0.last more (row_format format y.0.row y.1) ends (told y h).1).1)
