-- The lines of the turns that are left, one turn on and at the end.
use Rattle.std.proofs.Common.{◌≡◌, ℕ, suc, ◌+◌, ◌<◌, ◌≤◌, List, [], ◌∷◌, ◌++◌, length, length-append, take, drop, get_or, Option, sym, ap, ◌∙◌, add-one, arith}
use Rattle.std.specs.List.{concat}
use Rattle.std.proofs.lemmas.List.{length-map, drop_more, take-append-le, drop-append-le, nil_from_length}
use Rattle.std.proofs.lemmas.List.Folds.{concat-append}
use Rattle.game_core.specs.declared.game.Row.{Row}
use Rattle.row_runs.specs.declared.row_format.RowFormat.{RowFormat}
use Rattle.row_runs.specs.declared.run.TableVersion.TheVariants.{Second}
use Rattle.row_runs.specs.Runs.{runs_from}
use Rattle.row_runs.specs.RunText.{run_line, run_lines}
use Rattle.row_reading.specs.declared.row_rules.TurnHead.{TurnHead}
use Rattle.row_reading.specs.RowsTexts.{head_line, lines_by}

module _ (head : TurnHead) (format : RowFormat) where
  -- the first of some turns, in its pieces
  first_turn : (j : ℕ) (rows : List (Option Row)) (rest : List (List (Option Row))) → concat (lines_by head Second format j (rows ∷ rest)) ≡ head_line head j (length (runs_from Second 0 rows)) ++ (concat (run_lines format rows) ++ concat (lines_by head Second format (suc j) rest))
  first_turn j rows rest =
      ap (λ (n : ℕ). head_line head j n ++ concat (run_lines format rows ++ lines_by head Second format (suc j) rest)) (length-map (runs_from Second 0 rows) (run_line Second format))
      ∙ ap (λ (x : List ℕ). head_line head j (length (runs_from Second 0 rows)) ++ x) (concat-append (run_lines format rows) (lines_by head Second format (suc j) rest))

  pub one_turn_on : (rows : List (List (Option Row))) (j : ℕ) (d : List (Option Row)) → j < length rows
      → concat (lines_by head Second format j (drop j rows)) ≡ head_line head j (length (runs_from Second 0 (get_or rows j d))) ++ (concat (run_lines format (get_or rows j d)) ++ concat (lines_by head Second format (j + 1) (drop (j + 1) rows)))
  one_turn_on rows j d lt =
      ap (λ (r : List (List (Option Row))). concat (lines_by head Second format j r)) (drop_more rows j d lt)
      ∙ first_turn j (get_or rows j d) (drop (j + 1) rows)
      ∙ ap (λ (k : ℕ). head_line head j (length (runs_from Second 0 (get_or rows j d))) ++ (concat (run_lines format (get_or rows j d)) ++ concat (lines_by head Second format k (drop (j + 1) rows)))) (sym (add-one j))

  -- a turn whose line is due: nothing is left of the one before it
  pub begun : (rows : List (List (Option Row))) (j n : ℕ) (d : List (Option Row)) (now line runs first lines : List ℕ) → line ++ (runs ++ concat (lines_by head Second format j (drop j rows))) ≡ now → length line ≡ 0 → runs ≡ [] → j < length rows
      → first ≡ head_line head j n → n ≡ length (runs_from Second 0 (get_or rows j d)) → lines ≡ concat (run_lines format (get_or rows j d)) → now ≡ first ++ (lines ++ concat (lines_by head Second format (j + 1) (drop (j + 1) rows)))
  begun rows j n d now line runs first lines view none over lt first_is count lines_are =
      sym view
      ∙ ap (λ (x : List ℕ). x ++ (runs ++ concat (lines_by head Second format j (drop j rows)))) (nil_from_length line none)
      ∙ ap (λ (x : List ℕ). x ++ concat (lines_by head Second format j (drop j rows))) over
      ∙ one_turn_on rows j d lt
      ∙ ap (λ (k : ℕ). head_line head j k ++ (concat (run_lines format (get_or rows j d)) ++ concat (lines_by head Second format (j + 1) (drop (j + 1) rows)))) (sym count)
      ∙ ap (λ (x : List ℕ). x ++ (concat (run_lines format (get_or rows j d)) ++ concat (lines_by head Second format (j + 1) (drop (j + 1) rows)))) (sym first_is)
      ∙ ap (λ (x : List ℕ). first ++ (x ++ concat (lines_by head Second format (j + 1) (drop (j + 1) rows)))) (sym lines_are)

-- what is copied of the front of a list
pub copied_within : (now line rest : List ℕ) (count : ℕ) → now ≡ line ++ rest → count ≤ length line → count ≤ length now
copied_within now line rest count is le = omega (arith, ap length is, length-append line rest, le)

pub taken : (now line rest : List ℕ) (count : ℕ) → now ≡ line ++ rest → count ≤ length line → take count line ≡ take count now
taken now line rest count is le = sym (ap (take count) is ∙ take-append-le count line rest le)

pub dropped : (now line rest : List ℕ) (count : ℕ) → now ≡ line ++ rest → count ≤ length line → drop count line ++ rest ≡ drop count now
dropped now line rest count is le = sym (ap (drop count) is ∙ drop-append-le count line rest le)
