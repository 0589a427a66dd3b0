-- A text with rows in its pieces: a front, lines, and the last line.
use Rattle.std.proofs.Common.{◌≡◌, List, ℕ, [], ◌∷◌, ◌++◌, sym, ap, ◌∙◌, append-nil}
use Rattle.std.specs.List.{concat}
use Rattle.std.proofs.lemmas.List.Folds.{concat-append}
use Rattle.row_runs.specs.RunText.{end_line}

-- the last line after some lines is one line more
pub framed_lines : (head header body : List ℕ) (lines : List (List ℕ)) → header ≡ head → body ≡ concat lines → header ++ (body ++ end_line) ≡ head ++ concat (lines ++ end_line ∷ [])
framed_lines head header body lines header_is body_is =
    ap (λ (x : List ℕ). x ++ (body ++ end_line)) header_is
    ∙ ap (λ (x : List ℕ). head ++ (x ++ end_line)) body_is
    ∙ ap (λ (x : List ℕ). head ++ (concat lines ++ x)) (sym (append-nil end_line))
    ∙ ap (λ (x : List ℕ). head ++ x) (sym (concat-append lines (end_line ∷ [])))
