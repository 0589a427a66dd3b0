-- The lines of a trace, word by word.
use Rattle.std.proofs.Common.{◌≡◌, ℕ, List, [], ◌∷◌, ◌++◌, length, take, sym, ap, ◌∙◌, append_assoc}
use Rattle.std.specs.Prelude.{ℤ, codes}
use Rattle.std.specs.Fmt.{decimal, signed_decimal}
use Rattle.std.proofs.lemmas.List.{append-nil}
use Rattle.std.proofs.lemmas.List.Folds.{flat_map-map}
use Rattle.std.proofs.lemmas.List.Concat.{flat_map-append}
use Rattle.game_core.specs.declared.game.Row.{Row}
use Rattle.plant_record.specs.Description.{Description}
use Rattle.row_runs.specs.RunText.{rank_field, input_field}
use Rattle.controller_table.specs.TableText.{format_of}
use Rattle.loop_sim.specs.declared.sim_line.SimLine.TheVariants.{At, Lost}
use Rattle.loop_sim.specs.TraceText.{line_text, state_words}
use Rattle.loop_sim.specs.inside.StateText.{state_text}
use Rattle.base.proofs.Words.{spaced, joined_words}

in_order : (a b r i space feed : List ℕ) → a ++ (b ++ (space ++ (r ++ (space ++ (i ++ feed))))) ≡ (a ++ (b ++ (space ++ (r ++ (space ++ (i ++ [])))))) ++ feed
in_order a b r i space feed = simp (append_assoc, append-nil)

pub sample_parts : (p : Description) (t : ℕ) (x : List ℤ) (row : Row)
    → decimal t ++ (state_text (take (length p.states) x) ++ (32 ∷ (rank_field (format_of p.goal) row ++ 32 ∷ (input_field (format_of p.goal) row ++ 10 ∷ [])))) ≡ line_text p (At t x row)
sample_parts p t x row =
    let xs : List ℤ = take (length p.states) x in
    let rank : List ℕ = rank_field (format_of p.goal) row in
    let input : List ℕ = input_field (format_of p.goal) row in
    in_order (decimal t) (state_text xs) rank input (32 ∷ []) (10 ∷ [])
    ∙ ap (λ (y : List ℕ). y ++ 10 ∷ [])
    (sym (joined_words (decimal t) (state_words p x ++ rank ∷ input ∷ [])
    ∙ ap (λ (y : List ℕ). decimal t ++ y) (flat_map-append spaced (state_words p x) (rank ∷ input ∷ []) ∙ ap (λ (y : List ℕ). y ++ ((32 ∷ rank) ++ ((32 ∷ input) ++ []))) (flat_map-map spaced signed_decimal xs))))

in_short : (a b c : List ℕ) → a ++ (b ++ (c ++ 10 ∷ [])) ≡ (a ++ (b ++ c)) ++ 10 ∷ []
in_short a b c = simp append_assoc

pub loss_parts : (p : Description) (t : ℕ) (x : List ℤ) → codes "lost " ++ (decimal t ++ (state_text (take (length p.states) x) ++ 10 ∷ [])) ≡ line_text p (Lost t x)
loss_parts p t x =
    let xs : List ℤ = take (length p.states) x in
    in_short (codes "lost ") (decimal t) (state_text xs)
    ∙ ap (λ (y : List ℕ). (codes "lost " ++ y) ++ 10 ∷ []) (sym (joined_words (decimal t) (state_words p x) ∙ ap (λ (y : List ℕ). decimal t ++ y) (flat_map-map spaced signed_decimal xs)))
