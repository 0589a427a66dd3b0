use Rattle.std.proofs.Common.{◌≡◌, List, ℕ, [], ◌∷◌, ◌++◌, ap, sym, ◌∙◌}
use Rattle.std.proofs.lemmas.List.{append_cancel_right}
use Rattle.std.proofs.lemmas.Slice.Eq.{bytes_eq-Decides}
use Rattle.plant_text.proofs.statement_writer.is_line.Goals as goal

pub returns-then-last-eq10 : goal.returns-then-last-eq10
returns-then-last-eq10 c =
    let front = c.in-Some.front.now in
    let line = c.args.line.now in
    let cut : c.args.text.now ≡ front ++ 10 ∷ [] = c.in-Some.ensures.cases.0 ∙ ap (λ (b : ℕ). front ++ b ∷ []) c.if-last-eq10.true in
    let same = bytes_eq-Decides front line in (
      (λ t. ap (λ (x : List ℕ). x ++ 10 ∷ []) (sym (same.0 (sym c.eq.ensures ∙ t))) ∙ sym cut),
      (λ e. c.eq.ensures ∙ same.1 (append_cancel_right front line (10 ∷ []) (sym cut ∙ sym e))),
    )
