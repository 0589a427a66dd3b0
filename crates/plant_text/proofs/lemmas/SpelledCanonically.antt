-- The canonical text of a plant spells it.
use Rattle.std.proofs.Common.{inr, ◌≡◌, ℕ, List, [], ◌∷◌, ◌++◌, append-nil, refl, sym, ap, ◌∙◌}
use Rattle.line_words.specs.Lines.{lines_of}
use Rattle.line_words.specs.Words.{words_of}
use Rattle.text_pieces.specs.Steps.{joined, Leads}
use Rattle.plant_text.specs.Grammar.{PartialPlant, nothing_yet, LineStep}
use Rattle.plant_text.specs.CanonicalFronts.{FrontStep}
use Rattle.plant_text.specs.Laws.{CanonicalTextsSpell}
use Rattle.plant_text.specs.inside.PartialPlantRules.{KeepsRules}
use Rattle.plant_text.proofs.lemmas.RulesKept.{rules_of_nothing, rules_stated}
use Rattle.plant_text.proofs.lemmas.FrontGrammar.{line_at}
use Rattle.plant_text.proofs.lemmas.PlantLines.{plant_lines, whole_plant_part, is_whole}

-- The lines of what pieces of a canonical text are lead where these do.
record AreLines (q : PartialPlant) (text : List ℕ) (r : PartialPlant) : Type 0 where
  lines : List (List (List ℕ))
  leads : Leads LineStep q lines r
  are : lines_of text ≡ joined lines

lines_lead : (q : PartialPlant) (pieces : List (List ℕ)) (r : PartialPlant) → KeepsRules q → Leads FrontStep q pieces r → AreLines q (joined pieces) r
lines_lead q [] r k leads = record { lines = []; leads = leads; are = refl }
lines_lead q (piece ∷ pieces) r k leads =
    let line = leads.1.0 in
    let e = leads.1.2 in
    let more = lines_lead leads.0 pieces r (rules_stated q (words_of line) e.stated.statement leads.0 k e.stated.states e.stated.fits e.stated.leads_to) leads.2 in
    record {
      lines = (line ∷ []) ∷ more.lines;
      leads = (leads.0, (line, refl, inr e.stated), more.leads);
      are = ap (λ (x : List ℕ). lines_of (x ++ joined pieces)) leads.1.1 ∙ line_at q line (joined pieces) leads.0 k e ∙ ap (λ (lines : List (List ℕ)). line ∷ lines) more.are;
    }

pub canonical_texts_spell : CanonicalTextsSpell
canonical_texts_spell p h =
    let text = plant_lines p h in
    let led = lines_lead nothing_yet text.pieces (whole_plant_part p) rules_of_nothing text.leads in (
      whole_plant_part p,
      record { pieces = led.lines; read = record { leads = led.leads; are = ap lines_of (sym text.are) ∙ led.are ∙ sym (append-nil (joined led.lines)) }; closed = (refl, refl) },
      is_whole p,
    )
