-- From line to line of a text: its lines are a grammar, each of which leads to one part.
use Rattle.std.proofs.Common.{inl, inr, ◌≡◌, ℕ, ◌+◌, ◌<◌, true, false, List, [], ◌∷◌, ◌++◌, length, arith, refl, sym, ap, ◌∙◌, subst, length-append}
use Rattle.base.proofs.Lists.{same_head}
use Rattle.line_words.specs.Lines.{lines_of}
use Rattle.line_words.specs.Words.{words_of}
use Rattle.plant_reading.specs.Statements.{Statement, States}
use Rattle.plant_reading.proofs.lemmas.StatementLaws.{one_statement, skipped}
use Rattle.text_pieces.specs.Steps.{IsRead, IsReading, IsStuck, IsGrammar}
use Rattle.text_pieces.proofs.Laws.{read_on}
use Rattle.plant_text.specs.Grammar.{PartialPlant, nothing_yet, names_in, FitsAfter, with_statement, IsStated, Extends, LineStep, IsEnded, IsLineRefused}
use Rattle.plant_text.specs.inside.PartialPlantRules.{KeepsRules}
use Rattle.plant_text.specs.inside.ReadUpTo.{IsReadUpTo}
use Rattle.plant_text.proofs.lemmas.RulesKept.{rules_of_nothing, rules_after}

-- ---- what a line states

pub stated_once : (q : PartialPlant) (line : List ℕ) (s t : Statement) → KeepsRules q → States (names_in q) (length q.states) (words_of line) s → States (names_in q) (length q.states) (words_of line) t → s ≡ t
stated_once q line s t k = one_statement (names_in q) (length q.states) (words_of line) s t k.names_differ k.names

pub one_stated : (q : PartialPlant) (line : List ℕ) (r s : PartialPlant) → KeepsRules q → IsStated q line r → IsStated q line s → r ≡ s
one_stated q line r s k a b = a.leads_to ∙ ap (with_statement q) (stated_once q line a.statement b.statement k a.states b.states) ∙ sym b.leads_to

-- a line whose statement has no position after a part leads nowhere
pub nowhere : (q : PartialPlant) (line : List ℕ) (s : Statement) → KeepsRules q → States (names_in q) (length q.states) (words_of line) s → (FitsAfter q s → ⊥) → (r : PartialPlant) → Extends q line r → ⊥
nowhere q line s k says unfit r (inl over) = skipped (names_in q) (length q.states) line s over.0 says
nowhere q line s k says unfit r (inr stated) = unfit (subst (FitsAfter q) (stated_once q line stated.statement s k stated.states says) stated.fits)

-- ---- the grammar

one_part : (q : PartialPlant) (line : List ℕ) (r s : PartialPlant) → KeepsRules q → Extends q line r → Extends q line s → r ≡ s
one_part q line r s k (inl over) (inl other) = over.1 ∙ sym other.1
one_part q line r s k (inl over) (inr stated) = absurd (skipped (names_in q) (length q.states) line stated.statement over.0 stated.states)
one_part q line r s k (inr stated) (inl over) = absurd (skipped (names_in q) (length q.states) line stated.statement over.0 stated.states)
one_part q line r s k (inr stated) (inr other) = one_stated q line r s k stated other

-- where no line is left none leads on
none_left : (q : PartialPlant) (rest : List (List ℕ)) → rest ≡ [] → IsStuck LineStep q rest
none_left q rest none piece behind r cut step = omega (arith, ap length none, ap length cut, length-append piece behind, ap length step.1)

-- the line of a piece at the front
line_of_piece : (line : List ℕ) (piece behind rest : List (List ℕ)) → piece ≡ line ∷ [] → rest ≡ piece ++ behind → rest ≡ line ∷ behind
line_of_piece line piece behind rest is cut = cut ∙ ap (λ (x : List (List ℕ)). x ++ behind) is

one_piece : (x y : List ℕ) (piece other rest others : List (List ℕ)) → piece ≡ x ∷ [] → other ≡ y ∷ [] → piece ++ rest ≡ other ++ others → piece ≡ other
one_piece x y piece other rest others first second e =
    let same : x ≡ y = same_head x y rest others (sym (line_of_piece x piece rest (piece ++ rest) first refl) ∙ line_of_piece y other others (piece ++ rest) second e) in
    first ∙ ap (λ (line : List ℕ). line ∷ []) same ∙ sym second

pub lines_are_grammar : IsGrammar LineStep IsEnded KeepsRules
lines_are_grammar = record {
  one_piece = λ q m n x y rest others k a b e. one_piece a.0 b.0 x y rest others a.1 b.1 e;
  one_state = λ q m n x k a b. one_part q a.0 m n k a.2 (subst (λ (line : List ℕ). Extends q line n) (same_head b.0 a.0 [] [] (sym b.1 ∙ a.1)) b.2);
  met = λ q m x k step. rules_after q step.0 m k step.2;
  some = λ q m behind k step. omega (arith, ap length step.1);
  ends = λ q rest k over. none_left q rest over.0;
}

-- ---- how far a text is read

pub at_first_line : (bytes : List ℕ) (q : PartialPlant) → q ≡ nothing_yet → IsReadUpTo bytes bytes 1 q
at_first_line bytes q e = record {
  pieces = [];
  read = record { leads = e; are = refl };
  rules = subst KeepsRules (sym e) rules_of_nothing;
  numbered = refl;
  few = omega arith;
}

pub at_next_line : (bytes rest line after : List ℕ) (n : ℕ) (q r : PartialPlant) → IsReadUpTo bytes rest n q → lines_of rest ≡ line ∷ lines_of after → length after < length rest → Extends q line r → KeepsRules r → IsReadUpTo bytes after (n + 1) r
at_next_line bytes rest line after n q r up cut shorter extends rules = record {
  pieces = up.pieces ++ (line ∷ []) ∷ [];
  read = read_on LineStep nothing_yet q r (lines_of bytes) (lines_of rest) (line ∷ []) (lines_of after) up.pieces up.read cut (line, refl, extends);
  rules = rules;
  numbered = omega (arith, up.numbered, length-append up.pieces ((line ∷ []) ∷ []));
  few = omega (arith, up.few, shorter, length-append up.pieces ((line ∷ []) ∷ []));
}

module _ (bytes rest : List ℕ) (n : ℕ) (q : PartialPlant) (up : IsReadUpTo bytes rest n q) where
  refused_at : IsStuck LineStep q (lines_of rest) → (IsEnded q (lines_of rest) → ⊥) → IsLineRefused (lines_of bytes) n
  refused_at stuck unclosed = record { pieces = up.pieces; next = up.numbered; to = q; rest = lines_of rest; read = up.read; stuck = stuck; unclosed = unclosed }

  pub refused_here : (line after : List ℕ) → lines_of rest ≡ line ∷ lines_of after → ((r : PartialPlant) → Extends q line r → ⊥) → IsLineRefused (lines_of bytes) n
  refused_here line after cut refused =
      refused_at
      (λ piece behind r at step. refused r (subst (λ (x : List ℕ). Extends q x r) (same_head step.0 line behind (lines_of after) (sym (line_of_piece step.0 piece behind (lines_of rest) step.1 at) ∙ cut)) step.2))
      (λ over. (let none : line ∷ lines_of after ≡ [] = sym cut ∙ over.0 in cc))

  pub all_read : lines_of rest ≡ [] → q.ended ≡ true → IsReading LineStep IsEnded nothing_yet (lines_of bytes) q []
  all_read none ended = record { pieces = up.pieces; read = subst (λ (x : List (List ℕ)). IsRead LineStep nothing_yet (lines_of bytes) up.pieces q x) none up.read; closed = (refl, ended) }

  pub ends_early : lines_of rest ≡ [] → q.ended ≡ false → IsLineRefused (lines_of bytes) n
  ends_early none open_still = refused_at (none_left q (lines_of rest) none) (λ over. (let ended = over.1 in cc))
