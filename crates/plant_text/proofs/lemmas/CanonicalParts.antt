-- A canonical line has no line feed in it, and states one thing; lines in their canonical spelling and order make
-- the canonical text.
use Rattle.std.proofs.Common.{◌≡◌, ℕ, ◌<◌, true, List, [], ◌∷◌, ◌++◌, length, get_or, map, refl, ap, subst, ◌∙◌, arith, length-append, inl, inr, false, None, sym, append_assoc, append-nil}
use Rattle.std.specs.Prelude.{codes, map, slice_index_or}
use Rattle.std.specs.List.{AllByRecursion, flat_map, join_with_byte}
use Rattle.std.specs.Fmt.{signed_decimal}
use Rattle.std.proofs.lemmas.List.{append_cancel_right, length-map, nil_from_length}
use Rattle.std.proofs.lemmas.List.Elements.{All-get_or, recursion_from_All}
use Rattle.plant_record.specs.declared.variables.StateVariable.{StateVariable}
use Rattle.plant_record.specs.declared.variables.InputVariable.{InputVariable}
use Rattle.plant_record.specs.declared.variables.NoiseVariable.{NoiseVariable}
use Rattle.line_words.specs.Names.{IsName}
use Rattle.line_words.specs.Numbers.{IsLiteral}
use Rattle.plant_record.specs.Spelling.{version_word, end_words, goal_word}
use Rattle.plant_writing.specs.ExpressionText.{expression_text}
use Rattle.line_words.specs.Words.{words_of}
use Rattle.line_words.specs.Tokens.{tokens_of}
use Rattle.plant_reading.specs.Statements.{Statement, Version, State, Input, Noise, Next, Target, Obstacle, Goal, End, States}
use Rattle.plant_text.specs.Grammar.{PartialPlant, names_in, FitsAfter, with_statement}
use Rattle.plant_text.specs.CanonicalFronts.{statement_line, ExtendsCanonically, IsInOrder}
use Rattle.plant_text.specs.inside.PartialPlantRules.{KeepsRules}
use Rattle.plant_text.specs.inside.FormedEquations.{HasFormedEquation}
use Rattle.plant_text.specs.inside.CanonicalNext.{IsCanonicalNext}
use Rattle.plant_record.proofs.lemmas.SoundPlants.{well_formed}
use Rattle.plant_text.proofs.lemmas.RulesKept.{equation_spelled, aimless, no_equations}
use Rattle.plant_text.proofs.lemmas.LineGrammar.{stated_once}
use Rattle.line_words.proofs.lemmas.PutTogether.{is_printable, IsDarkWord, printable_joined}
use Rattle.plant_text.proofs.lemmas.PlantLines.{name_dark, number_dark, numbers_dark, box_dark, version_dark, goal_dark, expression_printable, equation_printable}
use Rattle.std.proofs.lemmas.Bool.{cases_Bool}
use Rattle.fixed_expr.specs.Expression.{Expression}
use Rattle.plant_record.specs.declared.aims.StateBox.{StateBox}
use Rattle.plant_record.specs.declared.aims.GoalKind.{GoalKind}
use Rattle.plant_record.specs.declared.version.PlantVersion.{PlantVersion}
use Rattle.base.specs.Lines.{line}
use Rattle.plant_writing.specs.CanonicalText.{state_line, input_line, noise_line, equation_line, equation_lines, box_line}
use Rattle.plant_text.specs.inside.PartialPlantText.{version_text, partial_text, IsOrderly}
use Rattle.plant_text.proofs.lemmas.Lists.{flat_map_one_more, some_last, among_the_first}

-- a stated equation has the variables that it names
pub formed : (names : List (List ℕ)) (n : ℕ) (words : List (List ℕ)) (s : Statement) → States names n words s → HasFormedEquation (length names) s
formed names n words (Version v) says = tt
formed names n words (State s) says = tt
formed names n words (Input i) says = tt
formed names n words (Noise w) says = tt
formed names n words (Next name e) says = well_formed (length names) e (equation_spelled names (flat_map tokens_of says.0) e says.2).literals
formed names n words (Target b) says = tt
formed names n words (Obstacle b) says = tt
formed names n words (Goal kind) says = tt
formed names n words End says = tt

-- the words of a line
printable_words : (line first : List ℕ) (words : List (List ℕ)) → IsDarkWord first → AllByRecursion IsDarkWord words → line ++ codes "\n" ≡ join_with_byte 32 (first ∷ words) ++ codes "\n" → is_printable line ≡ true
printable_words line first words dark each e =
    ap is_printable (append_cancel_right line (join_with_byte 32 (first ∷ words)) (codes "\n") e) ∙ printable_joined first words dark each

-- the name of the state whose equation is next
next_named : (q : PartialPlant) → KeepsRules q → length q.equations < length q.states → IsName (get_or (names_in q) (length q.equations) [])
next_named q k lt =
    let states = map (λ (s : StateVariable). s.name) q.states in
    let inputs = map (λ (i : InputVariable). i.name) q.inputs in
    let noises = map (λ (w : NoiseVariable). w.name) q.noises in
    All-get_or IsName (names_in q) (length q.equations) [] (omega (arith, lt, length-map q.states (λ (s : StateVariable). s.name), length-append states inputs, length-append (states ++ inputs) noises)) k.names

pub printable_line : (q : PartialPlant) (line : List ℕ) (s : Statement) → KeepsRules q → States (names_in q) (length q.states) (words_of line) s → FitsAfter q s → line ++ codes "\n" ≡ statement_line (names_in q) (length q.states) s
    → is_printable line ≡ true
printable_line q line (Version v) k says fits e = printable_words line (codes "plant") (version_word v ∷ []) (record { dark = refl; some = omega arith }) (version_dark v, tt) e
printable_line q line (State s) k says fits e =
    printable_words line (codes "state") (s.name ∷ signed_decimal s.low ∷ signed_decimal s.high ∷ signed_decimal s.width ∷ []) (record { dark = refl; some = omega arith })
    (name_dark s.name says.1.name, (number_dark s.low says.1.low, (number_dark s.high says.1.high, (number_dark s.width says.1.width, tt)))) e
printable_line q line (Input i) k says fits e =
    printable_words line (codes "input") (i.name ∷ map signed_decimal i.values) (record { dark = refl; some = omega arith })
    (name_dark i.name says.1.name, numbers_dark i.values (recursion_from_All IsLiteral i.values says.1.each)) e
printable_line q line (Noise w) k says fits e =
    printable_words line (codes "noise") (w.name ∷ signed_decimal w.low ∷ signed_decimal w.high ∷ []) (record { dark = refl; some = omega arith })
    (name_dark w.name says.1.name, (number_dark w.low says.1.low, (number_dark w.high says.1.high, tt))) e
printable_line q line (Next name x) k says fits e =
    let names = names_in q in
    let text = expression_text names 1 x in
    let named : IsName name = subst IsName fits.1 (next_named q k fits.0) in
    ap is_printable (append_cancel_right line (join_with_byte 32 (codes "next" ∷ name ∷ codes "=" ∷ text ∷ [])) (codes "\n") e)
    ∙ equation_printable name text named (expression_printable names 1 x k.names (equation_spelled names (flat_map tokens_of says.0) x says.2).literals)
printable_line q line (Target b) k says fits e =
    printable_words line (codes "target") (end_words (length q.states) b.low b.high) (record { dark = refl; some = omega arith }) (box_dark (length q.states) b says.1) e
printable_line q line (Obstacle b) k says fits e =
    printable_words line (codes "obstacle") (end_words (length q.states) b.low b.high) (record { dark = refl; some = omega arith }) (box_dark (length q.states) b says.1) e
printable_line q line (Goal kind) k says fits e = printable_words line (codes "goal") (goal_word kind ∷ []) (record { dark = refl; some = omega arith }) (goal_dark kind, tt) e
printable_line q line End k says fits e = printable_words line (codes "end") [] (record { dark = refl; some = omega arith }) tt e

pub extends_canonically : (q : PartialPlant) (line : List ℕ) (s : Statement) (r : PartialPlant) → States (names_in q) (length q.states) (words_of line) s → IsCanonicalNext q line s → r ≡ with_statement q s → ExtendsCanonically q line r
extends_canonically q line s r says next is = record { stated = record { statement = s; states = says; fits = next.fits; leads_to = is }; spelling = next.spelling; order = next.order }

-- a line that states something in another position, spelling or order leads nowhere
pub leads_nowhere : (q : PartialPlant) (line : List ℕ) (s : Statement) → KeepsRules q → States (names_in q) (length q.states) (words_of line) s → (IsCanonicalNext q line s → ⊥) → (r : PartialPlant) → ExtendsCanonically q line r → ⊥
leads_nowhere q line s k says unfit r e =
    let t = e.stated.statement in
    let next : IsCanonicalNext q line t = record { fits = e.stated.fits; order = e.order; spelling = e.spelling } in
    unfit (subst (λ (x : Statement). IsCanonicalNext q line x) (stated_once q line t s k e.stated.states says) next)

no_equation_lines : (names : List (List ℕ)) (states : List StateVariable) → equation_lines names states [] ≡ []
no_equation_lines names [] = refl
no_equation_lines names (s ∷ states) = refl

-- where no goal stands, no end does
not_ended : (q : PartialPlant) → KeepsRules q → q.goal ≡ None → q.ended ≡ false
not_ended q k none = elim (cases_Bool q.ended) [
  | inl e ↦ absurd ((k.closed e).0 none)
  | inr e ↦ e
]

-- one more line of an equation
next_line : (names : List (List ℕ)) (states : List StateVariable) (equations : List Expression) (e : Expression) → length equations < length states
    → equation_lines names states (equations ++ e ∷ []) ≡ equation_lines names states equations ++ equation_line names (slice_index_or (map (λ (s : StateVariable). s.name) states) (length equations) []) e
next_line names [] equations e lt = absurd (omega (arith, lt))
next_line names (s ∷ states) [] e lt = ap (λ (x : List ℕ). equation_line names s.name e ++ x) (no_equation_lines names states) ∙ append-nil (equation_line names s.name e)
next_line names (s ∷ states) (x ∷ equations) e lt =
    ap (λ (y : List ℕ). equation_line names s.name x ++ y) (next_line names states equations e (omega (arith, lt)))
    ∙ sym (append_assoc (equation_line names s.name x) (equation_lines names states equations) _)

-- where the later parts are empty
alone : (x : List ℕ) → x ++ [] ++ [] ++ [] ++ [] ++ [] ++ [] ++ [] ++ [] ≡ x
alone x = simp append-nil

after_equations : (a b c d e x : List ℕ) → a ++ b ++ c ++ d ++ (e ++ x) ++ [] ++ [] ++ [] ++ [] ≡ (a ++ b ++ c ++ d ++ e ++ [] ++ [] ++ [] ++ []) ++ x
after_equations a b c d e x = simp (append_assoc, append-nil)

module _ (q : PartialPlant) (k : KeepsRules q) (o : IsOrderly q) where
  text_state : (s : StateVariable) → FitsAfter q (State s) → partial_text (with_statement q (State s)) ≡ partial_text q ++ state_line s
  text_state s fits =
      let aims = aimless q k (no_equations q fits.3) in
      rw (fits.1, fits.2, fits.3, aims.0, aims.1, aims.2, not_ended q k aims.2, no_equation_lines _ q.states, no_equation_lines _ (q.states ++ s ∷ []), flat_map_one_more state_line q.states s)
      (simp (append_assoc, append-nil))

  text_input : (i : InputVariable) → FitsAfter q (Input i) → partial_text (with_statement q (Input i)) ≡ partial_text q ++ input_line i
  text_input i fits =
      let aims = aimless q k (no_equations q fits.2) in
      rw (fits.1, fits.2, aims.0, aims.1, aims.2, not_ended q k aims.2, no_equation_lines _ q.states, no_equation_lines _ q.states, flat_map_one_more input_line q.inputs i)
      (simp (append_assoc, append-nil))

  text_noise : (w : NoiseVariable) → FitsAfter q (Noise w) → partial_text (with_statement q (Noise w)) ≡ partial_text q ++ noise_line w
  text_noise w fits =
      let aims = aimless q k (no_equations q fits.1) in
      rw (fits.1, aims.0, aims.1, aims.2, not_ended q k aims.2, no_equation_lines _ q.states, no_equation_lines _ q.states, flat_map_one_more noise_line q.noises w)
      (simp (append_assoc, append-nil))

  -- the name of the state whose equation is next
  next_name : length q.equations < length q.states → slice_index_or (map (λ (s : StateVariable). s.name) q.states) (length q.equations) [] ≡ slice_index_or (names_in q) (length q.equations) []
  next_name lt =
      sym (among_the_first (map (λ (s : StateVariable). s.name) q.states) (map (λ (i : InputVariable). i.name) q.inputs) (map (λ (w : NoiseVariable). w.name) q.noises) (length q.equations) (omega (arith, lt, length-map q.states (λ (s : StateVariable). s.name))))

  text_next : (name : List ℕ) (e : Expression) → FitsAfter q (Next name e) → partial_text (with_statement q (Next name e)) ≡ partial_text q ++ equation_line (names_in q) name e
  text_next name e fits =
      let capacity = fits.0 in
      let aims = aimless q k (λ has. omega (arith, capacity, has.1)) in
      rw (aims.0, aims.1, aims.2, not_ended q k aims.2, next_line (names_in q) q.states q.equations e capacity, next_name capacity, fits.1)
      (after_equations (version_text q.version) (flat_map state_line q.states) (flat_map input_line q.inputs) (flat_map noise_line q.noises) (equation_lines (names_in q) q.states q.equations) (equation_line (names_in q) name e))

  text_target : (b : StateBox) → FitsAfter q (Target b) → q.obstacles ≡ [] → partial_text (with_statement q (Target b)) ≡ partial_text q ++ box_line (codes "target") (length q.states) b
  text_target b fits none =
      rw (fits.1, none, not_ended q k fits.1, flat_map_one_more (box_line (codes "target") (length q.states)) q.targets b)
      (simp (append_assoc, append-nil))

  text_obstacle : (b : StateBox) → FitsAfter q (Obstacle b) → partial_text (with_statement q (Obstacle b)) ≡ partial_text q ++ box_line (codes "obstacle") (length q.states) b
  text_obstacle b fits =
      rw (fits.1, not_ended q k fits.1, flat_map_one_more (box_line (codes "obstacle") (length q.states)) q.obstacles b)
      (simp (append_assoc, append-nil))

  text_goal : (kind : GoalKind) → FitsAfter q (Goal kind) → partial_text (with_statement q (Goal kind)) ≡ partial_text q ++ line (codes "goal" ∷ goal_word kind ∷ [])
  text_goal kind fits =
      rw (fits.1, not_ended q k fits.1)
      (simp (append_assoc, append-nil))

  text_end : FitsAfter q End → partial_text (with_statement q End) ≡ partial_text q ++ line (codes "end" ∷ [])
  text_end fits =
      rw fits.1
      (simp (append_assoc, append-nil))

  -- nothing stands before the version
  text_version : (v : PlantVersion) → FitsAfter q (Version v) → partial_text (with_statement q (Version v)) ≡ partial_text q ++ line (codes "plant" ∷ version_word v ∷ [])
  text_version v fits =
      let states : q.states ≡ [] = o.unbegun fits in
      let others = o.stateless states in
      let equations : q.equations ≡ [] = nil_from_length q.equations (let b = k.equations_bound in let n : length q.states ≡ 0 = ap length states in omega (arith, b, n)) in
      let aims = aimless q k (no_equations q equations) in
      rw (fits, states, others.0, others.1, aims.0, aims.1, aims.2, not_ended q k aims.2) (alone (line (codes "plant" ∷ version_word v ∷ [])))

  pub text_extended : (s : Statement) → FitsAfter q s → IsInOrder q s → partial_text (with_statement q s) ≡ partial_text q ++ statement_line (names_in q) (length q.states) s
  text_extended (Version v) fits order = text_version v fits
  text_extended (State s) fits order = text_state s fits
  text_extended (Input i) fits order = text_input i fits
  text_extended (Noise w) fits order = text_noise w fits
  text_extended (Next name e) fits order = text_next name e fits
  text_extended (Target b) fits order = text_target b fits order
  text_extended (Obstacle b) fits order = text_obstacle b fits
  text_extended (Goal kind) fits order = text_goal kind fits
  text_extended End fits order = text_end fits

pub orderly_extended : (q : PartialPlant) (s : Statement) → IsOrderly q → FitsAfter q s → IsOrderly (with_statement q s)
orderly_extended q (Version v) o fits = record { unbegun = λ e. absurd cc; stateless = o.stateless }
orderly_extended q (State s) o fits = record {
  unbegun = λ e. absurd (fits.0 e);
  stateless = λ e. absurd (some_last q.states s e);
}
orderly_extended q (Input i) o fits = record { unbegun = o.unbegun; stateless = λ e. absurd (let n : length q.states ≡ 0 = ap length e in omega (arith, n, fits.0)) }
orderly_extended q (Noise w) o fits = record { unbegun = o.unbegun; stateless = λ e. absurd (let n : length q.states ≡ 0 = ap length e in omega (arith, n, fits.0)) }
orderly_extended q (Next name e) o fits = record { unbegun = o.unbegun; stateless = o.stateless }
orderly_extended q (Target b) o fits = record { unbegun = o.unbegun; stateless = o.stateless }
orderly_extended q (Obstacle b) o fits = record { unbegun = o.unbegun; stateless = o.stateless }
orderly_extended q (Goal kind) o fits = record { unbegun = o.unbegun; stateless = o.stateless }
orderly_extended q End o fits = record { unbegun = o.unbegun; stateless = o.stateless }
