-- From line to line of a canonical text: its lines are a grammar, each of which leads to one part, and none stands after the
-- `end`; and the plant that they hold.
use Rattle.std.proofs.Common.{◌≡◌, ℕ, ◌+◌, ◌-◌, ◌<◌, ◌≤◌, true, false, List, [], ◌∷◌, ◌++◌, length, take, None, refl, sym, ap, subst, ◌∙◌, arith, append_assoc, append-nil, length-append}
use Rattle.std.specs.Prelude.{codes, ◌==◌, position}
use Rattle.std.proofs.Math.Seq.{take-append_seam}
use Rattle.std.proofs.lemmas.List.{append_cancel_right}
use Rattle.base.proofs.Lists.{same_head}
use Rattle.plant_record.specs.Description.{Description}
use Rattle.line_words.specs.Lines.{lines_of}
use Rattle.line_words.specs.Words.{words_of}
use Rattle.plant_reading.specs.Statements.{Statement, Version, State, Input, Noise, Next, Target, Obstacle, Goal, End}
use Rattle.line_words.proofs.lemmas.WhereCut.{feed_has_position}
use Rattle.line_words.proofs.lemmas.PutTogether.{lines_front}
use Rattle.plant_writing.specs.CanonicalText.{text_of}
use Rattle.text_pieces.specs.Steps.{joined, Leads, IsRead, IsStuck, IsGrammar}
use Rattle.text_pieces.proofs.Laws.{read_on, met}
use Rattle.plant_text.specs.Grammar.{PartialPlant, nothing_yet, HasEquations, FitsAfter, IsWhole}
use Rattle.plant_text.specs.CanonicalFronts.{ExtendsCanonically, FrontStep, IsFrontEnded, IsFirstRefusedAtFront, IsFront}
use Rattle.plant_text.specs.inside.PartialPlantText.{partial_text, IsOrderly}
use Rattle.plant_text.specs.inside.PartialPlantRules.{KeepsRules}
use Rattle.plant_text.specs.inside.ReadInFront.{IsReadInFront}
use Rattle.plant_text.proofs.lemmas.RulesKept.{rules_of_nothing, rules_stated}
use Rattle.plant_text.proofs.lemmas.LineGrammar.{one_stated}
use Rattle.plant_text.proofs.lemmas.LinesLead.{has_equations, whole_is_plant}
use Rattle.plant_text.proofs.lemmas.CanonicalParts.{orderly_extended, text_extended, printable_line}

-- ---- what a part keeps on the way

pub record IsOnTheWay (q : PartialPlant) : Type 0 where
  pub rules : KeepsRules q
  pub orderly : IsOrderly q

pub at_the_beginning : IsOnTheWay nothing_yet
at_the_beginning = record { rules = rules_of_nothing; orderly = record { unbegun = λ _. refl; stateless = λ _. (refl, refl) } }

onwards : (q : PartialPlant) (line : List ℕ) (r : PartialPlant) → IsOnTheWay q → ExtendsCanonically q line r → IsOnTheWay r
onwards q line r w e = record {
  rules = rules_stated q (words_of line) e.stated.statement r w.rules e.stated.states e.stated.fits e.stated.leads_to;
  orderly = subst IsOrderly (sym e.stated.leads_to) (orderly_extended q e.stated.statement w.orderly e.stated.fits);
}

-- a canonical line at the front of some bytes is their first line
pub line_at : (q : PartialPlant) (line rest_after : List ℕ) (m : PartialPlant) → KeepsRules q → ExtendsCanonically q line m → lines_of ((line ++ codes "\n") ++ rest_after) ≡ line ∷ lines_of rest_after
line_at q line rest_after m k e = lines_front line rest_after (printable_line q line e.stated.statement k e.stated.states e.stated.fits e.spelling)

-- ---- after the end

-- a statement after the end has no position
no_position : (q : PartialPlant) (s : Statement) → IsOnTheWay q → HasEquations q → q.ended ≡ true → FitsAfter q s → ⊥
no_position q (Version v) w has ended fits = (let none : length q.states ≡ 0 = ap length (w.orderly.unbegun fits) in omega (arith, none, has.0))
no_position q (State s) w has ended fits = (let none : length q.equations ≡ 0 = ap length fits.3 in omega (arith, none, has.0, has.1))
no_position q (Input i) w has ended fits = (let none : length q.equations ≡ 0 = ap length fits.2 in omega (arith, none, has.0, has.1))
no_position q (Noise n) w has ended fits = (let none : length q.equations ≡ 0 = ap length fits.1 in omega (arith, none, has.0, has.1))
no_position q (Next name e) w has ended fits = omega (arith, fits.0, has.1)
no_position q (Target b) w has ended fits = (w.rules.closed ended).0 fits.1
no_position q (Obstacle b) w has ended fits = (w.rules.closed ended).0 fits.1
no_position q (Goal kind) w has ended fits = (w.rules.closed ended).0 fits.1
no_position q End w has ended fits = (let open_still = fits.1 in cc)

-- ---- the grammar

one_piece : (q : PartialPlant) (x y : List ℕ) (m n : PartialPlant) (rest others : List ℕ) → KeepsRules q → FrontStep q x m → FrontStep q y n → x ++ rest ≡ y ++ others → x ≡ y
one_piece q x y m n rest others k a b e =
    let both : (a.0 ++ codes "\n") ++ rest ≡ (b.0 ++ codes "\n") ++ others = ap (λ (z : List ℕ). z ++ rest) (sym a.1) ∙ e ∙ ap (λ (z : List ℕ). z ++ others) b.1 in
    let same : a.0 ≡ b.0 = same_head a.0 b.0 (lines_of rest) (lines_of others) (sym (line_at q a.0 rest m k a.2) ∙ ap lines_of both ∙ line_at q b.0 others n k b.2) in
    a.1 ∙ ap (λ (line : List ℕ). line ++ codes "\n") same ∙ sym b.1

one_part : (q : PartialPlant) (x : List ℕ) (m n : PartialPlant) → KeepsRules q → FrontStep q x m → FrontStep q x n → m ≡ n
one_part q x m n k a b =
    one_stated q a.0 m n k a.2.stated (subst (λ (line : List ℕ). ExtendsCanonically q line n) (append_cancel_right b.0 a.0 (codes "\n") (sym b.1 ∙ a.1)) b.2).stated

pub front_is_grammar : IsGrammar FrontStep IsFrontEnded IsOnTheWay
front_is_grammar = record {
  one_piece = λ q m n x y rest others w a b e. one_piece q x y m n rest others w.rules a b e;
  one_state = λ q m n x w a b. one_part q x m n w.rules a b;
  met = λ q m x w step. onwards q step.0 m w step.2;
  some = λ q m behind w step. omega (arith, ap length step.1, length-append step.0 (codes "\n"));
  ends = λ q rest w ended piece behind r cut step. no_position q step.2.stated.statement w (has_equations q w.rules.placed (w.rules.closed ended).0) ended step.2.stated.fits;
}

-- ---- how far the front is read

pub at_first_line : (bytes : List ℕ) (q : PartialPlant) → q ≡ nothing_yet → IsReadInFront bytes bytes 1 q
at_first_line bytes q e = record {
  pieces = [];
  read = record { leads = e; are = refl };
  rules = subst KeepsRules (sym e) rules_of_nothing;
  numbered = refl;
  few = omega arith;
}

pub at_next_line : (bytes rest line after : List ℕ) (n : ℕ) (q r : PartialPlant) → IsReadInFront bytes rest n q → rest ≡ line ++ codes "\n" ++ after → length after < length rest → ExtendsCanonically q line r → KeepsRules r → IsReadInFront bytes after (n + 1) r
at_next_line bytes rest line after n q r up cut shorter extends rules = record {
  pieces = up.pieces ++ (line ++ codes "\n") ∷ [];
  read = read_on FrontStep nothing_yet q r bytes rest (line ++ codes "\n") after up.pieces up.read cut (line, refl, extends);
  rules = rules;
  numbered = omega (arith, up.numbered, length-append up.pieces ((line ++ codes "\n") ∷ []));
  few = omega (arith, up.few, shorter, length-append up.pieces ((line ++ codes "\n") ∷ []));
}

-- ---- where no line leads on

module _ (bytes rest : List ℕ) (n : ℕ) (q : PartialPlant) (up : IsReadInFront bytes rest n q) (goes_on : q.ended ≡ false) where
  refused_at : IsStuck FrontStep q rest → IsFirstRefusedAtFront bytes n
  refused_at stuck = record { pieces = up.pieces; next = up.numbered; to = q; rest = rest; read = up.read; stuck = stuck; unclosed = λ ended. (let open_still = goes_on in cc) }

  cut_at : (line piece behind : List ℕ) → rest ≡ piece ++ behind → piece ≡ line ++ codes "\n" → rest ≡ line ++ codes "\n" ++ behind
  cut_at line piece behind at is = at ∙ ap (λ (x : List ℕ). x ++ behind) is

  pub refused_here : (line after : List ℕ) → lines_of rest ≡ line ∷ lines_of after → ((r : PartialPlant) → ExtendsCanonically q line r → ⊥) → IsFirstRefusedAtFront bytes n
  refused_here line after cut refused =
      refused_at (λ piece behind r at step. (
      let here = ap lines_of (cut_at step.0 piece behind at step.1) ∙ line_at q step.0 behind r up.rules step.2 in
      refused r (subst (λ (x : List ℕ). ExtendsCanonically q x r) (same_head step.0 line (lines_of behind) (lines_of after) (sym here ∙ cut)) step.2)))

  pub no_line_left : None ≡ position (λ b. b == 10) rest → IsFirstRefusedAtFront bytes n
  no_line_left none =
      refused_at (λ piece behind r at step. feed_has_position step.0 behind (none ∙ ap (position (λ b. b == 10)) (cut_at step.0 piece behind at step.1 ∙ append_assoc step.0 (10 ∷ []) behind)))

-- ---- the text

text_led : (q : PartialPlant) (pieces : List (List ℕ)) (r : PartialPlant) → IsOnTheWay q → Leads FrontStep q pieces r → partial_text r ≡ partial_text q ++ joined pieces
text_led q [] r w leads = ap partial_text leads ∙ sym (append-nil (partial_text q))
text_led q (piece ∷ pieces) r w leads =
    let e = leads.1.2 in
    let here : partial_text leads.0 ≡ partial_text q ++ piece =
    ap partial_text e.stated.leads_to ∙ text_extended q w.rules w.orderly e.stated.statement e.stated.fits e.order ∙ ap (λ (x : List ℕ). partial_text q ++ x) (sym e.spelling ∙ sym leads.1.1) in
    text_led leads.0 pieces r (onwards q leads.1.0 leads.0 w e) leads.2 ∙ ap (λ (x : List ℕ). x ++ joined pieces) here ∙ append_assoc (partial_text q) piece (joined pieces)

module _ (bytes rest : List ℕ) (pieces : List (List ℕ)) (q : PartialPlant) (read : IsRead FrontStep nothing_yet bytes pieces q rest) where
  -- what is read is the text of the part
  pub read_text : take (length bytes - length rest) bytes ≡ partial_text q
  read_text =
      let text : partial_text q ≡ joined pieces = text_led nothing_yet pieces q at_the_beginning read.leads in
      let count : length bytes ≡ length (joined pieces) + length rest = ap length read.are ∙ length-append (joined pieces) rest in
      let here : length bytes - length rest ≡ length (joined pieces) = omega (arith, count) in
      ap (λ (k : ℕ). take k bytes) here ∙ ap (take (length (joined pieces))) read.are ∙ take-append_seam (joined pieces) rest ∙ sym text

  pub read_way : IsOnTheWay q
  read_way = met FrontStep IsFrontEnded IsOnTheWay front_is_grammar nothing_yet pieces q at_the_beginning read.leads

-- the text of a part that is whole is that of its plant
whole_text : (q : PartialPlant) (p : Description) → IsWhole q p → partial_text q ≡ text_of p
whole_text q p w =
    rw (w.version, w.closed, w.states, w.inputs, w.noises, w.equations, w.targets, w.obstacles, w.goal) refl

pub at_front : (bytes : List ℕ) (count : ℕ) (q : PartialPlant) (p : Description) → KeepsRules q → IsOrderly q → count ≤ length bytes → take count bytes ≡ partial_text q → IsWhole q p → IsFront bytes p count
at_front bytes count q p k o within text w =
    let plant = whole_is_plant q p k w in
    record { plant = plant; within = within; text = text ∙ whole_text q p w }

pub read_front : (bytes rest : List ℕ) (pieces : List (List ℕ)) (q : PartialPlant) (p : Description) → IsRead FrontStep nothing_yet bytes pieces q rest → IsWhole q p → IsFront bytes p (length bytes - length rest)
read_front bytes rest pieces q p read w =
    let way = read_way bytes rest pieces q read in
    at_front bytes (length bytes - length rest) q p way.rules way.orderly (omega arith) (read_text bytes rest pieces q read) w
