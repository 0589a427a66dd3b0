-- The words of canonical lines, and the bytes of expression texts; the lines of a plant's canonical text, and how
-- they lead to all of it.
use Rattle.std.proofs.Common.{◌≡◌, ℕ, zero, suc, ◌≤◌, Bool, true, false, cond, ltb, leb, List, [], ◌∷◌, ◌++◌, length, get_or, take, map, refl, arith, ◌<◌, Option, Some, None, sym, ap, subst, ◌∙◌, append_assoc}
use Rattle.std.specs.Prelude.{ℤ, pos, negsuc, codes, nat_lt}
use Rattle.std.specs.List.{All, AllZip, AllByRecursion, list_all, flat_map, join_with_byte}
use Rattle.std.specs.Fmt.{decimal, signed_decimal}
use Rattle.std.proofs.lemmas.Bool.{lt-ltb, leb-true, and_parts, and_from}
use Rattle.std.proofs.lemmas.Fmt.{decimal_nonempty}
use Rattle.std.proofs.lemmas.List.Elements.{All-get_or, recursion_from_All, All-append, All-map, All-weaker}
use Rattle.fixed_expr.specs.Expression.{Expression, NumExpr, VarExpr, NegExpr, AddExpr, SubExpr, MulExpr, DivExpr, MinExpr, MaxExpr, AbsExpr, LutExpr}
use Rattle.fixed_expr.specs.Curves.{IsShort}
use Rattle.plant_record.specs.declared.aims.GoalKind.{GoalKind}
use Rattle.plant_record.specs.declared.aims.GoalKind.TheVariants.{Reach, Keep}
use Rattle.plant_record.specs.declared.version.PlantVersion.{PlantVersion}
use Rattle.plant_record.specs.declared.version.PlantVersion.TheVariants.{One, Two}
use Rattle.line_words.specs.Names.{IsName, is_letter, is_digit, is_name_byte}
use Rattle.line_words.specs.Numbers.{IsLiteral}
use Rattle.plant_record.specs.Equations.{HasLiterals, IsEquation, HasNoLut}
use Rattle.plant_record.specs.StateBoxes.{AreEnds, IsStateBox}
use Rattle.plant_record.specs.declared.aims.StateBox.{StateBox}
use Rattle.plant_writing.specs.ExpressionText.{expression_text, point_text}
use Rattle.plant_record.specs.Spelling.{version_word, end_words, goal_word}
use Rattle.line_words.proofs.lemmas.Spelling.{decimal_digits}
use Rattle.line_words.proofs.lemmas.OneScan.{name_byte_above}
use Rattle.line_words.proofs.lemmas.PutTogether.{is_dark, is_printable, IsDarkWord, dark_printable, printable_both, words_front, words_joined}
use Rattle.std.proofs.lemmas.List.{append-nil, length-append, map-append, get_or_at}
use Rattle.plant_record.specs.declared.variables.StateVariable.{StateVariable}
use Rattle.plant_record.specs.declared.variables.InputVariable.{InputVariable}
use Rattle.plant_record.specs.declared.variables.NoiseVariable.{NoiseVariable}
use Rattle.plant_record.specs.Description.{Description, names_over, names_of}
use Rattle.plant_record.specs.Variables.{IsStateVariable, IsInputVariable, IsNoiseVariable}
use Rattle.plant_record.specs.Plants.{IsPlant}
use Rattle.plant_writing.specs.CanonicalText.{text_of, state_line, input_line, noise_line, equation_line, equation_lines, box_line}
use Rattle.base.specs.Lines.{line}
use Rattle.line_words.specs.Words.{words_of}
use Rattle.plant_reading.specs.Statements.{Statement, Version, State, Input, Noise, Next, Target, Obstacle, Goal, End, States}
use Rattle.plant_text.specs.Grammar.{PartialPlant, nothing_yet, names_in, FitsAfter, with_statement, IsWhole}
use Rattle.text_pieces.specs.Steps.{joined, Leads}
use Rattle.plant_text.specs.CanonicalFronts.{statement_line, IsInOrder, FrontStep}
use Rattle.plant_text.proofs.lemmas.ExpressionTokens.{tokens_spell}
use Rattle.plant_writing.proofs.lemmas.WrittenLines.{name_of_state}
use Rattle.plant_record.proofs.lemmas.VariableValues.{names_count}
use Rattle.plant_text.proofs.lemmas.Lists.{is_new, next, capacity, all_of}
use Rattle.std.proofs.lemmas.Option.{same_Some}

name_bytes : (w : List ℕ) → list_all is_name_byte w ≡ true → is_dark w ≡ true
name_bytes [] names = refl
name_bytes (b ∷ w) names =
    let parts = and_parts (is_name_byte b) (list_all is_name_byte w) names in
    and_from (ltb 32 b) (is_dark w) (lt-ltb 32 b (omega (arith, name_byte_above b parts.0))) (name_bytes w parts.1)

pub name_dark : (w : List ℕ) → IsName w → IsDarkWord w
name_dark [] name = absurd cc
name_dark (b ∷ w) name =
    let first = and_parts (is_letter b) _ name in
    let all = and_parts (list_all is_name_byte (b ∷ w)) _ first.1 in
    record { dark = name_bytes (b ∷ w) all.0; some = omega arith }

digit_bytes : (w : List ℕ) → list_all is_digit w ≡ true → is_dark w ≡ true
digit_bytes [] digits = refl
digit_bytes (b ∷ w) digits =
    let parts = and_parts (is_digit b) (list_all is_digit w) digits in
    let low : 48 ≤ b = leb-true 48 b (and_parts (leb 48 b) (leb b 57) parts.0).0 in
    and_from (ltb 32 b) (is_dark w) (lt-ltb 32 b (omega (arith, low))) (digit_bytes w parts.1)

pub number_dark : (z : ℤ) → IsLiteral z → IsDarkWord (signed_decimal z)
number_dark (pos n) lt = record { dark = digit_bytes (decimal n) (decimal_digits n (omega (arith, lt))); some = decimal_nonempty n (omega (arith, lt)) }
number_dark (negsuc n) lt = record { dark = digit_bytes (decimal (suc n)) (decimal_digits (suc n) (omega (arith, lt))); some = omega arith }

pub numbers_dark : (zs : List ℤ) → AllByRecursion IsLiteral zs → AllByRecursion IsDarkWord (map signed_decimal zs)
numbers_dark [] each = tt
numbers_dark (z ∷ zs) each = (number_dark z each.0, numbers_dark zs each.1)

pub ends_dark : (n : ℕ) (low high : List ℤ) → AllZip AreEnds (take n low) (take n high) → AllByRecursion IsDarkWord (end_words n low high)
ends_dark zero low high ends = tt
ends_dark (suc n) [] high ends = tt
ends_dark (suc n) (l ∷ low) [] ends = tt
ends_dark (suc n) (l ∷ low) (h ∷ high) ends = (number_dark l ends.0.0, (number_dark h ends.0.1, ends_dark n low high ends.1))

pub box_dark : (n : ℕ) (b : StateBox) → IsStateBox n b → AllByRecursion IsDarkWord (end_words n b.low b.high)
box_dark n b h = ends_dark n b.low b.high h.ends

pub version_dark : (v : PlantVersion) → IsDarkWord (version_word v)
version_dark One = record { dark = refl; some = omega arith }
version_dark Two = record { dark = refl; some = omega arith }

pub goal_dark : (goal : GoalKind) → IsDarkWord (goal_word goal)
goal_dark Reach = record { dark = refl; some = omega arith }
goal_dark Keep = record { dark = refl; some = omega arith }

-- ---- expressions

level_printable : (u : Bool) (text : List ℕ) → is_printable text ≡ true → is_printable (cond u (codes "(" ++ text ++ codes ")") text) ≡ true
level_printable true text h = printable_both (codes "(" ++ text) (codes ")") h refl
level_printable false text h = h

three : (a b d : List ℕ) → is_printable a ≡ true → is_printable b ≡ true → is_printable d ≡ true → is_printable (a ++ b ++ d) ≡ true
three a b d left middle right = printable_both (a ++ b) d (printable_both a b left middle) right

point_printable : (p : ℤ × ℤ) → IsShort p → is_printable (point_text p) ≡ true
point_printable p short =
    three (codes ", " ++ signed_decimal p.0) (codes ":") (signed_decimal p.1) (dark_printable (signed_decimal p.0) (number_dark p.0 short.0).dark) refl (dark_printable (signed_decimal p.1) (number_dark p.1 short.1).dark)

points_printable : (points : List (ℤ × ℤ)) → AllByRecursion IsShort points → is_printable (flat_map point_text points) ≡ true
points_printable [] each = refl
points_printable (p ∷ points) each = printable_both (point_text p) (flat_map point_text points) (point_printable p each.0) (points_printable points each.1)

pub expression_printable : (names : List (List ℕ)) (asked : ℕ) (e : Expression) → All IsName names → HasLiterals (length names) e → is_printable (expression_text names asked e) ≡ true
expression_printable names asked (NumExpr k) named h = dark_printable (signed_decimal k) (number_dark k h.1).dark
expression_printable names asked (VarExpr i) named h = dark_printable (get_or names i []) (name_dark (get_or names i []) (All-get_or IsName names i [] h named)).dark
expression_printable names asked (NegExpr a) named h = expression_printable names 3 a named h
expression_printable names asked (AddExpr a b) named h =
    level_printable (nat_lt 1 asked) (expression_text names 1 a ++ codes " + " ++ expression_text names 2 b)
    (three (expression_text names 1 a) (codes " + ") (expression_text names 2 b) (expression_printable names 1 a named h.0) refl (expression_printable names 2 b named h.1))
expression_printable names asked (SubExpr a b) named h =
    level_printable (nat_lt 1 asked) (expression_text names 1 a ++ codes " - " ++ expression_text names 2 b)
    (three (expression_text names 1 a) (codes " - ") (expression_text names 2 b) (expression_printable names 1 a named h.0) refl (expression_printable names 2 b named h.1))
expression_printable names asked (MulExpr a b) named h =
    level_printable (nat_lt 2 asked) (expression_text names 2 a ++ codes " * " ++ expression_text names 3 b)
    (three (expression_text names 2 a) (codes " * ") (expression_text names 3 b) (expression_printable names 2 a named h.0) refl (expression_printable names 3 b named h.1))
expression_printable names asked (DivExpr a k) named h =
    level_printable (nat_lt 2 asked) (expression_text names 2 a ++ codes " / " ++ signed_decimal k)
    (three (expression_text names 2 a) (codes " / ") (signed_decimal k) (expression_printable names 2 a named h.0) refl (dark_printable (signed_decimal k) (number_dark k h.2).dark))
expression_printable names asked (MinExpr a b) named h =
    printable_both (codes "min(" ++ expression_text names 1 a ++ codes ", " ++ expression_text names 1 b) (codes ")")
    (three (codes "min(" ++ expression_text names 1 a) (codes ", ") (expression_text names 1 b) (expression_printable names 1 a named h.0) refl (expression_printable names 1 b named h.1)) refl
expression_printable names asked (MaxExpr a b) named h =
    printable_both (codes "max(" ++ expression_text names 1 a ++ codes ", " ++ expression_text names 1 b) (codes ")")
    (three (codes "max(" ++ expression_text names 1 a) (codes ", ") (expression_text names 1 b) (expression_printable names 1 a named h.0) refl (expression_printable names 1 b named h.1)) refl
expression_printable names asked (AbsExpr a) named h = printable_both (codes "abs(" ++ expression_text names 1 a) (codes ")") (expression_printable names 1 a named h) refl
expression_printable names asked (LutExpr a points) named h =
    printable_both (codes "lut(" ++ expression_text names 1 a ++ flat_map point_text points) (codes ")")
    (printable_both (codes "lut(" ++ expression_text names 1 a) (flat_map point_text points) (expression_printable names 1 a named h.0) (points_printable points (recursion_from_All IsShort points h.1.short))) refl

pub equation_printable : (name text : List ℕ) → IsName name → is_printable text ≡ true → is_printable (join_with_byte 32 (codes "next" ∷ name ∷ codes "=" ∷ text ∷ [])) ≡ true
equation_printable name text named h = printable_both name (codes " = " ++ text) (dark_printable name (name_dark name named).dark) h

-- A text is that of pieces that lead from one part to another.
pub record LeadsBy (q : PartialPlant) (text : List ℕ) (r : PartialPlant) : Type 0 where
  pub pieces : List (List ℕ)
  pub are : joined pieces ≡ text
  pub leads : Leads FrontStep q pieces r

-- a line that states something, in front of others
stated : (q : PartialPlant) (body rest : List ℕ) (statement : Statement) (r : PartialPlant) → States (names_in q) (length q.states) (words_of body) statement → FitsAfter q statement → body ++ codes "\n" ≡ statement_line (names_in q) (length q.states) statement
    → IsInOrder q statement → LeadsBy (with_statement q statement) rest r → LeadsBy q ((body ++ codes "\n") ++ rest) r
stated q body rest statement r says fits spelled order more = record {
  pieces = (body ++ codes "\n") ∷ more.pieces;
  are = ap (λ (x : List ℕ). (body ++ codes "\n") ++ x) more.are;
  leads = (with_statement q statement, (body, refl, record { stated = record { statement = statement; states = says; fits = fits; leads_to = refl }; spelling = spelled; order = order }), more.leads);
}

-- the parts on the way
abbrev part : PlantVersion → List StateVariable → List InputVariable → List NoiseVariable → List Expression → List StateBox → List StateBox → Option GoalKind → PartialPlant
part version states inputs noises equations targets obstacles goal =
    record { version = Some version; states = states; inputs = inputs; noises = noises; equations = equations; targets = targets; obstacles = obstacles; goal = goal; ended = false }

-- ---- names

states_before : (done : List StateVariable) (s : StateVariable) (more : List StateVariable) (inputs : List InputVariable) (noises : List NoiseVariable)
    → names_over done [] [] ++ s.name ∷ names_over more inputs noises ≡ names_over (done ++ s ∷ more) inputs noises
states_before done s more inputs noises = simp (append-nil, map-append, append_assoc)

inputs_before : (states : List StateVariable) (done : List InputVariable) (i : InputVariable) (more : List InputVariable) (noises : List NoiseVariable)
    → names_over states done [] ++ i.name ∷ names_over [] more noises ≡ names_over states (done ++ i ∷ more) noises
inputs_before states done i more noises = simp (append-nil, map-append, append_assoc)

noises_before : (states : List StateVariable) (inputs : List InputVariable) (done : List NoiseVariable) (w : NoiseVariable) (more : List NoiseVariable)
    → names_over states inputs done ++ w.name ∷ names_over [] [] more ≡ names_over states inputs (done ++ w ∷ more)
noises_before states inputs done w more = simp (map-append, append_assoc)

-- ---- the variables

states_lead : (p : Description) (done more : List StateVariable) (rest : List ℕ) (r : PartialPlant) → IsPlant p → done ++ more ≡ p.states → AllByRecursion IsStateVariable more
    → LeadsBy (part p.version p.states [] [] [] [] [] None) rest r → LeadsBy (part p.version done [] [] [] [] [] None) (flat_map state_line more ++ rest) r
states_lead p done [] rest r h whole each then_rest = subst (λ (xs : List StateVariable). LeadsBy (part p.version xs [] [] [] [] [] None) rest r) (sym (all_of done p.states whole)) then_rest
states_lead p done (s ∷ more) rest r h whole each then_rest =
    let words = s.name ∷ signed_decimal s.low ∷ signed_decimal s.high ∷ signed_decimal s.width ∷ [] in
    let dark : AllByRecursion IsDarkWord words = (name_dark s.name each.0.name, (number_dark s.low each.0.low, (number_dark s.high each.0.high, (number_dark s.width each.0.width, tt)))) in
    let first : IsDarkWord (codes "state") = record { dark = refl; some = omega arith } in
    subst (λ (text : List ℕ). LeadsBy (part p.version done [] [] [] [] [] None) text r) (sym (append_assoc (state_line s) (flat_map state_line more) rest))
    (stated (part p.version done [] [] [] [] [] None) (join_with_byte 32 (codes "state" ∷ words)) (flat_map state_line more ++ rest) (State s) r
    (words_joined (codes "state") words first dark, each.0) (
      λ e. cc,
      refl,
      refl,
      refl,
      capacity done s more p.states 6 whole h.states_bound,
      is_new (names_of p) (names_over done [] []) s.name (names_over more p.inputs p.noises) h.names_differ (states_before done s more p.inputs p.noises ∙ ap (λ (xs : List StateVariable). names_over xs p.inputs p.noises) whole),
    )
    refl tt
    (states_lead p (done ++ s ∷ []) more rest r h (next done s more p.states whole) each.1 then_rest))

inputs_lead : (p : Description) (done more : List InputVariable) (rest : List ℕ) (r : PartialPlant) → IsPlant p → done ++ more ≡ p.inputs → AllByRecursion IsInputVariable more
    → LeadsBy (part p.version p.states p.inputs [] [] [] [] None) rest r → LeadsBy (part p.version p.states done [] [] [] [] None) (flat_map input_line more ++ rest) r
inputs_lead p done [] rest r h whole each then_rest = subst (λ (xs : List InputVariable). LeadsBy (part p.version p.states xs [] [] [] [] None) rest r) (sym (all_of done p.inputs whole)) then_rest
inputs_lead p done (i ∷ more) rest r h whole each then_rest =
    let words = i.name ∷ map signed_decimal i.values in
    let dark : AllByRecursion IsDarkWord words = (name_dark i.name each.0.name, numbers_dark i.values (recursion_from_All IsLiteral i.values each.0.each)) in
    let first : IsDarkWord (codes "input") = record { dark = refl; some = omega arith } in
    subst (λ (text : List ℕ). LeadsBy (part p.version p.states done [] [] [] [] None) text r) (sym (append_assoc (input_line i) (flat_map input_line more) rest))
    (stated (part p.version p.states done [] [] [] [] None) (join_with_byte 32 (codes "input" ∷ words)) (flat_map input_line more ++ rest) (Input i) r
    (words_joined (codes "input") words first dark, each.0) (
      h.some_state,
      refl,
      refl,
      capacity done i more p.inputs 3 whole h.inputs_bound,
      is_new (names_of p) (names_over p.states done []) i.name (names_over [] more p.noises) h.names_differ (inputs_before p.states done i more p.noises ∙ ap (λ (xs : List InputVariable). names_over p.states xs p.noises) whole),
    )
    refl tt
    (inputs_lead p (done ++ i ∷ []) more rest r h (next done i more p.inputs whole) each.1 then_rest))

noises_lead : (p : Description) (done more : List NoiseVariable) (rest : List ℕ) (r : PartialPlant) → IsPlant p → done ++ more ≡ p.noises → AllByRecursion IsNoiseVariable more
    → LeadsBy (part p.version p.states p.inputs p.noises [] [] [] None) rest r → LeadsBy (part p.version p.states p.inputs done [] [] [] None) (flat_map noise_line more ++ rest) r
noises_lead p done [] rest r h whole each then_rest = subst (λ (xs : List NoiseVariable). LeadsBy (part p.version p.states p.inputs xs [] [] [] None) rest r) (sym (all_of done p.noises whole)) then_rest
noises_lead p done (w ∷ more) rest r h whole each then_rest =
    let words = w.name ∷ signed_decimal w.low ∷ signed_decimal w.high ∷ [] in
    let dark : AllByRecursion IsDarkWord words = (name_dark w.name each.0.name, (number_dark w.low each.0.low, (number_dark w.high each.0.high, tt))) in
    let first : IsDarkWord (codes "noise") = record { dark = refl; some = omega arith } in
    subst (λ (text : List ℕ). LeadsBy (part p.version p.states p.inputs done [] [] [] None) text r) (sym (append_assoc (noise_line w) (flat_map noise_line more) rest))
    (stated (part p.version p.states p.inputs done [] [] [] None) (join_with_byte 32 (codes "noise" ∷ words)) (flat_map noise_line more ++ rest) (Noise w) r
    (words_joined (codes "noise") words first dark, each.0) (
      h.some_state,
      refl,
      capacity done w more p.noises 6 whole h.noises_bound,
      is_new (names_of p) (names_over p.states p.inputs done) w.name (names_over [] [] more) h.names_differ (noises_before p.states p.inputs done w more ∙ ap (λ (xs : List NoiseVariable). names_over p.states p.inputs xs) whole),
    )
    refl tt
    (noises_lead p (done ++ w ∷ []) more rest r h (next done w more p.noises whole) each.1 then_rest))

-- ---- the equations

names_named : (p : Description) → IsPlant p → All IsName (names_of p)
names_named p h =
    All-append IsName (map (λ (s : StateVariable). s.name) p.states ++ map (λ (i : InputVariable). i.name) p.inputs) (map (λ (w : NoiseVariable). w.name) p.noises)
    (All-append IsName (map (λ (s : StateVariable). s.name) p.states) (map (λ (i : InputVariable). i.name) p.inputs)
    (All-map IsName (λ (s : StateVariable). s.name) p.states (All-weaker IsStateVariable (λ (s : StateVariable). IsName s.name) (λ s v. v.name) p.states h.states))
    (All-map IsName (λ (i : InputVariable). i.name) p.inputs (All-weaker IsInputVariable (λ (i : InputVariable). IsName i.name) (λ i v. v.name) p.inputs h.inputs)))
    (All-map IsName (λ (w : NoiseVariable). w.name) p.noises (All-weaker IsNoiseVariable (λ (w : NoiseVariable). IsName w.name) (λ w v. v.name) p.noises h.noises))

equation_words : (name text : List ℕ) → IsName name → words_of (join_with_byte 32 (codes "next" ∷ name ∷ codes "=" ∷ text ∷ [])) ≡ codes "next" ∷ name ∷ codes "=" ∷ words_of text
equation_words name text named =
    words_front (codes "next") (name ++ 32 ∷ (codes "=" ++ 32 ∷ text)) (record { dark = refl; some = omega arith })
    ∙ ap (λ (ws : List (List ℕ)). codes "next" ∷ ws)
    (words_front name (codes "=" ++ 32 ∷ text) (name_dark name named) ∙ ap (λ (ws : List (List ℕ)). name ∷ ws) (words_front (codes "=") text (record { dark = refl; some = omega arith })))

equations_lead : (p : Description) (done more : List Expression) (passed states : List StateVariable) (rest : List ℕ) (r : PartialPlant) → IsPlant p → done ++ more ≡ p.equations → passed ++ states ≡ p.states → length done ≡ length passed
    → AllByRecursion (IsEquation (length (names_of p))) more → (p.version ≡ One → AllByRecursion HasNoLut more)
    → LeadsBy (part p.version p.states p.inputs p.noises p.equations [] [] None) rest r → LeadsBy (part p.version p.states p.inputs p.noises done [] [] None) (equation_lines (names_of p) states more ++ rest) r
equations_lead p done [] passed [] rest r h whole along same each plain then_rest = subst (λ (xs : List Expression). LeadsBy (part p.version p.states p.inputs p.noises xs [] [] None) rest r) (sym (all_of done p.equations whole)) then_rest
equations_lead p done [] passed (s ∷ states) rest r h whole along same each plain then_rest =
    absurd (omega (arith, same, h.one_each, length-append done [], length-append passed (s ∷ states), ap length whole, ap length along))
equations_lead p done (e ∷ more) passed [] rest r h whole along same each plain then_rest =
    absurd (omega (arith, same, h.one_each, length-append done (e ∷ more), length-append passed [], ap length whole, ap length along))
equations_lead p done (e ∷ more) passed (s ∷ states) rest r h whole along same each plain then_rest =
    let names = names_of p in
    let text = expression_text names 1 e in
    let lt : length done < length p.states = omega (arith, same, length-append passed (s ∷ states), ap length along) in
    let here : get_or p.states (length done) s ≡ s = ap (λ (xs : List StateVariable). get_or xs (length done) s) (sym along) ∙ get_or_at passed s states s (length done) (sym same) in
    let name_is : get_or names (length done) [] ≡ s.name = name_of_state p (length done) s lt ∙ ap (λ (x : StateVariable). x.name) here in
    let named : IsName s.name = subst IsName name_is (All-get_or IsName names (length done) [] (omega (arith, lt, names_count p)) (names_named p h)) in
    subst (λ (t : List ℕ). LeadsBy (part p.version p.states p.inputs p.noises done [] [] None) t r) (sym (append_assoc (equation_line names s.name e) (equation_lines names states more) rest))
    (stated (part p.version p.states p.inputs p.noises done [] [] None) (join_with_byte 32 (codes "next" ∷ s.name ∷ codes "=" ∷ text ∷ [])) (equation_lines names states more ++ rest) (Next s.name e) r
    (words_of text, equation_words s.name text named, tokens_spell names e (names_named p h) each.0)
    (lt, name_is, λ one. (plain (same_Some p.version One one)).0)
    refl tt
    (equations_lead p (done ++ e ∷ []) more (passed ++ s ∷ []) states rest r h (next done e more p.equations whole) (next passed s states p.states along)
    (omega (arith, same, length-append done (e ∷ []), length-append passed (s ∷ [])))
    each.1 (λ one. (plain one).1) then_rest))

-- ---- the boxes

targets_lead : (p : Description) (done more : List StateBox) (rest : List ℕ) (r : PartialPlant) → IsPlant p → done ++ more ≡ p.targets → AllByRecursion (IsStateBox (length p.states)) more
    → LeadsBy (part p.version p.states p.inputs p.noises p.equations p.targets [] None) rest r
    → LeadsBy (part p.version p.states p.inputs p.noises p.equations done [] None) (flat_map (box_line (codes "target") (length p.states)) more ++ rest) r
targets_lead p done [] rest r h whole each then_rest = subst (λ (xs : List StateBox). LeadsBy (part p.version p.states p.inputs p.noises p.equations xs [] None) rest r) (sym (all_of done p.targets whole)) then_rest
targets_lead p done (b ∷ more) rest r h whole each then_rest =
    let n = length p.states in
    let words = end_words n b.low b.high in
    let first : IsDarkWord (codes "target") = record { dark = refl; some = omega arith } in
    subst (λ (t : List ℕ). LeadsBy (part p.version p.states p.inputs p.noises p.equations done [] None) t r) (sym (append_assoc (box_line (codes "target") n b) (flat_map (box_line (codes "target") n) more) rest))
    (stated (part p.version p.states p.inputs p.noises p.equations done [] None) (join_with_byte 32 (codes "target" ∷ words)) (flat_map (box_line (codes "target") n) more ++ rest) (Target b) r
    (words_joined (codes "target") words first (box_dark n b each.0), each.0)
    ((h.some_state, h.one_each), refl, capacity done b more p.targets 64 whole h.targets_bound)
    refl refl
    (targets_lead p (done ++ b ∷ []) more rest r h (next done b more p.targets whole) each.1 then_rest))

obstacles_lead : (p : Description) (done more : List StateBox) (rest : List ℕ) (r : PartialPlant) → IsPlant p → done ++ more ≡ p.obstacles → AllByRecursion (IsStateBox (length p.states)) more
    → LeadsBy (part p.version p.states p.inputs p.noises p.equations p.targets p.obstacles None) rest r
    → LeadsBy (part p.version p.states p.inputs p.noises p.equations p.targets done None) (flat_map (box_line (codes "obstacle") (length p.states)) more ++ rest) r
obstacles_lead p done [] rest r h whole each then_rest =
    subst (λ (xs : List StateBox). LeadsBy (part p.version p.states p.inputs p.noises p.equations p.targets xs None) rest r) (sym (all_of done p.obstacles whole)) then_rest
obstacles_lead p done (b ∷ more) rest r h whole each then_rest =
    let n = length p.states in
    let words = end_words n b.low b.high in
    let first : IsDarkWord (codes "obstacle") = record { dark = refl; some = omega arith } in
    subst (λ (t : List ℕ). LeadsBy (part p.version p.states p.inputs p.noises p.equations p.targets done None) t r) (sym (append_assoc (box_line (codes "obstacle") n b) (flat_map (box_line (codes "obstacle") n) more) rest))
    (stated (part p.version p.states p.inputs p.noises p.equations p.targets done None) (join_with_byte 32 (codes "obstacle" ∷ words)) (flat_map (box_line (codes "obstacle") n) more ++ rest) (Obstacle b) r
    (words_joined (codes "obstacle") words first (box_dark n b each.0), each.0)
    ((h.some_state, h.one_each), refl, capacity done b more p.obstacles 64 whole h.obstacles_bound)
    refl tt
    (obstacles_lead p (done ++ b ∷ []) more rest r h (next done b more p.obstacles whole) each.1 then_rest))

-- ---- the whole

-- all of a plant
abbrev pub whole_plant_part : Description → PartialPlant
whole_plant_part p = record (part p.version p.states p.inputs p.noises p.equations p.targets p.obstacles (Some p.goal)) { ended = true }

no_more : {q : PartialPlant} → LeadsBy q [] q
no_more = record { pieces = []; are = refl; leads = refl }

goal_leads : (p : Description) → IsPlant p → LeadsBy (part p.version p.states p.inputs p.noises p.equations p.targets p.obstacles None) (line (codes "goal" ∷ goal_word p.goal ∷ []) ++ (line (codes "end" ∷ []) ++ [])) (whole_plant_part p)
goal_leads p h =
    let first : IsDarkWord (codes "goal") = record { dark = refl; some = omega arith } in
    stated (part p.version p.states p.inputs p.noises p.equations p.targets p.obstacles None) (join_with_byte 32 (codes "goal" ∷ goal_word p.goal ∷ [])) (line (codes "end" ∷ []) ++ []) (Goal p.goal) (whole_plant_part p)
    (words_joined (codes "goal") (goal_word p.goal ∷ []) first (goal_dark p.goal, tt))
    ((h.some_state, h.one_each), refl, h.kept_aims_nowhere)
    refl tt
    (stated (part p.version p.states p.inputs p.noises p.equations p.targets p.obstacles (Some p.goal)) (codes "end") [] End (whole_plant_part p) refl ((λ e. cc), refl) refl tt no_more)

regrouped : (a b c d e f g i j : List ℕ) → a ++ b ++ c ++ d ++ e ++ f ++ g ++ i ++ j ≡ a ++ (b ++ (c ++ (d ++ (e ++ (f ++ (g ++ (i ++ (j ++ []))))))))
regrouped a b c d e f g i j = simp (append_assoc, append-nil)

pub is_whole : (p : Description) → IsWhole (whole_plant_part p) p
is_whole p = record { closed = refl; version = refl; states = refl; inputs = refl; noises = refl; equations = refl; targets = refl; obstacles = refl; goal = refl }

version_words : (v : PlantVersion) → words_of (join_with_byte 32 (codes "plant" ∷ version_word v ∷ [])) ≡ codes "plant" ∷ version_word v ∷ []
version_words One = refl
version_words Two = refl

pub plant_lines : (p : Description) → IsPlant p → LeadsBy nothing_yet (text_of p) (whole_plant_part p)
plant_lines p h =
    let n = length p.states in
    let ending = line (codes "goal" ∷ goal_word p.goal ∷ []) ++ (line (codes "end" ∷ []) ++ []) in
    let from_obstacles = flat_map (box_line (codes "obstacle") n) p.obstacles ++ ending in
    let from_targets = flat_map (box_line (codes "target") n) p.targets ++ from_obstacles in
    let from_equations = equation_lines (names_of p) p.states p.equations ++ from_targets in
    let from_noises = flat_map noise_line p.noises ++ from_equations in
    let from_inputs = flat_map input_line p.inputs ++ from_noises in
    let from_states = flat_map state_line p.states ++ from_inputs in
    let text : line (codes "plant" ∷ version_word p.version ∷ []) ++ from_states ≡ text_of p =
    sym (
    regrouped (line (codes "plant" ∷ version_word p.version ∷ [])) (flat_map state_line p.states) (flat_map input_line p.inputs) (flat_map noise_line p.noises) (equation_lines (names_of p) p.states p.equations)
    (flat_map (box_line (codes "target") n) p.targets) (flat_map (box_line (codes "obstacle") n) p.obstacles) (line (codes "goal" ∷ goal_word p.goal ∷ [])) (line (codes "end" ∷ []))
    )
    in
    subst (λ (t : List ℕ). LeadsBy nothing_yet t (whole_plant_part p)) text
    (stated nothing_yet (join_with_byte 32 (codes "plant" ∷ version_word p.version ∷ [])) from_states (Version p.version) (whole_plant_part p) (version_words p.version) refl refl tt
    (states_lead p [] p.states from_inputs (whole_plant_part p) h refl (recursion_from_All IsStateVariable p.states h.states)
    (inputs_lead p [] p.inputs from_noises (whole_plant_part p) h refl (recursion_from_All IsInputVariable p.inputs h.inputs)
    (noises_lead p [] p.noises from_equations (whole_plant_part p) h refl (recursion_from_All IsNoiseVariable p.noises h.noises)
    (equations_lead p [] p.equations [] p.states from_targets (whole_plant_part p) h refl refl refl (recursion_from_All (IsEquation (length (names_of p))) p.equations h.equations) (λ one. recursion_from_All HasNoLut p.equations (h.tables one))
    (targets_lead p [] p.targets from_obstacles (whole_plant_part p) h refl (recursion_from_All (IsStateBox n) p.targets h.targets)
    (obstacles_lead p [] p.obstacles ending (whole_plant_part p) h refl (recursion_from_All (IsStateBox n) p.obstacles h.obstacles)
    (goal_leads p h))))))))
