-- A line that begins with a keyword states something of that kind: one thing at most, and nothing where it is skipped.
use Rattle.std.proofs.Common.{◌≡◌, ℕ, ◌+◌, ◌*◌, ◌<◌, ◌≤◌, true, false, List, [], ◌∷◌, get_or, below_more, refl, sym, ap, ◌∙◌, arith, ◌≢◌, ap₂, zero, suc, ◌-◌, ◌++◌, length, map, take, replicate, subst}
use Rattle.std.specs.Prelude.{codes, ℤ, pos, AllPairs}
use Rattle.std.specs.List.{flat_map, All, AllZip}
use Rattle.std.specs.Str.{bytes_eq}
use Rattle.fixed_expr.specs.Expression.{Expression}
use Rattle.plant_record.specs.declared.version.PlantVersion.{PlantVersion}
use Rattle.plant_record.specs.Spelling.{version_word, end_words, goal_word}
use Rattle.plant_reading.specs.declared.statements.Keyword.{Keyword}
use Rattle.plant_reading.specs.declared.statements.Keyword.TheVariants as keywords
use Rattle.plant_reading.specs.declared.statements.TheConstants.{KEYWORDS}
use Rattle.plant_reading.specs.inside.Keywords.{keyword_text}
use Rattle.line_words.specs.Tokens.{tokens_of}
use Rattle.expression_reading.specs.SyntaxTrees.{AreTokensOf}
use Rattle.plant_reading.specs.Statements.{Statement, Version, State, Input, Noise, Next, Target, Obstacle, Goal, End, States}
use Rattle.expression_reading.proofs.lemmas.Literals.{is_same}
use Rattle.std.specs.Fmt.{signed_decimal}
use Rattle.std.proofs.lemmas.Bool.{eqb-true}
use Rattle.std.proofs.lemmas.List.Elements.{All-head, All-tail}
use Rattle.plant_record.specs.declared.variables.StateVariable.{StateVariable}
use Rattle.plant_record.specs.declared.variables.InputVariable.{InputVariable}
use Rattle.plant_record.specs.declared.variables.NoiseVariable.{NoiseVariable}
use Rattle.plant_record.specs.declared.aims.StateBox.{StateBox}
use Rattle.plant_record.specs.declared.aims.GoalKind.{GoalKind}
use Rattle.plant_record.specs.declared.aims.GoalKind.TheVariants.{Reach, Keep}
use Rattle.plant_record.specs.declared.version.PlantVersion.TheVariants.{One, Two}
use Rattle.line_words.specs.Names.{IsName}
use Rattle.line_words.specs.Numbers.{IsLiteral}
use Rattle.plant_record.specs.StateBoxes.{AreEnds}
use Rattle.line_words.specs.Words.{words_of, is_skipped}
use Rattle.expression_reading.specs.Laws.{OneExpression}
use Rattle.statement_words.specs.LineReaders.{SpellsState, SpellsInput, SpellsNoise, SpellsBox}
use Rattle.line_words.proofs.lemmas.NumberWords.{one_number}

-- the first two bytes of the first word, which tell the keywords apart
abbrev pub front_of : List (List ℕ) → ℕ × ℕ
front_of words = (get_or (get_or words 0 []) 0 0, get_or (get_or words 0 []) 1 0)

abbrev pub kind_of : Statement → ℕ × ℕ
kind_of (Version v) = (112, 108)
kind_of (State s) = (115, 116)
kind_of (Input i) = (105, 110)
kind_of (Noise w) = (110, 111)
kind_of (Next name e) = (110, 101)
kind_of (Target b) = (116, 97)
kind_of (Obstacle b) = (111, 98)
kind_of (Goal kind) = (103, 111)
kind_of End = (101, 110)

pub front_is : (names : List (List ℕ)) (n : ℕ) (words : List (List ℕ)) (s : Statement) → States names n words s → front_of words ≡ kind_of s
front_is names n words (Version v) h = ap front_of h
front_is names n words (State s) h = ap front_of h.0
front_is names n words (Input i) h = ap front_of h.0
front_is names n words (Noise w) h = ap front_of h.0
front_is names n words (Next name e) h = ap front_of h.1
front_is names n words (Target b) h = ap front_of h.0
front_is names n words (Obstacle b) h = ap front_of h.0
front_is names n words (Goal kind) h = ap front_of h
front_is names n words End h = ap front_of h

-- two fronts that differ
clash : (a b : ℕ × ℕ) → a ≡ b → (a.0 * 256 + a.1 ≡ b.0 * 256 + b.1)
clash a b e = ap (λ (p : ℕ × ℕ). p.0 * 256 + p.1) e

pub only_version : (names : List (List ℕ)) (n : ℕ) (ws : List (List ℕ)) (s : Statement) → States names n (codes "plant" ∷ ws) s → (v : PlantVersion) × (ws ≡ version_word v ∷ [])
only_version names n ws (Version v) h = (v, cc h)
only_version names n ws s h = absurd (omega (arith, clash (112, 108) (kind_of s) (front_is names n (codes "plant" ∷ ws) s h)))

pub only_next : (names : List (List ℕ)) (n : ℕ) (ws : List (List ℕ)) (s : Statement) → States names n (codes "next" ∷ ws) s → (name : List ℕ) × (e : Expression) × (rest : List (List ℕ)) × (ws ≡ name ∷ codes "=" ∷ rest) × AreTokensOf names (flat_map tokens_of rest) e
only_next names n ws (Next name e) h = (name, e, h.0, cc (h.1), h.2)
only_next names n ws s h = absurd (omega (arith, clash (110, 101) (kind_of s) (front_is names n (codes "next" ∷ ws) s h)))

pub only_end : (names : List (List ℕ)) (n : ℕ) (ws : List (List ℕ)) (s : Statement) → States names n (codes "end" ∷ ws) s → ws ≡ []
only_end names n ws End h = cc h
only_end names n ws s h = absurd (omega (arith, clash (101, 110) (kind_of s) (front_is names n (codes "end" ∷ ws) s h)))

-- the first word of a line that states something is a keyword
pub has_keyword : (names : List (List ℕ)) (n : ℕ) (words : List (List ℕ)) (w : List ℕ) (ws : List (List ℕ)) (s : Statement) → States names n words s → words ≡ w ∷ ws → (k : Keyword) × (w ≡ keyword_text k)
has_keyword names n words w ws (Version v) h e = (keywords.Plant, cc (h, e))
has_keyword names n words w ws (State s) h e = (keywords.State, cc (h.0, e))
has_keyword names n words w ws (Input i) h e = (keywords.Input, cc (h.0, e))
has_keyword names n words w ws (Noise v) h e = (keywords.Noise, cc (h.0, e))
has_keyword names n words w ws (Next name f) h e = (keywords.Next, cc (h.1, e))
has_keyword names n words w ws (Target b) h e = (keywords.Target, cc (h.0, e))
has_keyword names n words w ws (Obstacle b) h e = (keywords.Obstacle, cc (h.0, e))
has_keyword names n words w ws (Goal kind) h e = (keywords.Goal, cc (h, e))
has_keyword names n words w ws End h e = (keywords.End, cc (h, e))

-- each keyword stands in the list
position_of : (k : Keyword) → (i : ℕ) × (i < 9) × (get_or KEYWORDS i keywords.Plant ≡ k)
position_of keywords.Plant = (0, omega arith, refl)
position_of keywords.State = (1, omega arith, refl)
position_of keywords.Input = (2, omega arith, refl)
position_of keywords.Noise = (3, omega arith, refl)
position_of keywords.Next = (4, omega arith, refl)
position_of keywords.Target = (5, omega arith, refl)
position_of keywords.Obstacle = (6, omega arith, refl)
position_of keywords.Goal = (7, omega arith, refl)
position_of keywords.End = (8, omega arith, refl)

-- a word that differs from the next keyword too
pub none_more : (word text : List ℕ) (n : ℕ) → ((i : ℕ) → i < n → word ≡ keyword_text (get_or KEYWORDS i keywords.Plant) → ⊥) → text ≡ keyword_text (get_or KEYWORDS n keywords.Plant) → bytes_eq word text ≡ false → (i : ℕ) → i < n + 1 → word ≡ keyword_text (get_or KEYWORDS i keywords.Plant) → ⊥
none_more word text n none is differs =
    below_more (λ (i : ℕ). word ≡ keyword_text (get_or KEYWORDS i keywords.Plant) → ⊥) n none (λ e. let again : bytes_eq word text ≡ true = is_same word text (e ∙ sym is) in absurd cc)

-- a word that is none of them is no keyword
pub no_keyword : (word : List ℕ) (n : ℕ) → 9 ≤ n → ((i : ℕ) → i < n → word ≡ keyword_text (get_or KEYWORDS i keywords.Plant) → ⊥) → (k : Keyword) → word ≡ keyword_text k → ⊥
no_keyword word n all none k e = let at = position_of k in none at.0 (omega (arith, all, at.1)) (e ∙ sym (ap keyword_text at.2))

abbrev state_of : List ℕ → ℤ → ℤ → ℤ → StateVariable
state_of name low high width = record { name = name; low = low; high = high; width = width }

abbrev noise_of : List ℕ → ℤ → ℤ → NoiseVariable
noise_of name low high = record { name = name; low = low; high = high }

abbrev input_of : List ℕ → List ℤ → InputVariable
input_of name values = record { name = name; values = values }

abbrev box_of : List ℤ → List ℤ → StateBox
box_of low high = record { low = low; high = high }

one_state : (words : List (List ℕ)) (s t : StateVariable) → SpellsState words s → SpellsState words t → s ≡ t
one_state words s t h k =
    let name : s.name ≡ t.name = cc (h.0, k.0) in
    let low : s.low ≡ t.low = one_number s.low t.low h.1.low k.1.low (cc (h.0, k.0)) in
    let high : s.high ≡ t.high = one_number s.high t.high h.1.high k.1.high (cc (h.0, k.0)) in
    let width : s.width ≡ t.width = one_number s.width t.width h.1.width k.1.width (cc (h.0, k.0)) in
    let whole : state_of s.name s.low s.high s.width ≡ state_of t.name t.low t.high t.width = rw (name, low, high, width) refl in
    whole

one_noise : (words : List (List ℕ)) (v w : NoiseVariable) → SpellsNoise words v → SpellsNoise words w → v ≡ w
one_noise words v w h k =
    let name : v.name ≡ w.name = cc (h.0, k.0) in
    let low : v.low ≡ w.low = one_number v.low w.low h.1.low k.1.low (cc (h.0, k.0)) in
    let high : v.high ≡ w.high = one_number v.high w.high h.1.high k.1.high (cc (h.0, k.0)) in
    let whole : noise_of v.name v.low v.high ≡ noise_of w.name w.low w.high = rw (name, low, high) refl in
    whole

one_list : (xs ys : List ℤ) → map signed_decimal xs ≡ map signed_decimal ys → All IsLiteral xs → All IsLiteral ys → xs ≡ ys
one_list [] [] e h k = refl
one_list [] (y ∷ ys) e h k = cc
one_list (x ∷ xs) [] e h k = cc
one_list (x ∷ xs) (y ∷ ys) e h k =
    let first : x ≡ y = one_number x y (All-head IsLiteral x xs h) (All-head IsLiteral y ys k) (cc) in
    ap₂ (λ (z : ℤ) (zs : List ℤ). z ∷ zs) first (one_list xs ys (cc) (All-tail IsLiteral x xs h) (All-tail IsLiteral y ys k))

one_input : (words : List (List ℕ)) (i j : InputVariable) → SpellsInput words i → SpellsInput words j → i ≡ j
one_input words i j h k =
    let name : i.name ≡ j.name = cc (h.0, k.0) in
    let values : i.values ≡ j.values = one_list i.values j.values (cc (h.0, k.0)) h.1.each k.1.each in
    ap₂ input_of name values

-- the first n ends
one_pair_list : (n : ℕ) (xs ys zs ws : List ℤ) → end_words n xs ys ≡ end_words n zs ws → length (take n xs) ≡ n → length (take n zs) ≡ n → AllZip AreEnds (take n xs) (take n ys) → AllZip AreEnds (take n zs) (take n ws)
    → (take n xs ≡ take n zs) × (take n ys ≡ take n ws)
one_pair_list zero xs ys zs ws e m k f g = (refl, refl)
one_pair_list (suc n) [] ys zs ws e m k f g = absurd (omega (arith, m))
one_pair_list (suc n) (x ∷ xs) [] zs ws e m k f g = absurd f
one_pair_list (suc n) (x ∷ xs) (y ∷ ys) [] ws e m k f g = absurd (omega (arith, k))
one_pair_list (suc n) (x ∷ xs) (y ∷ ys) (z ∷ zs) [] e m k f g = absurd g
one_pair_list (suc n) (x ∷ xs) (y ∷ ys) (z ∷ zs) (w ∷ ws) e m k f g =
    let low : x ≡ z = one_number x z f.0.0 g.0.0 (cc e) in
    let high : y ≡ w = one_number y w f.0.1 g.0.1 (cc e) in
    let rest = one_pair_list n xs ys zs ws (cc e) (omega (arith, m)) (omega (arith, k)) f.1 g.1 in
    (ap₂ (λ (z : ℤ) (zs : List ℤ). z ∷ zs) low rest.0, ap₂ (λ (z : ℤ) (zs : List ℤ). z ∷ zs) high rest.1)

one_box : (n : ℕ) (words : List (List ℕ)) (b d : StateBox) → SpellsBox n words b → SpellsBox n words d → b ≡ d
one_box n words b d h k =
    let same = one_pair_list n b.low b.high d.low d.high (sym h.0 ∙ k.0) h.1.low_count k.1.low_count h.1.ends k.1.ends in
    let low : b.low ≡ d.low = h.1.low_rest ∙ ap (λ (xs : List ℤ). xs ++ replicate (6 - n) (pos 0)) same.0 ∙ sym k.1.low_rest in
    let high : b.high ≡ d.high = h.1.high_rest ∙ ap (λ (xs : List ℤ). xs ++ replicate (6 - n) (pos 0)) same.1 ∙ sym k.1.high_rest in
    ap₂ box_of low high

first_byte : (j k : GoalKind) → goal_word j ∷ [] ≡ goal_word k ∷ [] → get_or (goal_word j) 0 0 ≡ get_or (goal_word k) 0 0
first_byte j k e = ap (λ (ws : List (List ℕ)). get_or (get_or ws 0 []) 0 0) e

one_goal : (j k : GoalKind) → goal_word j ∷ [] ≡ goal_word k ∷ [] → j ≡ k
one_goal Reach Reach e = refl
one_goal Reach Keep e = absurd (omega (arith, first_byte Reach Keep e))
one_goal Keep Reach e = absurd (omega (arith, first_byte Keep Reach e))
one_goal Keep Keep e = refl

one_version : (v w : PlantVersion) → version_word v ∷ [] ≡ version_word w ∷ [] → v ≡ w
one_version One One e = refl
one_version One Two e = absurd (omega (arith, ap (λ (ws : List (List ℕ)). get_or (get_or ws 0 []) 0 0) e))
one_version Two One e = absurd (omega (arith, ap (λ (ws : List (List ℕ)). get_or (get_or ws 0 []) 0 0) e))
one_version Two Two e = refl

one_equation : (names words : List (List ℕ)) (n : ℕ) (name other : List ℕ) (e f : Expression) → OneExpression → AllPairs (λ a b. a ≢ b) names → All IsName names → States names n words (Next name e) → States names n words (Next other f) → Next name e ≡ Next other f
one_equation names words n name other e f one differ named h k =
    let same-name : name ≡ other = cc (h.1, k.1) in
    let same-rest : k.0 ≡ h.0 = cc (h.1, k.1) in
    let same : e ≡ f = one names (flat_map tokens_of h.0) e f differ named h.2 (subst (λ (ws : List (List ℕ)). AreTokensOf names (flat_map tokens_of ws) f) same-rest k.2) in
    ap₂ Next same-name same

-- the number that tells the kinds of statements apart
abbrev tag : ℕ × ℕ → ℕ
tag p = p.0 * 256 + p.1

same_kind : (names : List (List ℕ)) (n : ℕ) (words : List (List ℕ)) (s t : Statement) → States names n words s → States names n words t → tag (kind_of s) ≡ tag (kind_of t)
same_kind names n words s t h k = ap tag (sym (front_is names n words s h) ∙ front_is names n words t k)

pub one_statement : (names : List (List ℕ)) (n : ℕ) (words : List (List ℕ)) (s t : Statement) → OneExpression → AllPairs (λ a b. a ≢ b) names → All IsName names → States names n words s → States names n words t → s ≡ t
one_statement names n words (Version v) (Version w) one differ named h k = ap Version (one_version v w (cc (h, k)))
one_statement names n words (State s) (State t) one differ named h k =
    ap State (one_state (s.name ∷ signed_decimal s.low ∷ signed_decimal s.high ∷ signed_decimal s.width ∷ []) s t (refl, h.1) (cc (h.0, k.0), k.1))
one_statement names n words (Input i) (Input j) one differ named h k = ap Input (one_input (i.name ∷ map signed_decimal i.values) i j (refl, h.1) (cc (h.0, k.0), k.1))
one_statement names n words (Noise v) (Noise w) one differ named h k = ap Noise (one_noise (v.name ∷ signed_decimal v.low ∷ signed_decimal v.high ∷ []) v w (refl, h.1) (cc (h.0, k.0), k.1))
one_statement names n words (Next name e) (Next other f) one differ named h k = one_equation names words n name other e f one differ named h k
one_statement names n words (Target b) (Target d) one differ named h k = ap Target (one_box n (end_words n b.low b.high) b d (refl, h.1) (cc (h.0, k.0), k.1))
one_statement names n words (Obstacle b) (Obstacle d) one differ named h k = ap Obstacle (one_box n (end_words n b.low b.high) b d (refl, h.1) (cc (h.0, k.0), k.1))
one_statement names n words (Goal i) (Goal j) one differ named h k = ap Goal (one_goal i j (cc (h, k)))
one_statement names n words End End one differ named h k = refl
one_statement names n words s t one differ named h k = absurd (omega (arith, same_kind names n words s t h k))

-- ---- lines that are skipped

first_of_skipped : (line : List ℕ) (words : List (List ℕ)) → words_of line ≡ words → is_skipped line ≡ true → (front_of words).0 < 36
first_of_skipped line [] e passed = omega arith
first_of_skipped line (w ∷ ws) e passed =
    let mark : get_or w 0 0 ≡ 35 = eqb-true (get_or w 0 0) 35 (rw e at passed) in
    omega (arith, mark)

first_of_kind : (s : Statement) → 100 < (kind_of s).0
first_of_kind (Version v) = omega arith
first_of_kind (State s) = omega arith
first_of_kind (Input i) = omega arith
first_of_kind (Noise w) = omega arith
first_of_kind (Next name e) = omega arith
first_of_kind (Target b) = omega arith
first_of_kind (Obstacle b) = omega arith
first_of_kind (Goal kind) = omega arith
first_of_kind End = omega arith

pub states_nothing : (names : List (List ℕ)) (n : ℕ) (line : List ℕ) (s : Statement) → is_skipped line ≡ true → States names n (words_of line) s → ⊥
states_nothing names n line s passed h =
    let same : (front_of (words_of line)).0 ≡ (kind_of s).0 = ap (λ (p : ℕ × ℕ). p.0) (front_is names n (words_of line) s h) in
    omega (arith, first_of_skipped line (words_of line) refl passed, first_of_kind s, same)
