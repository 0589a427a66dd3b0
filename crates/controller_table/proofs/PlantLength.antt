-- How long the canonical text of a plant is at most.
use Rattle.std.proofs.Common.{inl, inr, ◌≡◌, ℕ, zero, suc, ◌+◌, ◌*◌, ◌≤◌, Bool, true, false, cond, List, [], ◌∷◌, ◌++◌, length, length-append, map, take, get_or, refl, sym, subst, arith}
use Rattle.std.specs.Prelude.{ℤ, pos, negsuc, nat_lt, codes}
use Rattle.std.specs.List.{All, AllByRecursion, AllZip, join_with_byte, flat_map}
use Rattle.std.specs.Fmt.{signed_decimal}
use Rattle.std.proofs.lemmas.Bool.{and_parts, cases_lt, leb-true}
use Rattle.std.proofs.lemmas.Fmt.{length-decimal-le}
use Rattle.std.proofs.lemmas.List.{get_or_past, length-map}
use Rattle.std.proofs.lemmas.List.Concat.{length-flat_map}
use Rattle.std.proofs.lemmas.List.Sums.{sum_by-le}
use Rattle.std.proofs.lemmas.List.Elements.{All-append, All-map, All-weaker, recursion_from_All}
use Rattle.fixed_expr.specs.Expression.{Expression, NumExpr, VarExpr, NegExpr, AddExpr, SubExpr, MulExpr, DivExpr, MinExpr, MaxExpr, AbsExpr, LutExpr}
use Rattle.fixed_expr.specs.Curves.{IsShort as IsShortPoint}
use Rattle.plant_record.specs.declared.variables.StateVariable.{StateVariable}
use Rattle.plant_record.specs.declared.variables.InputVariable.{InputVariable}
use Rattle.plant_record.specs.declared.variables.NoiseVariable.{NoiseVariable}
use Rattle.plant_record.specs.declared.aims.StateBox.{StateBox}
use Rattle.plant_record.specs.declared.aims.GoalKind.{GoalKind}
use Rattle.plant_record.specs.declared.aims.GoalKind.TheVariants.{Reach, Keep}
use Rattle.plant_record.specs.declared.version.PlantVersion.{PlantVersion}
use Rattle.plant_record.specs.declared.version.PlantVersion.TheVariants.{One, Two}
use Rattle.line_words.specs.Names.{IsName}
use Rattle.line_words.specs.Numbers.{IsLiteral}
use Rattle.plant_record.specs.Description.{Description, names_of}
use Rattle.plant_record.specs.Variables.{IsStateVariable, IsInputVariable, IsNoiseVariable}
use Rattle.plant_record.specs.StateBoxes.{AreEnds, IsStateBox}
use Rattle.plant_record.specs.Equations.{nodes_of, HasLiterals, IsEquation}
use Rattle.plant_record.specs.Plants.{IsPlant}
use Rattle.plant_writing.specs.ExpressionText.{at_level, point_text, expression_text}
use Rattle.plant_record.specs.Spelling.{version_word, end_words, goal_word}
use Rattle.base.specs.Lines.{line}
use Rattle.plant_writing.specs.CanonicalText.{state_line, input_line, noise_line, equation_line, equation_lines, box_line, text_of}

-- ---- bounds

-- bytes of an expression for each of its nodes
abbrev pub node_bytes : ℕ
node_bytes = 1400

-- of an equation's line: four words, each no longer than the expression of 256 nodes
abbrev pub equation_bytes : ℕ
equation_bytes = 4 * (256 * node_bytes) + 5

-- of a plant's text: six equations, and all other lines
abbrev pub plant_bytes : ℕ
plant_bytes = 6 * equation_bytes + 150000

-- ---- words and lines

digits_length : (z : ℤ) → IsLiteral z → length (signed_decimal z) ≤ 19
digits_length (pos n) lt = let digits = length-decimal-le 18 n (omega arith) lt (omega (arith, lt)) in omega (arith, digits)
digits_length (negsuc n) lt = let digits = length-decimal-le 18 (suc n) (omega arith) lt (omega (arith, lt)) in omega (arith, digits)

number_length : (z : ℤ) → IsLiteral z → length (signed_decimal z) ≤ 32
number_length z lt = let digits = digits_length z lt in omega (arith, digits)

name_length : (w : List ℕ) → IsName w → length w ≤ 32
name_length w h =
    let first = (and_parts _ _ h).1 in
    let second = (and_parts _ _ first).1 in
    leb-true (length w) 32 (and_parts _ _ second).0

abbrev pub IsShort : ℕ → List ℕ → Type 0
IsShort k w = length w ≤ k

pub line_more : (w x : List ℕ) (words : List (List ℕ)) → length (line (w ∷ x ∷ words)) ≡ length w + 1 + length (line (x ∷ words))
line_more w x words =
    let rest : List ℕ = join_with_byte 32 (x ∷ words) in
    omega (arith, length-append (w ++ 32 ∷ rest) (codes "\n"), length-append w (32 ∷ rest), length-append rest (codes "\n"))

pub line_length : (k : ℕ) (words : List (List ℕ)) → AllByRecursion (IsShort k) words → length (line words) ≤ length words * (k + 1) + 1
line_length k [] h = omega arith
line_length k (x ∷ []) h = let one = h.0 in omega (arith, one, length-append x (codes "\n"))
line_length k (x ∷ y ∷ words) h =
    let one = h.0 in
    let more = line_length k (y ∷ words) h.1 in
    let whole = line_more x y words in
    grind (arith, one, more, whole)

numbers_short : (zs : List ℤ) → AllByRecursion IsLiteral zs → AllByRecursion (IsShort 32) (map signed_decimal zs)
numbers_short [] h = tt
numbers_short (z ∷ zs) h = (number_length z h.0, numbers_short zs h.1)

state_length : (s : StateVariable) → IsStateVariable s → length (state_line s) ≤ 200
state_length s h =
    let l = line_length 32 (codes "state" ∷ s.name ∷ signed_decimal s.low ∷ signed_decimal s.high ∷ signed_decimal s.width ∷ [])
    (omega arith, (name_length s.name h.name, (number_length s.low h.low, (number_length s.high h.high, (number_length s.width h.width, tt))))) in
    omega (arith, l)

input_length : (i : InputVariable) → IsInputVariable i → length (input_line i) ≤ 2300
input_length i h =
    let l = line_length 32 (codes "input" ∷ i.name ∷ map signed_decimal i.values)
    (omega arith, (name_length i.name h.name, numbers_short i.values (recursion_from_All IsLiteral i.values h.each))) in
    omega (arith, l, length-map i.values signed_decimal, h.values_bound)

noise_length : (w : NoiseVariable) → IsNoiseVariable w → length (noise_line w) ≤ 200
noise_length w h =
    let l = line_length 32 (codes "noise" ∷ w.name ∷ signed_decimal w.low ∷ signed_decimal w.high ∷ [])
    (omega arith, (name_length w.name h.name, (number_length w.low h.low, (number_length w.high h.high, tt)))) in
    omega (arith, l)

ends_short : (n : ℕ) (low high : List ℤ) → AllZip AreEnds (take n low) (take n high) → AllByRecursion (IsShort 32) (end_words n low high)
ends_short zero low high h = tt
ends_short (suc n) [] high h = tt
ends_short (suc n) (l ∷ low) [] h = tt
ends_short (suc n) (l ∷ low) (x ∷ high) h = (number_length l h.0.0, (number_length x h.0.1, ends_short n low high h.1))

ends_few : (n : ℕ) (low high : List ℤ) → length (end_words n low high) ≤ 2 * n
ends_few zero low high = omega arith
ends_few (suc n) [] high = omega arith
ends_few (suc n) (l ∷ low) [] = omega arith
ends_few (suc n) (l ∷ low) (x ∷ high) = omega (arith, ends_few n low high)

box_length : (keyword : List ℕ) (n : ℕ) (b : StateBox) → length keyword ≤ 32 → n ≤ 6 → IsStateBox n b → length (box_line keyword n b) ≤ 500
box_length keyword n b key le h =
    let l = line_length 32 (keyword ∷ end_words n b.low b.high) (key, ends_short n b.low b.high h.ends) in
    omega (arith, l, ends_few n b.low b.high, le)

-- ---- equations

lines_length : {X : Type 0} (f : X → List ℕ) (P : X → Type 0) (k : ℕ) (xs : List X) → All P xs → ((x : X) → P x → length (f x) ≤ k) → length (flat_map f xs) ≤ length xs * k
lines_length {X} f P k xs h each =
    subst (λ (n : ℕ). n ≤ length xs * k) (sym (length-flat_map f xs)) (sum_by-le (λ (x : X). length (f x)) k xs (All-weaker P (λ (x : X). length (f x) ≤ k) each xs h))

point_length : (p : ℤ × ℤ) → IsShortPoint p → length (point_text p) ≤ 41
point_length p h =
    let x = digits_length p.0 h.0 in
    let y = digits_length p.1 h.1 in
    omega (arith, x, y, length-append (codes ", " ++ signed_decimal p.0 ++ codes ":") (signed_decimal p.1), length-append (codes ", " ++ signed_decimal p.0) (codes ":"), length-append (codes ", ") (signed_decimal p.0))

placed : (own asked : ℕ) (text : List ℕ) (k : ℕ) → length text + 2 ≤ k → length (at_level own asked text) ≤ k
placed own asked text k le = go (nat_lt own asked)
  where
    go : (b : Bool) → length (cond b (codes "(" ++ text ++ codes ")") text) ≤ k
    go true = omega (arith, le, length-append (codes "(" ++ text) (codes ")"))
    go false = omega (arith, le)

joined : (a b s : List ℕ) (m n k : ℕ) → length a ≤ m → length b ≤ n → length s + m + n ≤ k → length (a ++ s ++ b) ≤ k
joined a b s m n k ha hb le = omega (arith, ha, hb, le, length-append (a ++ s) b, length-append a s)

called : (open_word a b : List ℕ) (m n : ℕ) → length open_word ≤ 4 → length a ≤ node_bytes * m → length b ≤ node_bytes * n → length (open_word ++ a ++ codes ", " ++ b ++ codes ")") ≤ node_bytes * suc (m + n)
called open_word a b m n few ha hb =
    omega (arith, few, ha, hb, length-append (open_word ++ a ++ codes ", " ++ b) (codes ")"), length-append (open_word ++ a ++ codes ", ") b, length-append (open_word ++ a) (codes ", "), length-append open_word a)

name_at : (names : List (List ℕ)) (i : ℕ) → All (IsShort 32) names → length (get_or names i []) ≤ 32
name_at names i short = elim (cases_lt i (length names)) [ inl lt ↦ short i [] lt | inr ge ↦ rw (get_or_past names i [] ge) (omega arith) ]

module _ (names : List (List ℕ)) (short : All (IsShort 32) names) (m : ℕ) where
  -- two expressions with so long a sign between them
  binary : (own asked left right : ℕ) (sign : List ℕ) (a b : Expression) → length sign ≡ 3 → length (expression_text names left a) ≤ node_bytes * nodes_of a → length (expression_text names right b) ≤ node_bytes * nodes_of b
      → length (at_level own asked (expression_text names left a ++ sign ++ expression_text names right b)) ≤ node_bytes * suc (nodes_of a + nodes_of b)
  binary own asked left right sign a b three x y =
      placed own asked (expression_text names left a ++ sign ++ expression_text names right b) (node_bytes * suc (nodes_of a + nodes_of b))
      (let t = joined (expression_text names left a) (expression_text names right b) sign (node_bytes * nodes_of a) (node_bytes * nodes_of b) (3 + node_bytes * nodes_of a + node_bytes * nodes_of b) x y (omega (arith, three)) in omega (arith, t))

  expression_length : (asked : ℕ) (e : Expression) → HasLiterals m e → length (expression_text names asked e) ≤ node_bytes * nodes_of e
  expression_length asked (NumExpr k) h = let n = number_length k h.1 in omega (arith, n)
  expression_length asked (VarExpr i) h = let n = name_at names i short in omega (arith, n)
  expression_length asked (NegExpr a) h = let x = expression_length 3 a h in omega (arith, x)
  expression_length asked (AddExpr a b) h = binary 1 asked 1 2 (codes " + ") a b refl (expression_length 1 a h.0) (expression_length 2 b h.1)
  expression_length asked (SubExpr a b) h = binary 1 asked 1 2 (codes " - ") a b refl (expression_length 1 a h.0) (expression_length 2 b h.1)
  expression_length asked (MulExpr a b) h = binary 2 asked 2 3 (codes " * ") a b refl (expression_length 2 a h.0) (expression_length 3 b h.1)
  expression_length asked (DivExpr a k) h =
      let x = expression_length 2 a h.0 in
      let y = number_length k h.2 in
      placed 2 asked (expression_text names 2 a ++ codes " / " ++ signed_decimal k) (node_bytes * suc (nodes_of a)) (let t = joined (expression_text names 2 a) (signed_decimal k) (codes " / ") (node_bytes * nodes_of a) 32 (35 + node_bytes * nodes_of a) x y (omega arith) in omega (arith, t))
  expression_length asked (MinExpr a b) h =
      called (codes "min(") (expression_text names 1 a) (expression_text names 1 b) (nodes_of a) (nodes_of b) (omega arith) (expression_length 1 a h.0) (expression_length 1 b h.1)
  expression_length asked (MaxExpr a b) h =
      called (codes "max(") (expression_text names 1 a) (expression_text names 1 b) (nodes_of a) (nodes_of b) (omega arith) (expression_length 1 a h.0) (expression_length 1 b h.1)
  expression_length asked (AbsExpr a) h = let x = expression_length 1 a h in omega (arith, x, length-append (codes "abs(" ++ expression_text names 1 a) (codes ")"))
  expression_length asked (LutExpr a points) h =
      let x = expression_length 1 a h.0 in
      let y = lines_length point_text IsShortPoint 41 points h.1.short point_length in
      omega (
        arith,
        x,
        y,
        h.1.few,
        length-append (codes "lut(" ++ expression_text names 1 a ++ flat_map point_text points) (codes ")"),
        length-append (codes "lut(" ++ expression_text names 1 a) (flat_map point_text points),
        length-append (codes "lut(") (expression_text names 1 a),
      )

  equation_length : (name : List ℕ) (e : Expression) → length name ≤ 32 → IsEquation m e → length (equation_line names name e) ≤ equation_bytes
  equation_length name e short h =
      let x = expression_length 1 e h.literals in
      let l = line_length (256 * node_bytes) (codes "next" ∷ name ∷ codes "=" ∷ expression_text names 1 e ∷ []) (omega arith, (omega (arith, short), (omega arith, (omega (arith, x, h.nodes), tt)))) in
      omega (arith, l)

  equations_length : (states : List StateVariable) (equations : List Expression) → AllByRecursion IsStateVariable states → AllByRecursion (IsEquation m) equations → length (equation_lines names states equations) ≤ length states * equation_bytes
  equations_length [] equations h k = omega arith
  equations_length (s ∷ states) [] h k = omega arith
  equations_length (s ∷ states) (e ∷ equations) h k =
      let one = equation_length s.name e (name_length s.name h.0.name) k.0 in
      let more = equations_length states equations h.1 k.1 in
      omega (arith, one, more, length-append (equation_line names s.name e) (equation_lines names states equations))

-- ---- the whole text

names_shorten : {X : Type 0} (Is : X → Type 0) (name : X → List ℕ) → ((x : X) → Is x → IsName (name x)) → (xs : List X) → All Is xs → All (IsShort 32) (map name xs)
names_shorten Is name named xs each = All-map (IsShort 32) name xs (All-weaker Is (λ x. IsShort 32 (name x)) (λ x is. name_length (name x) (named x is)) xs each)

names_short : (p : Description) → IsPlant p → All (IsShort 32) (names_of p)
names_short p h =
    All-append (IsShort 32) _ _
    (All-append (IsShort 32) _ _ (names_shorten IsStateVariable (λ s. s.name) (λ s is. is.name) p.states h.states) (names_shorten IsInputVariable (λ i. i.name) (λ i is. is.name) p.inputs h.inputs))
    (names_shorten IsNoiseVariable (λ w. w.name) (λ w is. is.name) p.noises h.noises)

goal_length : (goal : GoalKind) → length (line (codes "goal" ∷ goal_word goal ∷ [])) ≤ 11
goal_length Reach = omega arith
goal_length Keep = omega arith

version_length : (version : PlantVersion) → length (line (codes "plant" ∷ version_word version ∷ [])) ≤ 8
version_length One = omega arith
version_length Two = omega arith

nine : (a b c d e f g h i : List ℕ) → length (a ++ b ++ c ++ d ++ e ++ f ++ g ++ h ++ i) ≡ length a + length b + length c + length d + length e + length f + length g + length h + length i
nine a b c d e f g h i = simp length-append

pub plant_length : (p : Description) → IsPlant p → length (text_of p) ≤ plant_bytes
plant_length p h =
    let states = lines_length state_line IsStateVariable 200 p.states h.states state_length in
    let inputs = lines_length input_line IsInputVariable 2300 p.inputs h.inputs input_length in
    let noises = lines_length noise_line IsNoiseVariable 200 p.noises h.noises noise_length in
    let equations = equations_length (names_of p) (names_short p h) (length (names_of p)) p.states p.equations (recursion_from_All IsStateVariable p.states h.states) (recursion_from_All (IsEquation (length (names_of p))) p.equations h.equations) in
    let targets = lines_length (box_line (codes "target") (length p.states)) (IsStateBox (length p.states)) 500 p.targets h.targets (λ b is. box_length (codes "target") (length p.states) b (omega arith) h.states_bound is) in
    let obstacles = lines_length (box_line (codes "obstacle") (length p.states)) (IsStateBox (length p.states)) 500 p.obstacles h.obstacles (λ b is. box_length (codes "obstacle") (length p.states) b (omega arith) h.states_bound is) in
    let whole = nine (line (codes "plant" ∷ version_word p.version ∷ [])) (flat_map state_line p.states) (flat_map input_line p.inputs) (flat_map noise_line p.noises) (equation_lines (names_of p) p.states p.equations)
    (flat_map (box_line (codes "target") (length p.states)) p.targets) (flat_map (box_line (codes "obstacle") (length p.states)) p.obstacles) (line (codes "goal" ∷ goal_word p.goal ∷ [])) (line (codes "end" ∷ [])) in
    omega (arith, states, inputs, noises, equations, targets, obstacles, whole, version_length p.version, goal_length p.goal, h.states_bound, h.inputs_bound, h.noises_bound, h.targets_bound, h.obstacles_bound)
