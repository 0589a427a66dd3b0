-- Lines that are written piece by piece.
use Rattle.std.proofs.Common.{◌≡◌, cond, ℕ, zero, suc, ◌+◌, ◌<◌, ◌≤◌, List, [], ◌∷◌, ◌++◌, length, get_or, take, map, refl, sym, ap, ◌∙◌, append_assoc, add-one, arith}
use Rattle.std.specs.Prelude.{ℤ, pos, codes, Result, Ok, Err, OnOk}
use Rattle.std.specs.List.{flat_map, join_with_byte}
use Rattle.std.specs.Result.{is_ok}
use Rattle.std.specs.Fmt.{signed_decimal}
use Rattle.std.proofs.lemmas.List.{append-nil, take_more, take_all, length-map, length-append, get_or_append_left, get_or-map}
use Rattle.std.proofs.lemmas.List.Folds.{flat_map-map}
use Rattle.std.proofs.lemmas.List.Concat.{flat_map-append}
use Rattle.fixed_expr.specs.declared.expr.Expr.{Expr}
use Rattle.fixed_expr.specs.Expression.{Expression, expression_of}
use Rattle.plant_record.specs.declared.variables.StateVariable.{StateVariable}
use Rattle.plant_record.specs.declared.variables.InputVariable.{InputVariable}
use Rattle.plant_record.specs.declared.variables.NoiseVariable.{NoiseVariable}
use Rattle.plant_record.specs.declared.aims.StateBox.{StateBox}
use Rattle.plant_record.specs.Description.{Description, names_of}
use Rattle.plant_writing.specs.CanonicalText.{state_line, input_line, noise_line, equation_line, equation_lines, box_line}
use Rattle.plant_record.specs.Spelling.{end_words}
use Rattle.base.specs.Lines.{line}
use Rattle.plant_writing.specs.ExpressionText.{expression_text, point_text}
use Rattle.base.proofs.Words.{spaced, joined_words}

-- one piece more
pub pieces_more : {X : Type 0} (f : X → List ℕ) (text : List ℕ) (xs : List X) (i : ℕ) (x : X) → i < length xs → x ≡ get_or xs i x → (text ++ flat_map f (take i xs)) ++ f x ≡ text ++ flat_map f (take (i + 1) xs)
pieces_more f text xs i x lt x-is =
    append_assoc text (flat_map f (take i xs)) (f x)
    ∙ ap (λ (y : List ℕ). text ++ y)
    (ap (λ (y : List ℕ). flat_map f (take i xs) ++ y) (sym (append-nil (f x)))
    ∙ sym (ap (flat_map f) (take_more xs i x lt) ∙ flat_map-append f (take i xs) (get_or xs i x ∷ []) ∙ ap (λ (y : _). flat_map f (take i xs) ++ (f y ++ [])) (sym x-is)))

-- all pieces
pub pieces_all : {X : Type 0} (f : X → List ℕ) (text : List ℕ) (xs : List X) (i : ℕ) → length xs ≤ i → text ++ flat_map f (take i xs) ≡ text ++ flat_map f xs
pieces_all f text xs i le = ap (λ (ys : List _). text ++ flat_map f ys) (take_all i xs le)

-- what the text is where its last piece was appended
pub appended : {E : Type 0} (r : Result Unit E) (text whole before : List ℕ) → text ≡ cond (is_ok r) whole before → OnOk r (text ≡ whole)
appended (Ok _) text whole before e = e
appended (Err _) text whole before e = tt

pub state_parts : (text : List ℕ) (s : StateVariable)
    → (((((text ++ codes "state ") ++ s.name) ++ 32 ∷ signed_decimal s.low) ++ 32 ∷ signed_decimal s.high) ++ 32 ∷ signed_decimal s.width) ++ codes "\n" ≡ text ++ state_line s
state_parts text s = simp append_assoc

pub noise_parts : (text : List ℕ) (w : NoiseVariable)
    → ((((text ++ codes "noise ") ++ w.name) ++ 32 ∷ signed_decimal w.low) ++ 32 ∷ signed_decimal w.high) ++ codes "\n" ≡ text ++ noise_line w
noise_parts text w = simp append_assoc

pub point_parts : (text : List ℕ) (p : ℤ × ℤ) → (((text ++ codes ", ") ++ signed_decimal p.0) ++ codes ":") ++ signed_decimal p.1 ≡ text ++ point_text p
point_parts text p = simp append_assoc

input_words : (i : InputVariable) → codes "input " ++ (i.name ++ flat_map (λ z. 32 ∷ signed_decimal z) i.values) ≡ join_with_byte 32 (codes "input" ∷ i.name ∷ map signed_decimal i.values)
input_words i =
    ap (λ (x : List ℕ). codes "input " ++ (i.name ++ x)) (sym (flat_map-map spaced signed_decimal i.values))
    ∙ sym (joined_words (codes "input") (i.name ∷ map signed_decimal i.values))

pub input_parts : (text : List ℕ) (i : InputVariable) → (((text ++ codes "input ") ++ i.name) ++ flat_map (λ z. 32 ∷ signed_decimal z) i.values) ++ codes "\n" ≡ text ++ input_line i
input_parts text i =
    let e : (((text ++ codes "input ") ++ i.name) ++ flat_map (λ z. 32 ∷ signed_decimal z) i.values) ++ codes "\n" ≡ text ++ ((codes "input " ++ (i.name ++ flat_map (λ z. 32 ∷ signed_decimal z) i.values)) ++ codes "\n") = simp append_assoc in
    e ∙ ap (λ (x : List ℕ). text ++ (x ++ codes "\n")) (input_words i)

-- ---- boxes

pub box_parts : (text keyword : List ℕ) (n : ℕ) (b : StateBox) → (text ++ (keyword ++ flat_map spaced (end_words n b.low b.high))) ++ codes "\n" ≡ text ++ box_line keyword n b
box_parts text keyword n b =
    append_assoc text (keyword ++ flat_map spaced (end_words n b.low b.high)) (codes "\n")
    ∙ ap (λ (x : List ℕ). text ++ (x ++ codes "\n")) (sym (joined_words keyword (end_words n b.low b.high)))

ends_more : (i : ℕ) (low high : List ℤ) (d : ℤ) → i < length low → i < length high
    → end_words (suc i) low high ≡ end_words i low high ++ signed_decimal (get_or low i d) ∷ signed_decimal (get_or high i d) ∷ []
ends_more zero [] high d l h = absurd (omega (arith, l))
ends_more zero (x ∷ low) [] d l h = absurd (omega (arith, h))
ends_more zero (x ∷ low) (y ∷ high) d l h = refl
ends_more (suc i) [] high d l h = absurd (omega (arith, l))
ends_more (suc i) (x ∷ low) [] d l h = absurd (omega (arith, h))
ends_more (suc i) (x ∷ low) (y ∷ high) d l h = ap (λ (ws : List (List ℕ)). signed_decimal x ∷ signed_decimal y ∷ ws) (ends_more i low high d (omega (arith, l)) (omega (arith, h)))

-- the two ends in one state more
pub box_more : (text keyword : List ℕ) (i : ℕ) (low high : List ℤ) → i < length low → i < length high
    → ((text ++ (keyword ++ flat_map spaced (end_words i low high))) ++ 32 ∷ signed_decimal (get_or low i (pos 0))) ++ 32 ∷ signed_decimal (get_or high i (pos 0))
    ≡ text ++ (keyword ++ flat_map spaced (end_words (i + 1) low high))
box_more text keyword i low high l h =
    let before = end_words i low high in
    let two = signed_decimal (get_or low i (pos 0)) ∷ signed_decimal (get_or high i (pos 0)) ∷ [] in
    let e : flat_map spaced (end_words (i + 1) low high) ≡ flat_map spaced before ++ flat_map spaced two =
    ap (λ n. flat_map spaced (end_words n low high)) (add-one i) ∙ ap (flat_map spaced) (ends_more i low high (pos 0) l h) ∙ flat_map-append spaced before two
    in
    rw e (simp (append_assoc, append-nil))

-- ---- equations

lines_more : (names : List (List ℕ)) (states : List StateVariable) (equations : List Expr) (i : ℕ) (s : StateVariable) (e : Expr) → i < length states → i < length equations
    → equation_lines names (take (suc i) states) (map expression_of (take (suc i) equations))
    ≡ equation_lines names (take i states) (map expression_of (take i equations)) ++ equation_line names (get_or states i s).name (expression_of (get_or equations i e))
lines_more names [] equations i s e lt lt' = absurd (omega (arith, lt))
lines_more names (s' ∷ states) [] i s e lt lt' = absurd (omega (arith, lt'))
lines_more names (s' ∷ states) (e' ∷ equations) zero s e lt lt' = append-nil (equation_line names s'.name (expression_of e'))
lines_more names (s' ∷ states) (e' ∷ equations) (suc i) s e lt lt' =
    ap (λ (x : List ℕ). equation_line names s'.name (expression_of e') ++ x) (lines_more names states equations i s e (omega (arith, lt)) (omega (arith, lt')))
    ∙ sym (append_assoc (equation_line names s'.name (expression_of e')) (equation_lines names (take i states) (map expression_of (take i equations))) (equation_line names (get_or states i s).name (expression_of (get_or equations i e))))

pub equation_parts : (text : List ℕ) (names : List (List ℕ)) (name : List ℕ) (e : Expression)
    → ((((text ++ codes "next ") ++ name) ++ codes " = ") ++ expression_text names 1 e) ++ codes "\n" ≡ text ++ equation_line names name e
equation_parts text names name e = with_body (expression_text names 1 e)
  where
    with_body : (body : List ℕ) → ((((text ++ codes "next ") ++ name) ++ codes " = ") ++ body) ++ codes "\n" ≡ text ++ line (codes "next" ∷ name ∷ codes "=" ∷ body ∷ [])
    with_body body = simp append_assoc

-- the first names are those of the states
pub name_of_state : (p : Description) (i : ℕ) (s : StateVariable) → i < length p.states → get_or (names_of p) i [] ≡ (get_or p.states i s).name
name_of_state p i s lt =
    let states = map (λ (x : StateVariable). x.name) p.states in
    let inputs = map (λ (x : InputVariable). x.name) p.inputs in
    let noises = map (λ (x : NoiseVariable). x.name) p.noises in
    let here : i < length states = omega (arith, lt, length-map p.states (λ (x : StateVariable). x.name)) in
    get_or_append_left (states ++ inputs) noises [] i (omega (arith, here, length-append states inputs))
    ∙ get_or_append_left states inputs [] i here
    ∙ get_or-map (λ (x : StateVariable). x.name) p.states i s [] lt

-- one line more
pub equations_more : (text : List ℕ) (names : List (List ℕ)) (states : List StateVariable) (equations : List Expr) (i : ℕ) (s : StateVariable) (e : Expr) → length equations ≡ length states → i < length equations → e ≡ get_or equations i e
    → (text ++ equation_lines names (take i states) (map expression_of (take i equations))) ++ equation_line names (get_or states i s).name (expression_of e)
    ≡ text ++ equation_lines names (take (i + 1) states) (map expression_of (take (i + 1) equations))
equations_more text names states equations i s e same lt e-is =
    let before = equation_lines names (take i states) (map expression_of (take i equations)) in
    append_assoc text before (equation_line names (get_or states i s).name (expression_of e))
    ∙ ap (λ (f : Expr). text ++ (before ++ equation_line names (get_or states i s).name (expression_of f))) e-is
    ∙ ap (λ (x : List ℕ). text ++ x) (sym (ap (λ n. equation_lines names (take n states) (map expression_of (take n equations))) (add-one i) ∙ lines_more names states equations i s e (omega (arith, lt, same)) lt))
