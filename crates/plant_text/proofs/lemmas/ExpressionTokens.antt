-- The tokens of a canonical expression text are those of a syntax tree, which means the expression, and has few brackets.
use Rattle.std.proofs.Common.{◌≡◌, ℕ, suc, Bool, true, false, cond, List, [], ◌∷◌, ◌++◌, length, get_or, refl, sym, ap, ◌∙◌, append_assoc, append-nil, arith, ◌<◌, ◌≤◌, max}
use Rattle.std.specs.Prelude.{ℤ, pos, negsuc, nat_abs, ◌≤ℤ◌, codes, nat_lt}
use Rattle.std.specs.List.{All, AllByRecursion, flat_map}
use Rattle.std.specs.Fmt.{decimal, signed_decimal}
use Rattle.std.proofs.lemmas.Int.{ints}
use Rattle.std.proofs.lemmas.Fmt.{decimal_nonempty}
use Rattle.std.proofs.lemmas.List.Elements.{All-get_or, recursion_from_All}
use Rattle.fixed_expr.specs.Expression.{Expression, NumExpr, VarExpr, NegExpr, AddExpr, SubExpr, MulExpr, DivExpr, MinExpr, MaxExpr, AbsExpr, LutExpr}
use Rattle.fixed_expr.specs.Curves.{IsShort}
use Rattle.line_words.specs.Names.{is_letter, is_digit, IsName}
use Rattle.line_words.specs.Numbers.{IsLiteral}
use Rattle.line_words.specs.Words.{is_blank, words_of}
use Rattle.plant_record.specs.Equations.{HasLiterals, IsEquation, depth_of}
use Rattle.plant_writing.specs.ExpressionText.{expression_text, point_text}
use Rattle.expression_reading.specs.SyntaxTrees.{Syntax, NumTree, VarTree, NegTree, AddTree, SubTree, MulTree, DivTree, MinTree, MaxTree, AbsTree, LutTree, ParenTree, signed_tokens, point_tokens, yield_of, level_of, IsGrammatical, meaning_of, brackets_of, AreTokensOf}
use Rattle.line_words.proofs.lemmas.Spelling.{decimal_digits}
use Rattle.line_words.proofs.lemmas.OneScan.{scan, is_break, is_run, symbol_front, run_front, name_front, digits_front, scan_is}
use Rattle.std.proofs.lemmas.Bool.{ltb-false}
use Rattle.std.proofs.lemmas.List.{append-nil}
use Rattle.line_words.specs.Tokens.{tokens_of}
use Rattle.plant_record.proofs.lemmas.Numbers.{positive, some_divisor}

-- ---- texts and their tokens

-- the tokens of a text, whatever stands after it
abbrev pub Spells : List ℕ → List (List ℕ) → Type 0
Spells text tokens = (rest : List ℕ) → scan [] (text ++ rest) ≡ tokens ++ scan [] rest

-- the tokens of a text, where no name and no number goes on after it
abbrev pub Yields : List ℕ → List (List ℕ) → Type 0
Yields text tokens = (rest : List ℕ) → is_break rest ≡ true → scan [] (text ++ rest) ≡ tokens ++ scan [] rest

-- a text that no name and no number goes on with
abbrev pub Breaks : List ℕ → Type 0
Breaks text = (rest : List ℕ) → is_break (text ++ rest) ≡ true

spelled : (text : List ℕ) (tokens : List (List ℕ)) → Spells text tokens → Yields text tokens
spelled text tokens h = λ rest ends. h rest

opened : (before text : List ℕ) (first tokens : List (List ℕ)) → Spells before first → Yields text tokens → Yields (before ++ text) (first ++ tokens)
opened before text first tokens left right = λ rest ends.
    ap (scan []) (append_assoc before text rest) ∙ left (text ++ rest) ∙ ap (λ (ts : List (List ℕ)). first ++ ts) (right rest ends) ∙ sym (append_assoc first tokens (scan [] rest))

closed : (text after : List ℕ) (tokens last : List (List ℕ)) → Yields text tokens → Spells after last → Breaks after → Spells (text ++ after) (tokens ++ last)
closed text after tokens last left right breaks = λ rest.
    ap (scan []) (append_assoc text after rest) ∙ left (after ++ rest) (breaks rest) ∙ ap (λ (ts : List (List ℕ)). tokens ++ ts) (right rest) ∙ sym (append_assoc tokens last (scan [] rest))

retold : (text : List ℕ) (tokens others : List (List ℕ)) → tokens ≡ others → Yields text tokens → Yields text others
retold text tokens others same h = λ rest ends. h rest ends ∙ ap (λ (ts : List (List ℕ)). ts ++ scan [] rest) same

-- ---- brackets

in_brackets : (text : List ℕ) (tokens : List (List ℕ)) → Yields text tokens → Yields (codes "(" ++ text ++ codes ")") (codes "(" ∷ tokens ++ codes ")" ∷ [])
in_brackets text tokens h =
    spelled (codes "(" ++ text ++ codes ")") (codes "(" ∷ tokens ++ codes ")" ∷ [])
    (closed (codes "(" ++ text) (codes ")") (codes "(" ∷ tokens) (codes ")" ∷ [])
    (opened (codes "(") text (codes "(" ∷ []) tokens (λ rest. symbol_front 40 rest refl refl refl) h)
    (λ rest. symbol_front 41 rest refl refl refl)
    (λ rest. refl))

abbrev pub wrapped : ℕ → ℕ → Syntax → Syntax
wrapped own asked s = cond (nat_lt own asked) (ParenTree s) s

at_its_level : (u : Bool) (names : List (List ℕ)) (text : List ℕ) (s : Syntax) → Yields text (yield_of names s) → Yields (cond u (codes "(" ++ text ++ codes ")") text) (yield_of names (cond u (ParenTree s) s))
at_its_level true names text s h = in_brackets text (yield_of names s) h
at_its_level false names text s h = h

-- ---- operators

-- a word that begins a construct, with its bracket
opening : (c : ℕ) (w : List ℕ) → is_blank c ≡ false → is_run c w ≡ true → Spells ((c ∷ w) ++ codes "(") ((c ∷ w) ∷ codes "(" ∷ [])
opening c w dark goes = λ rest.
    ap (scan []) (append_assoc (c ∷ w) (codes "(") rest) ∙ run_front c w (codes "(" ++ rest) dark goes refl ∙ ap (λ (ts : List (List ℕ)). (c ∷ w) ∷ ts) (symbol_front 40 rest refl refl refl)

-- an operator between spaces
operator : (b : ℕ) → is_blank b ≡ false → is_letter b ≡ false → is_digit b ≡ false → Spells (32 ∷ b ∷ 32 ∷ []) ((b ∷ []) ∷ [])
operator b dark letter digit = λ rest. symbol_front b (32 ∷ rest) dark letter digit

two : (left between right : List ℕ) (first : List (List ℕ)) (op : List ℕ) (second : List (List ℕ)) → Yields left first → Spells between (op ∷ []) → Breaks between → Yields right second
    → Yields (left ++ between ++ right) (first ++ op ∷ second)
two left between right first op second a o breaks b =
    retold (left ++ between ++ right) ((first ++ op ∷ []) ++ second) (first ++ op ∷ second) (append_assoc first (op ∷ []) second)
    (opened (left ++ between) right (first ++ op ∷ []) second (closed left between first (op ∷ []) a o breaks) b)

call : (opening : List ℕ) (word : List ℕ) (left right : List ℕ) (first second : List (List ℕ)) → Spells opening (word ∷ codes "(" ∷ []) → Yields left first → Yields right second
    → Yields (opening ++ left ++ codes ", " ++ right ++ codes ")") (word ∷ codes "(" ∷ first ++ codes "," ∷ second ++ codes ")" ∷ [])
call opening word left right first second o a b =
    spelled (opening ++ left ++ codes ", " ++ right ++ codes ")") (word ∷ codes "(" ∷ first ++ codes "," ∷ second ++ codes ")" ∷ [])
    (closed (opening ++ left ++ codes ", " ++ right) (codes ")") (word ∷ codes "(" ∷ first ++ codes "," ∷ second) (codes ")" ∷ [])
    (two (opening ++ left) (codes ", ") right (word ∷ codes "(" ∷ first) (codes ",") second
    (opened opening left (word ∷ codes "(" ∷ []) first o a)
    (λ rest. symbol_front 44 (32 ∷ rest) refl refl refl)
    (λ rest. refl)
    b)
    (λ rest. symbol_front 41 rest refl refl refl)
    (λ rest. refl))

size : (text : List ℕ) (tokens : List (List ℕ)) → Yields text tokens → Yields (codes "abs(" ++ text ++ codes ")") (codes "abs" ∷ codes "(" ∷ tokens ++ codes ")" ∷ [])
size text tokens h =
    spelled (codes "abs(" ++ text ++ codes ")") (codes "abs" ∷ codes "(" ∷ tokens ++ codes ")" ∷ [])
    (closed (codes "abs(" ++ text) (codes ")") (codes "abs" ∷ codes "(" ∷ tokens) (codes ")" ∷ [])
    (opened (codes "abs(") text (codes "abs" ∷ codes "(" ∷ []) tokens (opening 97 (98 ∷ 115 ∷ []) refl refl) h)
    (λ rest. symbol_front 41 rest refl refl refl)
    (λ rest. refl))

-- ---- tables

-- a number with its sign
signed_yields : (z : ℤ) → IsLiteral z → Yields (signed_decimal z) (signed_tokens z)
signed_yields (pos n) lt = λ rest ends. digits_front (decimal n) rest (decimal_digits n (omega (arith, lt))) (decimal_nonempty n (omega (arith, lt))) ends
signed_yields (negsuc n) lt =
    opened (codes "-") (decimal (suc n)) (codes "-" ∷ []) (decimal (suc n) ∷ []) (λ rest. symbol_front 45 rest refl refl refl)
    (λ rest ends. digits_front (decimal (suc n)) rest (decimal_digits (suc n) (omega (arith, lt))) (decimal_nonempty (suc n) (omega (arith, lt))) ends)

rewritten : (text other : List ℕ) (tokens others : List (List ℕ)) → text ≡ other → tokens ≡ others → Yields text tokens → Yields other others
rewritten text other tokens others same also h = λ rest ends. ap (λ (t : List ℕ). scan [] (t ++ rest)) (sym same) ∙ h rest ends ∙ ap (λ (ts : List (List ℕ)). ts ++ scan [] rest) also

one_point : (text : List ℕ) (tokens : List (List ℕ)) (p : ℤ × ℤ) → IsShort p → Yields text tokens → Yields (text ++ point_text p) (tokens ++ point_tokens p)
one_point text tokens p short h =
    let x = signed_decimal p.0 in
    let y = signed_decimal p.1 in
    let comma = closed text (codes ", ") tokens (codes "," ∷ []) h (λ rest. symbol_front 44 (32 ∷ rest) refl refl refl) (λ rest. refl) in
    let first = opened (text ++ codes ", ") x (tokens ++ codes "," ∷ []) (signed_tokens p.0) comma (signed_yields p.0 short.0) in
    let colon = closed ((text ++ codes ", ") ++ x) (codes ":") ((tokens ++ codes "," ∷ []) ++ signed_tokens p.0) (codes ":" ∷ []) first (λ rest. symbol_front 58 rest refl refl refl) (λ rest. refl) in
    rewritten ((((text ++ codes ", ") ++ x) ++ codes ":") ++ y) (text ++ point_text p) ((((tokens ++ codes "," ∷ []) ++ signed_tokens p.0) ++ codes ":" ∷ []) ++ signed_tokens p.1) (tokens ++ point_tokens p)
    (simp append_assoc) (simp append_assoc)
    (opened (((text ++ codes ", ") ++ x) ++ codes ":") y (((tokens ++ codes "," ∷ []) ++ signed_tokens p.0) ++ codes ":" ∷ []) (signed_tokens p.1) colon (signed_yields p.1 short.1))

with_points : (text : List ℕ) (tokens : List (List ℕ)) (points : List (ℤ × ℤ)) → AllByRecursion IsShort points → Yields text tokens → Yields (text ++ flat_map point_text points) (tokens ++ flat_map point_tokens points)
with_points text tokens [] each h = rewritten text (text ++ []) tokens (tokens ++ []) (sym (append-nil text)) (sym (append-nil tokens)) h
with_points text tokens (p ∷ points) each h =
    rewritten ((text ++ point_text p) ++ flat_map point_text points) (text ++ (point_text p ++ flat_map point_text points)) ((tokens ++ point_tokens p) ++ flat_map point_tokens points) (tokens ++ (point_tokens p ++ flat_map point_tokens points))
    (append_assoc text (point_text p) (flat_map point_text points)) (append_assoc tokens (point_tokens p) (flat_map point_tokens points))
    (with_points (text ++ point_text p) (tokens ++ point_tokens p) points each.1 (one_point text tokens p each.0 h))

table : (text : List ℕ) (tokens : List (List ℕ)) (points : List (ℤ × ℤ)) → AllByRecursion IsShort points → Yields text tokens
    → Yields (codes "lut(" ++ text ++ flat_map point_text points ++ codes ")") (codes "lut" ∷ codes "(" ∷ tokens ++ flat_map point_tokens points ++ codes ")" ∷ [])
table text tokens points each h =
    spelled (codes "lut(" ++ text ++ flat_map point_text points ++ codes ")") (codes "lut" ∷ codes "(" ∷ tokens ++ flat_map point_tokens points ++ codes ")" ∷ [])
    (closed (codes "lut(" ++ text ++ flat_map point_text points) (codes ")") (codes "lut" ∷ codes "(" ∷ tokens ++ flat_map point_tokens points) (codes ")" ∷ [])
    (with_points (codes "lut(" ++ text) (codes "lut" ∷ codes "(" ∷ tokens) points each
    (opened (codes "lut(") text (codes "lut" ∷ codes "(" ∷ []) tokens (opening 108 (117 ∷ 116 ∷ []) refl refl) h))
    (λ rest. symbol_front 41 rest refl refl refl)
    (λ rest. refl))

-- ---- the whole

-- a number that has no sign
abbrev pub tree : ℕ → Expression → Syntax
tree asked (NumExpr k) = NumTree (nat_abs k)
tree asked (VarExpr i) = VarTree i
tree asked (NegExpr a) = NegTree (tree 3 a)
tree asked (AddExpr a b) = wrapped 1 asked (AddTree (tree 1 a) (tree 2 b))
tree asked (SubExpr a b) = wrapped 1 asked (SubTree (tree 1 a) (tree 2 b))
tree asked (MulExpr a b) = wrapped 2 asked (MulTree (tree 2 a) (tree 3 b))
tree asked (DivExpr a k) = wrapped 2 asked (DivTree (tree 2 a) (nat_abs k))
tree asked (MinExpr a b) = MinTree (tree 1 a) (tree 1 b)
tree asked (MaxExpr a b) = MaxTree (tree 1 a) (tree 1 b)
tree asked (AbsExpr a) = AbsTree (tree 1 a)
tree asked (LutExpr a points) = LutTree (tree 1 a) points

number_yields : (k : ℤ) → pos 0 ≤ℤ k → IsLiteral k → Yields (signed_decimal k) (decimal (nat_abs k) ∷ [])
number_yields (pos n) some lt = λ rest ends. digits_front (decimal n) rest (decimal_digits n (omega (arith, lt))) (decimal_nonempty n (omega (arith, lt))) ends
number_yields (negsuc n) some lt = absurd (omega (arith, ints, some))

pub yields : (names : List (List ℕ)) (asked : ℕ) (e : Expression) → All IsName names → HasLiterals (length names) e → Yields (expression_text names asked e) (yield_of names (tree asked e))
yields names asked (NumExpr k) named h = number_yields k h.0 h.1
yields names asked (VarExpr i) named h = λ rest ends. name_front (get_or names i []) rest (All-get_or IsName names i [] h named) ends
yields names asked (NegExpr a) named h =
    opened (codes "-") (expression_text names 3 a) (codes "-" ∷ []) (yield_of names (tree 3 a)) (λ rest. symbol_front 45 rest refl refl refl) (yields names 3 a named h)
yields names asked (AddExpr a b) named h =
    at_its_level (nat_lt 1 asked) names _ (AddTree (tree 1 a) (tree 2 b))
    (two (expression_text names 1 a) (codes " + ") (expression_text names 2 b) (yield_of names (tree 1 a)) (codes "+") (yield_of names (tree 2 b)) (yields names 1 a named h.0) (operator 43 refl refl refl) (λ rest. refl) (yields names 2 b named h.1))
yields names asked (SubExpr a b) named h =
    at_its_level (nat_lt 1 asked) names _ (SubTree (tree 1 a) (tree 2 b))
    (two (expression_text names 1 a) (codes " - ") (expression_text names 2 b) (yield_of names (tree 1 a)) (codes "-") (yield_of names (tree 2 b)) (yields names 1 a named h.0) (operator 45 refl refl refl) (λ rest. refl) (yields names 2 b named h.1))
yields names asked (MulExpr a b) named h =
    at_its_level (nat_lt 2 asked) names _ (MulTree (tree 2 a) (tree 3 b))
    (two (expression_text names 2 a) (codes " * ") (expression_text names 3 b) (yield_of names (tree 2 a)) (codes "*") (yield_of names (tree 3 b)) (yields names 2 a named h.0) (operator 42 refl refl refl) (λ rest. refl) (yields names 3 b named h.1))
yields names asked (DivExpr a k) named h =
    at_its_level (nat_lt 2 asked) names _ (DivTree (tree 2 a) (nat_abs k))
    (two (expression_text names 2 a) (codes " / ") (signed_decimal k) (yield_of names (tree 2 a)) (codes "/") (decimal (nat_abs k) ∷ []) (yields names 2 a named h.0) (operator 47 refl refl refl) (λ rest. refl) (number_yields k (omega (arith, ints, h.1)) h.2))
yields names asked (MinExpr a b) named h =
    call (codes "min(") (codes "min") (expression_text names 1 a) (expression_text names 1 b) (yield_of names (tree 1 a)) (yield_of names (tree 1 b)) (opening 109 (105 ∷ 110 ∷ []) refl refl) (yields names 1 a named h.0) (yields names 1 b named h.1)
yields names asked (MaxExpr a b) named h =
    call (codes "max(") (codes "max") (expression_text names 1 a) (expression_text names 1 b) (yield_of names (tree 1 a)) (yield_of names (tree 1 b)) (opening 109 (97 ∷ 120 ∷ []) refl refl) (yields names 1 a named h.0) (yields names 1 b named h.1)
yields names asked (AbsExpr a) named h = size (expression_text names 1 a) (yield_of names (tree 1 a)) (yields names 1 a named h)
yields names asked (LutExpr a points) named h = table (expression_text names 1 a) (yield_of names (tree 1 a)) points (recursion_from_All IsShort points h.1.short) (yields names 1 a named h.0)

-- ---- brackets around a tree

same_meaning : (u : Bool) (s : Syntax) → meaning_of (cond u (ParenTree s) s) ≡ meaning_of s
same_meaning true s = refl
same_meaning false s = refl

same_rules : (m : ℕ) (u : Bool) (s : Syntax) → IsGrammatical m s → IsGrammatical m (cond u (ParenTree s) s)
same_rules m true s h = h
same_rules m false s h = h

enough : (u : Bool) (own asked : ℕ) (s : Syntax) → nat_lt own asked ≡ u → asked ≤ 3 → level_of s ≡ own → asked ≤ level_of (cond u (ParenTree s) s)
enough true own asked s e le same = le
enough false own asked s e le same = omega (arith, same, ltb-false own asked e)

one_bracket : (u : Bool) (s : Syntax) (n : ℕ) → brackets_of s < n → brackets_of (cond u (ParenTree s) s) < suc n
one_bracket true s n lt = omega (arith, lt)
one_bracket false s n lt = omega (arith, lt)

-- ---- the tree of an expression

meaning : (m asked : ℕ) (e : Expression) → HasLiterals m e → meaning_of (tree asked e) ≡ e
meaning m asked (NumExpr k) h = ap NumExpr (sym (positive k h.0))
meaning m asked (VarExpr i) h = refl
meaning m asked (NegExpr a) h = ap NegExpr (meaning m 3 a h)
meaning m asked (AddExpr a b) h = same_meaning (nat_lt 1 asked) (AddTree (tree 1 a) (tree 2 b)) ∙ ap (λ x. AddExpr x (meaning_of (tree 2 b))) (meaning m 1 a h.0) ∙ ap (AddExpr a) (meaning m 2 b h.1)
meaning m asked (SubExpr a b) h = same_meaning (nat_lt 1 asked) (SubTree (tree 1 a) (tree 2 b)) ∙ ap (λ x. SubExpr x (meaning_of (tree 2 b))) (meaning m 1 a h.0) ∙ ap (SubExpr a) (meaning m 2 b h.1)
meaning m asked (MulExpr a b) h = same_meaning (nat_lt 2 asked) (MulTree (tree 2 a) (tree 3 b)) ∙ ap (λ x. MulExpr x (meaning_of (tree 3 b))) (meaning m 2 a h.0) ∙ ap (MulExpr a) (meaning m 3 b h.1)
meaning m asked (DivExpr a k) h =
    same_meaning (nat_lt 2 asked) (DivTree (tree 2 a) (nat_abs k)) ∙ ap (λ x. DivExpr x (pos (nat_abs k))) (meaning m 2 a h.0) ∙ ap (DivExpr a) (sym (positive k (omega (arith, ints, h.1))))
meaning m asked (MinExpr a b) h = ap (λ x. MinExpr x (meaning_of (tree 1 b))) (meaning m 1 a h.0) ∙ ap (MinExpr a) (meaning m 1 b h.1)
meaning m asked (MaxExpr a b) h = ap (λ x. MaxExpr x (meaning_of (tree 1 b))) (meaning m 1 a h.0) ∙ ap (MaxExpr a) (meaning m 1 b h.1)
meaning m asked (AbsExpr a) h = ap AbsExpr (meaning m 1 a h)
meaning m asked (LutExpr a points) h = ap (λ x. LutExpr x points) (meaning m 1 a h.0)

level : (asked : ℕ) (e : Expression) → asked ≤ 3 → asked ≤ level_of (tree asked e)
level asked (NumExpr k) le = le
level asked (VarExpr i) le = le
level asked (NegExpr a) le = le
level asked (AddExpr a b) le = enough (nat_lt 1 asked) 1 asked (AddTree (tree 1 a) (tree 2 b)) refl le refl
level asked (SubExpr a b) le = enough (nat_lt 1 asked) 1 asked (SubTree (tree 1 a) (tree 2 b)) refl le refl
level asked (MulExpr a b) le = enough (nat_lt 2 asked) 2 asked (MulTree (tree 2 a) (tree 3 b)) refl le refl
level asked (DivExpr a k) le = enough (nat_lt 2 asked) 2 asked (DivTree (tree 2 a) (nat_abs k)) refl le refl
level asked (MinExpr a b) le = le
level asked (MaxExpr a b) le = le
level asked (AbsExpr a) le = le
level asked (LutExpr a points) le = le

grammatical : (m asked : ℕ) (e : Expression) → HasLiterals m e → IsGrammatical m (tree asked e)
grammatical m asked (NumExpr k) h = h.1
grammatical m asked (VarExpr i) h = h
grammatical m asked (NegExpr a) h = (grammatical m 3 a h, level 3 a (omega arith))
grammatical m asked (AddExpr a b) h = same_rules m (nat_lt 1 asked) (AddTree (tree 1 a) (tree 2 b)) (grammatical m 1 a h.0, grammatical m 2 b h.1, level 2 b (omega arith))
grammatical m asked (SubExpr a b) h = same_rules m (nat_lt 1 asked) (SubTree (tree 1 a) (tree 2 b)) (grammatical m 1 a h.0, grammatical m 2 b h.1, level 2 b (omega arith))
grammatical m asked (MulExpr a b) h = same_rules m (nat_lt 2 asked) (MulTree (tree 2 a) (tree 3 b)) (grammatical m 2 a h.0, level 2 a (omega arith), grammatical m 3 b h.1, level 3 b (omega arith))
grammatical m asked (DivExpr a k) h = same_rules m (nat_lt 2 asked) (DivTree (tree 2 a) (nat_abs k)) (grammatical m 2 a h.0, level 2 a (omega arith), some_divisor k h.1, h.2)
grammatical m asked (MinExpr a b) h = (grammatical m 1 a h.0, grammatical m 1 b h.1)
grammatical m asked (MaxExpr a b) h = (grammatical m 1 a h.0, grammatical m 1 b h.1)
grammatical m asked (AbsExpr a) h = grammatical m 1 a h
grammatical m asked (LutExpr a points) h = (grammatical m 1 a h.0, h.1)

-- each open bracket belongs to a node of its own on the way down, and the leaf there has none
brackets : (asked : ℕ) (e : Expression) → brackets_of (tree asked e) < depth_of e
brackets asked (NumExpr k) = omega arith
brackets asked (VarExpr i) = omega arith
brackets asked (NegExpr a) = omega (arith, brackets 3 a)
brackets asked (AddExpr a b) = one_bracket (nat_lt 1 asked) (AddTree (tree 1 a) (tree 2 b)) (max (depth_of a) (depth_of b)) (omega (arith, brackets 1 a, brackets 2 b))
brackets asked (SubExpr a b) = one_bracket (nat_lt 1 asked) (SubTree (tree 1 a) (tree 2 b)) (max (depth_of a) (depth_of b)) (omega (arith, brackets 1 a, brackets 2 b))
brackets asked (MulExpr a b) = one_bracket (nat_lt 2 asked) (MulTree (tree 2 a) (tree 3 b)) (max (depth_of a) (depth_of b)) (omega (arith, brackets 2 a, brackets 3 b))
brackets asked (DivExpr a k) = one_bracket (nat_lt 2 asked) (DivTree (tree 2 a) (nat_abs k)) (depth_of a) (brackets 2 a)
brackets asked (MinExpr a b) = omega (arith, brackets 1 a, brackets 1 b)
brackets asked (MaxExpr a b) = omega (arith, brackets 1 a, brackets 1 b)
brackets asked (AbsExpr a) = omega (arith, brackets 1 a)
brackets asked (LutExpr a points) = omega (arith, brackets 1 a)

-- the words of a canonical expression text spell the expression
pub tokens_spell : (names : List (List ℕ)) (e : Expression) → All IsName names → IsEquation (length names) e → AreTokensOf names (flat_map tokens_of (words_of (expression_text names 1 e))) e
tokens_spell names e named h = record {
  syntax_tree = tree 1 e;
  grammatical = grammatical (length names) 1 e h.literals;
  yields = sym (sym (scan_is (expression_text names 1 e)) ∙ ap (scan []) (sym (append-nil (expression_text names 1 e))) ∙ yields names 1 e named h.literals [] refl ∙ append-nil (yield_of names (tree 1 e)));
  means = meaning (length names) 1 e h.literals;
  nodes = h.nodes;
  depth = h.depth;
  brackets = omega (arith, brackets 1 e, h.depth);
}
