-- How an expression is read, from left to right: what a sum, a term or a factor at the front of the tokens is, and the tokens
-- after it. No public clause names this.
use Rattle.std.specs.Borrow.{Bor}
use Rattle.std.specs.Prelude.{◌≡◌, ℕ, zero, suc, ◌-◌, ◌+◌, ◌≤◌, max, ◌==◌, ◌&&◌, nat_lt, nat_le, int_lt, ℤ, pos, neg_ℤ, Bool, true, List, [], ◌∷◌, ◌++◌, length, Option, Some, None, Result, Ok, Err, if◌then◌else◌}
use Rattle.line_words.specs.declared.line_fault.LineFault.{LineFault}
use Rattle.line_words.specs.declared.line_fault.LineFault.TheVariants as faults
use Rattle.expression_reading.specs.declared.token_kind.TokenKind.{TokenKind}
use Rattle.expression_reading.specs.declared.token_kind.TokenKind.TheVariants as kind
use Rattle.fixed_expr.specs.declared.expr.Expr.{Expr}
use Rattle.expression_reading.specs.declared.expression.Budget.{Budget}
use Rattle.fixed_expr.specs.Expression.{Expression, expression_of, NumExpr, VarExpr, NegExpr, AddExpr, SubExpr, MulExpr, DivExpr, MinExpr, MaxExpr, AbsExpr, LutExpr, nodes_of, depth_of}
use Rattle.base.specs.declared.limits.TheConstants.{BRACKETS_LIMIT, DEPTH_LIMIT, NODES_LIMIT, NUMBER_LIMIT, POINTS_LIMIT}

-- reading gives nothing, unless memory ran out
abbrev pub Fails : {Y : Type 0} → LineFault → Option Y → Type 0
Fails faults.Memory read = Unit {0}
Fails faults.Malformed read = read ≡ None

-- what a function returned, seen by view, is what reading gives, unless memory ran out
abbrev pub Gives : {X Y : Type 0} → (X → Y) → Result X LineFault → Option Y → Type 0
Gives view (Ok x) read = read ≡ Some (view x)
Gives view (Err e) read = Fails e read

-- one reading after another
infixl 10 ◌>>=◌
-- the second reading, by what the first one gave; nothing where that gave nothing
abbrev pub ◌>>=◌ : {A B : Type 0} → Option A → (A → Option B) → Option B
None >>= f = None
(Some x) >>= f = f x

-- an expression and the tokens after it
abbrev pub Read : Type 0
Read = Option (Expression × List TokenKind)

-- what a function returned, an expression in memory and the tokens after it, is what reading gives
abbrev pub GivesExpression : Result (Expr × Bor (List TokenKind)) LineFault → Read → Type 0
GivesExpression result read = Gives (λ x. (expression_of x.0, x.1.now)) result read

-- the same of two expressions and the tokens after them
abbrev pub GivesPair : Result (Expr × Expr × Bor (List TokenKind)) LineFault → Option (Expression × Expression × List TokenKind) → Type 0
GivesPair result read = Gives (λ x. (expression_of x.0, expression_of x.1, x.2.now)) result read

-- how many nodes an operation on two expressions has, and how many of them lie one below another
abbrev pub nodes_and_depth : Expression → Expression → ℕ × ℕ
nodes_and_depth a b = (suc (nodes_of a + nodes_of b), suc (max (depth_of a) (depth_of b)))

-- At most 256 nodes, and at most 64 of them one below another.
pub record IsSmall (e : Expression) : Type 0 where
  pub nodes : nodes_of e ≤ NODES_LIMIT
  pub depth : depth_of e ≤ DEPTH_LIMIT

-- an expression, where it is small
abbrev pub kept : Expression → Option Expression
kept e = if nat_le (nodes_of e) NODES_LIMIT && nat_le (depth_of e) DEPTH_LIMIT then Some e else None

-- ---- the tokens after one that has to be there: a bracket, a comma, a colon

-- the tokens after a bracket that opens, where one comes first
abbrev pub after_open : List TokenKind → Option (List TokenKind)
after_open (kind.Open ∷ ts) = Some ts
after_open ts = None

-- the tokens after a bracket that closes, where one comes first
abbrev pub after_close : List TokenKind → Option (List TokenKind)
after_close (kind.Close ∷ ts) = Some ts
after_close ts = None

-- the tokens after a comma, where one comes first
abbrev pub after_comma : List TokenKind → Option (List TokenKind)
after_comma (kind.Comma ∷ ts) = Some ts
after_comma ts = None

-- the tokens after a colon, where one comes first
abbrev pub after_colon : List TokenKind → Option (List TokenKind)
after_colon (kind.Colon ∷ ts) = Some ts
after_colon ts = None

-- ---- numbers and points

-- a number of at most 18 digits
unfoldable pub literal_at : List TokenKind → Option (ℕ × List TokenKind)
literal_at (kind.Number k ∷ ts) = if nat_lt k NUMBER_LIMIT then Some (k, ts) else None
literal_at ts = None

-- a number of at least 1
unfoldable pub divisor_at : List TokenKind → Option (ℕ × List TokenKind)
divisor_at ts = do
  k ← literal_at ts
  if k.0 == 0 then None else Some k

-- a number with its sign
unfoldable pub signed_at : List TokenKind → Option (ℤ × List TokenKind)
signed_at (kind.Minus ∷ ts) = do
  k ← divisor_at ts
  Some (neg_ℤ (pos k.0), k.1)
signed_at ts = do
  k ← literal_at ts
  Some (pos k.0, k.1)

-- a point
unfoldable pub point_at : List TokenKind → Option ((ℤ × ℤ) × List TokenKind)
point_at ts = do
  x ← signed_at ts
  rest ← after_colon x.1
  y ← signed_at rest
  Some ((x.0, y.0), y.1)

-- n points at most after others, each after a comma, and the bracket that closes
unfoldable pub points_at : ℕ → List (ℤ × ℤ) → List TokenKind → Option (List (ℤ × ℤ) × List TokenKind)
points_at n points (kind.Close ∷ ts) = Some (points, ts)
points_at zero points ts = None
points_at (suc n) points (kind.Comma ∷ ts) = do
  p ← point_at ts
  points_at n (points ++ p.0 ∷ []) p.1
points_at (suc n) points ts = None

-- the arguments of points rise
abbrev pub rises : List (ℤ × ℤ) → Bool
rises [] = true
rises (p ∷ []) = true
rises (p ∷ q ∷ points) = int_lt p.0 q.0 && rises (q ∷ points)

-- the table through points, where there are two and they rise
abbrev pub curve_through : List (ℤ × ℤ) → Option (List (ℤ × ℤ))
curve_through points = if nat_le 2 (length points) && rises points then Some points else None

-- 2 to 32 points that rise
unfoldable pub curve_at : List TokenKind → Option (List (ℤ × ℤ) × List TokenKind)
curve_at ts = do
  r ← points_at POINTS_LIMIT [] ts
  if nat_le 2 (length r.0) && rises r.0 then Some r else None

-- ---- expressions, by a reader of their parts

-- What is asked of a reader: a sum in a bracket of b that may be opened, a factor after a sign, what stands after a sum and after a term.
pub data Ask : Type 0 where
  Inside : (b : ℕ) (ts : List TokenKind) → Ask
  Signed : (b : ℕ) (ts : List TokenKind) → Ask
  RestOfSum : (b : ℕ) (a : Expression) (ts : List TokenKind) → Ask
  RestOfTerm : (b : ℕ) (a : Expression) (ts : List TokenKind) → Ask

-- a sum after a bracket that was opened, with the bracket that closes
unfoldable pub bracketed : (Ask → Read) → ℕ → List TokenKind → Read
bracketed r b ts = do
  a ← r (Inside b ts)
  rest ← after_close a.1
  Some (a.0, rest)

-- two sums in brackets
unfoldable pub pair_of : (Ask → Read) → ℕ → List TokenKind → Option (Expression × Expression × List TokenKind)
pair_of r b ts = do
  opened ← after_open ts
  a ← r (Inside b opened)
  rest ← after_comma a.1
  c ← bracketed r b rest
  Some (a.0, c.0, c.1)

-- a number
abbrev pub number_at : List TokenKind → Read
number_at ts = do
  k ← literal_at ts
  Some (NumExpr (pos k.0), k.1)

-- the negative of a factor
abbrev pub negative : (Ask → Read) → ℕ → List TokenKind → Read
negative r b ts = do
  a ← r (Signed b ts)
  e ← kept (NegExpr a.0)
  Some (e, a.1)

-- the lesser of two sums in brackets
abbrev pub minimum : (Ask → Read) → ℕ → List TokenKind → Read
minimum r b ts = do
  x ← pair_of r b ts
  e ← kept (MinExpr x.0 x.1)
  Some (e, x.2)

-- the greater of two sums in brackets
abbrev pub maximum : (Ask → Read) → ℕ → List TokenKind → Read
maximum r b ts = do
  x ← pair_of r b ts
  e ← kept (MaxExpr x.0 x.1)
  Some (e, x.2)

-- the absolute value of a sum in brackets
abbrev pub absolute : (Ask → Read) → ℕ → List TokenKind → Read
absolute r b ts = do
  opened ← after_open ts
  a ← bracketed r b opened
  e ← kept (AbsExpr a.0)
  Some (e, a.1)

-- a sum in brackets, looked up in the points after it
abbrev pub looked_up : (Ask → Read) → ℕ → List TokenKind → Read
looked_up r b ts = do
  opened ← after_open ts
  a ← r (Inside b opened)
  points ← curve_at a.1
  e ← kept (LutExpr a.0 points.0)
  Some (e, points.1)

-- an expression negated so often
unfoldable pub negated : ℕ → Expression → Option Expression
negated zero a = Some a
negated (suc n) a = do
  e ← kept (NegExpr a)
  negated n e

-- a factor
unfoldable pub factor_of : ℕ → (Ask → Read) → ℕ → List TokenKind → Read
factor_of m r b (kind.Number k ∷ ts) = number_at (kind.Number k ∷ ts)
factor_of m r b (kind.Variable i ∷ ts) = if nat_lt i m then Some (VarExpr i, ts) else None
factor_of m r b (kind.Minus ∷ ts) = negative r b ts
factor_of m r b (kind.Open ∷ ts) = bracketed r b ts
factor_of m r b (kind.Min ∷ ts) = minimum r b ts
factor_of m r b (kind.Max ∷ ts) = maximum r b ts
factor_of m r b (kind.Abs ∷ ts) = absolute r b ts
factor_of m r b (kind.Lut ∷ ts) = looked_up r b ts
factor_of m r b ts = None

-- what stands after a term goes on with it, or it ends there
unfoldable pub after_term : ℕ → (Ask → Read) → ℕ → Expression → List TokenKind → Read
after_term m r b a (kind.Star ∷ ts) = do
  x ← factor_of m r b ts
  e ← kept (MulExpr a x.0)
  r (RestOfTerm b e x.1)
after_term m r b a (kind.Slash ∷ ts) = do
  k ← divisor_at ts
  e ← kept (DivExpr a (pos k.0))
  r (RestOfTerm b e k.1)
after_term m r b a ts = Some (a, ts)

-- a term
unfoldable pub term_of : ℕ → (Ask → Read) → ℕ → List TokenKind → Read
term_of m r b ts = do
  a ← factor_of m r b ts
  after_term m r b a.0 a.1

-- what stands after a sum goes on with it, or it ends there
unfoldable pub after_sum : ℕ → (Ask → Read) → ℕ → Expression → List TokenKind → Read
after_sum m r b a (kind.Plus ∷ ts) = do
  x ← term_of m r b ts
  e ← kept (AddExpr a x.0)
  r (RestOfSum b e x.1)
after_sum m r b a (kind.Minus ∷ ts) = do
  x ← term_of m r b ts
  e ← kept (SubExpr a x.0)
  r (RestOfSum b e x.1)
after_sum m r b a ts = Some (a, ts)

-- a sum
unfoldable pub sum_of : ℕ → (Ask → Read) → ℕ → List TokenKind → Read
sum_of m r b ts = do
  a ← term_of m r b ts
  after_sum m r b a.0 a.1

-- an answer to what is asked, by a reader of the parts
unfoldable pub step : ℕ → (Ask → Read) → Ask → Read
step m r (Inside b ts) = if b == 0 then None else sum_of m r (b - 1) ts
step m r (Signed b ts) = factor_of m r b ts
step m r (RestOfSum b a ts) = after_sum m r b a ts
step m r (RestOfTerm b a ts) = after_term m r b a ts

-- a reader whose calls may be nested n deep
unfoldable pub read_at : ℕ → ℕ → Ask → Read
read_at m zero q = None
read_at m (suc n) q = step m (read_at m n) q

-- a reader of parts with the calls that a budget leaves
abbrev pub reader_in : Budget → Ask → Read
reader_in budget = read_at budget.variables budget.calls

-- what a part gives with the variables, the calls and the brackets of a budget
abbrev pub read_in : {Y : Type 0} → Budget → (ℕ → (Ask → Read) → ℕ → Y) → Y
read_in budget part = part budget.variables (reader_in budget) budget.brackets

-- a budget that leaves one call less, or none of no calls
abbrev pub IsBelow : Budget → Result Budget LineFault → Type 0
IsBelow budget (Ok below) = (budget.calls ≡ suc below.calls) × (budget.variables ≡ below.variables) × (budget.brackets ≡ below.brackets)
IsBelow budget (Err e) = (budget.calls ≡ 0) × (e ≡ faults.Malformed)

-- all tokens as one sum
unfoldable pub whole : ℕ → List TokenKind → Option Expression
whole m ts = do
  x ← sum_of m (read_at m (NODES_LIMIT + BRACKETS_LIMIT)) BRACKETS_LIMIT ts
  if length x.1 == 0 then Some x.0 else None
