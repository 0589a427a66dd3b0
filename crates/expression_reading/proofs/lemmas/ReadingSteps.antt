-- What a reader does with one call less.
use Rattle.std.proofs.Common.{◌≡◌, ℕ, zero, suc, ◌+◌, ◌-◌, ◌<◌, ◌≤◌, List, [], ◌∷◌, ◌++◌, length, take, drop, get_or, Option, Some, None, Ok, refl, sym, ap, arith}
use Rattle.std.specs.Prelude.{ℤ}
use Rattle.fixed_expr.specs.Expression.{Expression, NegExpr}
use Rattle.expression_reading.specs.declared.expression.Budget.{Budget}
use Rattle.expression_reading.specs.declared.token_kind.TokenKind.{TokenKind}
use Rattle.expression_reading.specs.declared.token_kind.TokenKind.TheVariants as kind
use Rattle.expression_reading.specs.inside.ExpressionReading.{◌>>=◌, Ask, Inside, IsBelow, Read, RestOfSum, RestOfTerm, after_sum, after_term, factor_of, kept, negated, point_at, points_at, step, read_at, read_in, reader_in}

-- one point more
pub more_points : (n : ℕ) (points : List (ℤ × ℤ)) (ts : List TokenKind) → 0 < n → points_at n points (kind.Comma ∷ ts) ≡ (point_at ts >>= λ p. points_at (n - 1) (points ++ p.0 ∷ []) p.1)
unfolding points_at
more_points zero points ts lt = absurd (omega arith)
more_points (suc n) points ts lt =
    let k : suc n - 1 ≡ n = omega arith in
    rw k refl

-- a reader with room for one more call, and one with none
pub read_more : (m n : ℕ) (q : Ask) → 1 ≤ n → read_at m n q ≡ step m (read_at m (n - 1)) q
unfolding read_at
read_more m zero q le = absurd (omega arith)
read_more m (suc n) q le =
    let k : suc n - 1 ≡ n = omega arith in
    rw k refl

pub read_none : (m n : ℕ) (q : Ask) → n ≡ 0 → read_at m n q ≡ None
unfolding read_at
read_none m n q e = rw e refl

-- no bracket may be opened
pub no_bracket : (m n b : ℕ) (ts : List TokenKind) → b ≡ 0 → read_at m n (Inside b ts) ≡ None
unfolding read_at step
no_bracket m zero b ts e = refl
no_bracket m (suc n) b ts e = rw e refl

-- a list by its first element and the others
pub headed : (ts : List TokenKind) (t : TokenKind) → get_or ts 0 (kind.Number 0) ≡ t → 1 ≤ length ts → ts ≡ t ∷ take (length ts - 1) (drop 1 ts)
headed [] t e le = absurd (omega arith)
headed (s ∷ ts) t e le =
    let n : suc (length ts) - 1 ≡ length ts = omega arith in
    rw (n, e) (ap (λ (us : List TokenKind). t ∷ us) (sym (take-all ts)))
  where
    take-all : (us : List TokenKind) → take (length us) us ≡ us
    take-all [] = refl
    take-all (u ∷ us) = ap (λ (vs : List TokenKind). u ∷ vs) (take-all us)

-- a sum or a term that goes on is read with one call less
pub rest_of_sum : (budget below : Budget) (a : Expression) (ts : List TokenKind) → IsBelow budget (Ok below) → reader_in budget (RestOfSum budget.brackets a ts) ≡ read_in below after_sum a ts
unfolding read_at step
rest_of_sum budget below a ts b = rw (b.1, b.2, b.0) refl

pub rest_of_term : (budget below : Budget) (a : Expression) (ts : List TokenKind) → IsBelow budget (Ok below) → reader_in budget (RestOfTerm budget.brackets a ts) ≡ read_in below after_term a ts
unfolding read_at step
rest_of_term budget below a ts b = rw (b.1, b.2, b.0) refl

-- what is read, negated so often
abbrev pub signed : ℕ → Read → Read
signed n read = do
  a ← read
  e ← negated n a.0
  Some (e, a.1)

pub no_sign : (r : Read) → signed 0 r ≡ r
unfolding negated
no_sign None = refl
no_sign (Some a) = refl

-- a factor after a minus is one after one sign more
pub sign_more : (budget below : Budget) (signs : ℕ) (ts : List TokenKind) → IsBelow budget (Ok below) → signed signs (read_in budget factor_of (kind.Minus ∷ ts)) ≡ signed (signs + 1) (read_in below factor_of ts)
unfolding factor_of negated read_at step
sign_more budget below signs ts b =
    let more : signs + 1 ≡ suc signs = omega arith in
    rw (b.1, b.2, b.0, more) (of_factor (read_in below factor_of ts))
  where
    of_kept : (k : Option Expression) (us : List TokenKind) → signed signs (k >>= λ e. Some (e, us)) ≡ ((k >>= negated signs) >>= λ e. Some (e, us))
    of_kept None us = refl
    of_kept (Some e) us = refl

    of_factor : (r : Read) → signed signs (r >>= λ a. kept (NegExpr a.0) >>= λ e. Some (e, a.1)) ≡ signed (suc signs) r
    of_factor None = refl
    of_factor (Some a) = of_kept (kept (NegExpr a.0)) a.1
