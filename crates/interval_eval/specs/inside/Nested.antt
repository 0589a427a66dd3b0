-- Ranges that are the same but for one.
use Rattle.std.specs.Prelude.{◌≡◌, ℕ, pos, List, IsTrue, slice_index_or}
use Rattle.fixed_expr.specs.Expression.{Expression}
use Rattle.fixed_expr.specs.Mentions.{mentions}
use Rattle.interval_eval.specs.declared.interval.Interval.{Interval}

-- the range of a variable
abbrev pub range_at : List Interval → ℕ → Interval
range_at area k = slice_index_or area k (record { lo = pos 0; hi = pos 0 })

-- each other variable that stands in an expression has one range in both
abbrev pub AreSameRangesBut : ℕ → Expression → List Interval → List Interval → Type 0
AreSameRangesBut k e area other = (i : ℕ) → (i ≡ k → ⊥) → IsTrue (mentions e i) → range_at area i ≡ range_at other i
