-- How often numbers stand in lists.
use Rattle.std.specs.Prelude.{ℕ, ◌==◌, Bool, cond, List, count_by}

-- 1 where a test holds, else 0
abbrev pub one_if : Bool → ℕ
one_if b = cond b 1 0

-- how often a number stands in a list
abbrev pub times : ℕ → List ℕ → ℕ
times n xs = count_by (λ x. x == n) xs
