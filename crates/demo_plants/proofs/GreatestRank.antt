-- The greatest rank, one more row at a time.
use Rattle.std.proofs.Common.{◌≡◌, ℕ, zero, suc, ◌+◌, max, List, [], ◌∷◌, take, Option, Some, None, refl, ap, arith, add-one}
use Rattle.std.specs.Prelude.{map}
use Rattle.game_core.specs.declared.game.Row.{Row}
use Rattle.game_core.specs.Solution.{row_of, rank_in, greatest}

abbrev greatest_of : List (Option Row) → ℕ
greatest_of rows = greatest (map rank_in rows)

greatest_suc : (rows : List (Option Row)) (i : ℕ) → greatest_of (take (suc i) rows) ≡ max (rank_in (row_of rows i)) (greatest_of (take i rows))
greatest_suc [] zero = omega arith
greatest_suc [] (suc i) = omega arith
greatest_suc (row ∷ rows) zero = refl
greatest_suc (row ∷ rows) (suc i) = let rest = greatest_suc rows i in omega (arith, rest)

pub greatest_same : (rows : List (Option Row)) (i : ℕ) → row_of rows i ≡ None → greatest (map rank_in (take (i + 1) rows)) ≡ greatest (map rank_in (take i rows))
greatest_same rows i e = rw add-one (let more = greatest_suc rows i in omega (arith, more, ap rank_in e))

pub greatest_more : (rows : List (Option Row)) (i : ℕ) (row : Row) → row_of rows i ≡ Some row → greatest (map rank_in (take (i + 1) rows)) ≡ max row.rank (greatest (map rank_in (take i rows)))
greatest_more rows i row e = rw add-one (let more = greatest_suc rows i in omega (arith, more, ap rank_in e))
