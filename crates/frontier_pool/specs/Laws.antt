-- What a sweep shows a caller whose hands are new.
use Rattle.std.specs.Prelude.{◌≡◌, ℕ, List, [], All, IsPermutation}
use Rattle.std.specs.List.{concat, range_with_len}
use Rattle.frontier_pool.specs.Sweeps.{Sweeps}

-- what hands that had done nothing did in a sweep is all numbers below items, each once
abbrev pub NewHandsBatch : Type 0
NewHandsBatch = (before after : List (List ℕ)) (items : ℕ) → Sweeps before after items → All (λ l. l ≡ []) before → IsPermutation (range_with_len 0 items) (concat after)
