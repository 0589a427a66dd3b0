use Rattle.std.proofs.Common.{◌≡◌, ℕ, All, take}
use Rattle.pair_boxes.proofs.terms.are_zero.Given as goal

-- the numbers so far are 0
abbrev pub invariant-loop-n : goal.invariant-loop-n
invariant-loop-n l = All (λ (n : ℕ). n ≡ 0) (take l.n-index l.numbers)
