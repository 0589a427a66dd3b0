use Rattle.std.proofs.Common.{refl, ◌≡◌, ℕ, List, [], ◌∷◌, ◌++◌, length, All, sym, ap, ◌∙◌, subst, IsPermutation, arith}
use Rattle.std.specs.List.{concat, range_with_len}
use Rattle.std.proofs.lemmas.List.Elements.{All-head, All-tail}
use Rattle.frontier_pool.specs.Sweeps.{followed}
use Rattle.frontier_pool.proofs.laws.new_hands_batch.Goals as goal

-- parts that follow nothing
followed_nothing : (before claim_lists : List (List ℕ)) → length claim_lists ≡ length before → All (λ l. l ≡ []) before → followed before claim_lists ≡ claim_lists
followed_nothing [] [] each new = refl
followed_nothing [] (p ∷ claim_lists) each new = absurd (omega arith)
followed_nothing (b ∷ before) [] each new = absurd (omega arith)
followed_nothing (b ∷ before) (p ∷ claim_lists) each new =
    ap (λ (l : List ℕ). (l ++ p) ∷ followed before claim_lists) (All-head (λ l. l ≡ []) b before new) ∙ ap (λ (ps : List (List ℕ)). p ∷ ps) (followed_nothing before claim_lists (omega arith) (All-tail (λ l. l ≡ []) b before new))

pub returns : goal.returns
returns c = λ before after items h new.
    subst (λ l. IsPermutation (range_with_len 0 items) (concat l)) (sym (h.grown ∙ followed_nothing before h.claim_lists h.each new)) h.once
