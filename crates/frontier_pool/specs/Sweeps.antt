-- What a sweep does, as the lists of what the hands did show it.
use Rattle.std.specs.Prelude.{◌≡◌, ℕ, List, [], ◌∷◌, ◌++◌, length, map, None, IsPermutation}
use Rattle.std.specs.List.{concat, range_with_len}
use Rattle.frontier_pool.specs.declared.member.Member.{Member}

-- each list followed by its part
abbrev pub followed : List (List ℕ) → List (List ℕ) → List (List ℕ)
followed [] claim_lists = []
followed (was ∷ more) [] = []
followed (was ∷ more) (claim_list ∷ claim_lists) = (was ++ claim_list) ∷ followed more claim_lists

-- each list after is the one before followed by a part, and the parts together are the numbers below items, each once
pub record Sweeps (before after : List (List ℕ)) (items : ℕ) : Type 0 where
  pub claim_lists : List (List ℕ)
  pub each : length claim_lists ≡ length before
  pub grown : after ≡ followed before claim_lists
  pub once : IsPermutation (range_with_len 0 items) (concat claim_lists)

-- the member has nothing local: it takes part in no sweep
abbrev pub IsIdle : {H : Type 0} → Member H → Type 0
IsIdle m = m.local ≡ None

-- what the hands of some members did, as a hand shows it, grew by the numbers below items, each once
abbrev pub HaveSwept : {H : Type 0} → (H → List ℕ) → List (Member H) → List (Member H) → ℕ → Type 0
HaveSwept {H} done before after items = Sweeps (map (λ (m : Member H). done m.hand) before) (map (λ (m : Member H). done m.hand) after) items
