-- Lists of members and of numbers.
use Rattle.std.proofs.Common.{◌≡◌, ℕ, zero, suc, ◌+◌, ◌<◌, ◌≤◌, List, [], ◌∷◌, ◌++◌, length, get_or, set, take, refl, sym, ap, ◌∙◌, arith}
use Rattle.std.proofs.lemmas.List.{append-nil, take_more, length-set, get_or-set_other}
use Rattle.std.proofs.lemmas.List.Elements.{AllWithin-more_set}
use Rattle.std.proofs.lemmas.List.Concat.{flat_map-append}
use Rattle.frontier_pool.specs.declared.member.Member.{Member}
use Rattle.frontier_pool.specs.inside.Members.{claim_lists_in, claim_lists_of, hands}

-- a member that keeps its hand
pub hands-set : {H : Type 0} (members : List (Member H)) (i : ℕ) (now d : Member H) → now.hand ≡ (get_or members i d).hand → hands (set members i now) ≡ hands members
hands-set [] i now d same = refl
hands-set {H} (m ∷ members) zero now d same = ap (λ (h : H). h ∷ hands members) same
hands-set {H} (m ∷ members) (suc i) now d same = ap (λ (hs : List H). m.hand ∷ hs) (hands-set members i now d same)

-- what holds below a position, and then of what is written there
pub below-set : {X : Type 0} (P : X → Type 0) (xs : List X) (i : ℕ) (y : X) → i < length xs → ((k : ℕ) (d : X) → k < i → P (get_or xs k d)) → P y → (k : ℕ) (d : X) → k < i + 1 → P (get_or (set xs i y) k d)
below-set P xs i y there below here k d lt = AllWithin-more_set xs i y there P (λ j e from to. below j e to) here k d (omega arith) lt

-- what is after a position stays, where something is written there
pub after-set : {X : Type 0} (xs ys : List X) (i : ℕ) (y : X) → ((k : ℕ) (d : X) → i ≤ k → k < length xs → get_or xs k d ≡ get_or ys k d) → (k : ℕ) (d : X) → i + 1 ≤ k → k < length (set xs i y) → get_or (set xs i y) k d ≡ get_or ys k d
after-set xs ys i y same k d from lt = get_or-set_other xs i k y d (λ e. absurd (omega arith)) ∙ same k d (omega arith) (omega (arith, length-set xs i y))

-- the parts of one more member
pub claim_lists_of-more : {H : Type 0} (members : List (Member H)) (i : ℕ) (m : Member H) → i < length members → m ≡ get_or members i m → claim_lists_of (take (i + 1) members) ≡ claim_lists_of (take i members) ++ claim_lists_in m.local
claim_lists_of-more {H} members i m there is =
    ap claim_lists_of (take_more members i m there) ∙ flat_map-append (λ (n : Member H). claim_lists_in n.local) (take i members) (get_or members i m ∷ [])
    ∙ ap (λ l. claim_lists_of (take i members) ++ l) (append-nil (claim_lists_in (get_or members i m).local)) ∙ ap (λ (n : Member H). claim_lists_of (take i members) ++ claim_lists_in n.local) (sym is)
