-- One successor more is cut from one pair.
use Rattle.std.proofs.Common.{inl, inr, ◌≡◌, ◌≢◌, ℕ, suc, ◌-◌, ◌/◌, ◌%◌, ◌<◌, ◌⊎◌, Bool, true, false, not, ◌||◌, ◌&&◌, ◌==◌, List, [], length, get_or, set, count_by, Contains, AllPairs, arith, refl, sym, ◌∙◌, ap, subst, length-set, get_or-set_same, get_or-set_other, mul_comm}
use Rattle.std.proofs.Math.Bool.{or-true, or-false, and-false}
use Rattle.std.proofs.lemmas.Bool.{cases_lt, cases_eq, eq-eqb, ne_eqb}
use Rattle.std.proofs.lemmas.List.Elements.{Contains-get_or, All-get_or}
use Rattle.std.proofs.lemmas.List.Kept.{AllPairs-from_increasing}
use Rattle.std.proofs.lemmas.List.{get_or_past}
use Rattle.std.proofs.lemmas.Nat.{mul-add-lt, div-add-mod', div_below, mod_below}
use Rattle.std.specs.List.Sorted.{IsStrictlyIncreasing}
use Rattle.base.proofs.Counts.{count_same, count_less}
use Rattle.game_core.specs.Game.{Game, IsGame, pair_of, pairs_of, successors_at}
use Rattle.game_core.specs.inside.Search.{IsCounted}
use Rattle.base.proofs.Products.{some_factor}

-- the same cuts, and one of c from the pair
abbrev pub with_edge : (ℕ → ℕ → Bool) → ℕ → ℕ → ℕ → ℕ → Bool
with_edge cut pair c q s = cut q s || (q == pair && s == c)

pub edge_here : (cut : ℕ → ℕ → Bool) (pair c : ℕ) → with_edge cut pair c pair c ≡ true
edge_here cut pair c = ap (λ t. cut pair c || (t && c == c)) (eq-eqb pair pair refl) ∙ (ap (λ t. cut pair c || t) (eq-eqb c c refl) ∙ or-true (cut pair c))

pub edge_other_cell : (cut : ℕ → ℕ → Bool) (pair c q s : ℕ) → s ≢ c → with_edge cut pair c q s ≡ cut q s
edge_other_cell cut pair c q s ne = ap (λ t. cut q s || (q == pair && t)) (ne_eqb s c ne) ∙ (ap (λ t. cut q s || t) (and-false (q == pair)) ∙ or-false (cut q s))

pub edge_other_pair : (cut : ℕ → ℕ → Bool) (pair c q s : ℕ) → q ≢ pair → with_edge cut pair c q s ≡ cut q s
edge_other_pair cut pair c q s ne = ap (λ t. cut q s || (t && s == c)) (ne_eqb q pair ne) ∙ or-false (cut q s)

pub edge_cases : (cut : ℕ → ℕ → Bool) (pair c q s : ℕ) → with_edge cut pair c q s ≡ true → (cut q s ≡ true) ⊎ ((q ≡ pair) × (s ≡ c))
edge_cases cut pair c q s e =
    elim (cases_eq q pair) [
      | inr ne ↦ inl (sym (edge_other_pair cut pair c q s ne) ∙ e)
      | inl p ↦ elim (cases_eq s c) [
        | inr ne ↦ inl (sym (edge_other_cell cut pair c q s ne) ∙ e)
        | inl t ↦ inr (p, t)
      ]
    ]

-- successors differ
pub successors_apart : (g : Game) → IsGame g → (pair : ℕ) → AllPairs (λ a b. a ≢ b) (successors_at g pair)
successors_apart g h pair =
    elim (cases_lt pair (length g.successors)) [
      | inl lt ↦ (λ i j d l m e. let r = AllPairs-from_increasing (successors_at g pair) (All-get_or IsStrictlyIncreasing g.successors pair [] lt h.rising) i j d l m in omega arith)
      | inr ge ↦ (λ i j d l m e. let n : length (successors_at g pair) ≡ 0 = ap length (get_or_past g.successors pair [] ge) in omega arith)
    ]

-- the cell and the input that a pair is of
pub record HasParts (g : Game) (pair : ℕ) : Type 0 where
  pub cell : pair / g.inputs < g.cells
  pub input : pair % g.inputs < g.inputs
  pub is : pair_of g (pair / g.inputs) (pair % g.inputs) ≡ pair

pub parts_of : (g : Game) (pair : ℕ) → pair < pairs_of g → HasParts g pair
parts_of g pair lt =
    let some' = some_factor g.cells g.inputs pair lt in
    record { cell = div_below pair g.inputs g.cells some' lt; input = mod_below pair g.inputs some'; is = div-add-mod' pair g.inputs }

pub pair_below : (g : Game) (c v : ℕ) → c < g.cells → v < g.inputs → pair_of g c v < pairs_of g
pair_below g c v lt lv = let l = mul-add-lt c g.inputs v g.cells lt lv in subst (λ n. pair_of g c v < n) (mul_comm g.inputs g.cells) l

module _ (g : Game) (a : IsGame g) (cut : ℕ → ℕ → Bool) (left : List ℕ) (h : IsCounted g cut left) (pair c : ℕ) (lt : pair < pairs_of g) (leads : Contains (successors_at g pair) c) (whole : cut pair c ≡ false) where
  less_by_one : suc (count_by (λ s. not (with_edge cut pair c pair s)) (successors_at g pair)) ≡ count_by (λ s. not (cut pair s)) (successors_at g pair)
  less_by_one = count_less (λ s. not (cut pair s)) (λ s. not (with_edge cut pair c pair s)) c (ap not whole) (ap not (edge_here cut pair c)) (λ x ne. ap not (edge_other_cell cut pair c pair x ne)) (successors_at g pair) leads.0 (successors_apart g a pair) leads.1 leads.2

  -- a pair with a successor that is not cut has some left
  pub some_left : 0 < get_or left pair 0
  some_left = let e = h.counts pair lt in let l = less_by_one in omega arith

  pub counted_less : IsCounted g (with_edge cut pair c) (set left pair (get_or left pair 0 - 1))
  counted_less = record {
    one_each = length-set left pair (get_or left pair 0 - 1) ∙ h.one_each;
    counts = λ q lq.
        elim (cases_eq q pair) [
          | inl e ↦ subst (λ q. get_or (set left pair (get_or left pair 0 - 1)) q 0 ≡ count_by (λ s. not (with_edge cut pair c q s)) (successors_at g q)) (sym e)
              (let w : get_or (set left pair (get_or left pair 0 - 1)) pair 0 ≡ get_or left pair 0 - 1 = get_or-set_same left pair (get_or left pair 0 - 1) 0 (omega arith) in
              let l = less_by_one in
              omega arith)
          | inr ne ↦ get_or-set_other left pair q (get_or left pair 0 - 1) 0 ne ∙ (h.counts q lq ∙ count_same (λ s. not (cut q s)) (λ s. not (with_edge cut pair c q s)) (successors_at g q) (λ i d li. ap not (sym (edge_other_pair cut pair c q (get_or (successors_at g q) i d) ne))))
        ];
  }

-- cuts that agree on the successors count alike
pub counted_alike : (g : Game) (cut other : ℕ → ℕ → Bool) (left : List ℕ) → IsCounted g cut left → ((pair s : ℕ) → pair < pairs_of g → Contains (successors_at g pair) s → cut pair s ≡ other pair s) → IsCounted g other left
counted_alike g cut other left h alike = record {
  one_each = h.one_each;
  counts = λ pair lt. h.counts pair lt ∙ count_same (λ s. not (cut pair s)) (λ s. not (other pair s)) (successors_at g pair) (λ i d li. ap not (alike pair (get_or (successors_at g pair) i d) lt (Contains-get_or (successors_at g pair) i d li)));
}
