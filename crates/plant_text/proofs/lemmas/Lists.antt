-- Lists.
use Rattle.std.proofs.Common.{◌≡◌, ℕ, ◌<◌, List, [], ◌∷◌, ◌++◌, length, refl, sym, ap, ◌∙◌, append_assoc, append-nil, arith, length-append, ◌≢◌, Contains, subst, ◌≤◌, get_or, map}
use Rattle.std.specs.Prelude.{slice_index_or, AllPairs}
use Rattle.std.specs.List.{flat_map}
use Rattle.std.proofs.lemmas.Grind.{flat_map-append}
use Rattle.std.proofs.lemmas.List.{get_or_append_left, get_or_at, get_or-map, length-map}
use Rattle.plant_record.specs.declared.variables.StateVariable.{StateVariable}
use Rattle.plant_record.specs.declared.variables.InputVariable.{InputVariable}
use Rattle.plant_record.specs.declared.variables.NoiseVariable.{NoiseVariable}
use Rattle.plant_record.specs.Description.{names_over}
use Rattle.std.proofs.lemmas.List.Elements.{Contains-get_or}
use Rattle.std.proofs.lemmas.List.Quantifiers.{all_pairs_push}

-- the texts of a list with one more at its end
pub flat_map_one_more : {X : Type 0} (f : X → List ℕ) (xs : List X) (x : X) → flat_map f (xs ++ x ∷ []) ≡ flat_map f xs ++ f x
flat_map_one_more f xs x = flat_map-append f xs (x ∷ []) ∙ ap (λ (y : List ℕ). flat_map f xs ++ y) (append-nil (f x))

-- what stands in the first of three lists
pub among_the_first : (a b c : List (List ℕ)) (i : ℕ) → i < length a → slice_index_or (a ++ b ++ c) i [] ≡ slice_index_or a i []
among_the_first a b c i lt = get_or_append_left (a ++ b) c [] i (omega (arith, lt, length-append a b)) ∙ get_or_append_left a b [] i lt

-- the name of a state among all names
pub named_at : (states : List StateVariable) (inputs : List InputVariable) (noises : List NoiseVariable) (i : ℕ) (s : StateVariable) → i < length states → s ≡ get_or states i s → get_or (names_over states inputs noises) i [] ≡ s.name
named_at states inputs noises i s lt at =
    among_the_first (map (λ (x : StateVariable). x.name) states) (map (λ (x : InputVariable). x.name) inputs) (map (λ (x : NoiseVariable). x.name) noises) i (omega (arith, lt, length-map states (λ (x : StateVariable). x.name)))
    ∙ get_or-map (λ (x : StateVariable). x.name) states i s [] lt ∙ ap (λ (x : StateVariable). x.name) (sym at)

-- a list with something at its end isn't empty
pub some_last : {X : Type 0} (xs : List X) (x : X) → xs ++ x ∷ [] ≡ [] → ⊥
some_last [] x e = cc
some_last (y ∷ xs) x e = cc

-- names that all differ and a new one
pub differ : (names : List (List ℕ)) (name : List ℕ) → AllPairs (λ a b. a ≢ b) names → (Contains names name → ⊥) → AllPairs (λ a b. a ≢ b) (names ++ name ∷ [])
differ names name all new =
    all_pairs_push (λ a b. a ≢ b) names name all (λ k d lt e. new (subst (λ (x : List ℕ). Contains names x) e (Contains-get_or names k d lt)))

-- a name stands once among names that differ
pub is_new : (names : List (List ℕ)) (before : List (List ℕ)) (name : List ℕ) (after : List (List ℕ)) → AllPairs (λ a b. a ≢ b) names → before ++ name ∷ after ≡ names → Contains before name → ⊥
is_new names before name after differ together found =
    let apart = subst (λ (ns : List (List ℕ)). AllPairs (λ a b. a ≢ b) ns) (sym together) differ in
    let first : get_or (before ++ name ∷ after) found.0 name ≡ name = get_or_append_left before (name ∷ after) name found.0 found.1 ∙ found.2 in
    let second : get_or (before ++ name ∷ after) (length before) name ≡ name = get_or_at before name after name (length before) refl in
    apart found.0 (length before) name found.1 (omega (arith, length-append before (name ∷ after))) (first ∙ sym second)

-- one more of a list
pub next : {X : Type 0} (done : List X) (x : X) (more all : List X) → done ++ x ∷ more ≡ all → (done ++ x ∷ []) ++ more ≡ all
next done x more all whole = append_assoc done (x ∷ []) more ∙ whole

-- there is room for one more
pub capacity : {X : Type 0} (done : List X) (x : X) (more all : List X) (n : ℕ) → done ++ x ∷ more ≡ all → length all ≤ n → length done < n
capacity done x more all n whole bound = omega (arith, bound, length-append done (x ∷ more), ap length whole)

pub all_of : {X : Type 0} (done : List X) (all : List X) → done ++ [] ≡ all → done ≡ all
all_of done all whole = sym (append-nil done) ∙ whole
