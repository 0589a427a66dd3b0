-- A list is cut in one way at the first element that fails a test.
use Rattle.std.proofs.Common.{◌≡◌, ℕ, Bool, true, false, List, [], ◌∷◌, ◌++◌, refl, sym, ap, subst, ◌∙◌}
use Rattle.std.specs.List.{list_all}
use Rattle.std.proofs.lemmas.Bool.{and_parts}

-- Two fronts, the elements after them, and the rests.
pub record AreOneCut (v w : List ℕ) (a b : ℕ) (s t : List ℕ) : Type 0 where
  pub front : v ≡ w
  pub stop : a ≡ b
  pub rest : s ≡ t

pub not_both : (b : Bool) → b ≡ true → b ≡ false → ⊥
not_both b y n = cc

pub one_cut : (p : ℕ → Bool) (v w : List ℕ) (a b : ℕ) (s t : List ℕ) → list_all p v ≡ true → list_all p w ≡ true → p a ≡ false → p b ≡ false → v ++ a ∷ s ≡ w ++ b ∷ t → AreOneCut v w a b s t
one_cut p [] [] a b s t hv hw ha hb e = record { front = refl; stop = (let h = e in cc); rest = (let h = e in cc) }
one_cut p [] (y ∷ w) a b s t hv hw ha hb e =
    let head : a ≡ y = (let h = e in cc) in
    absurd (not_both (p y) (and_parts (p y) (list_all p w) hw).0 (subst (λ (x : ℕ). p x ≡ false) head ha))
one_cut p (x ∷ v) [] a b s t hv hw ha hb e =
    let head : x ≡ b = (let h = e in cc) in
    absurd (not_both (p x) (and_parts (p x) (list_all p v) hv).0 (subst (λ (z : ℕ). p z ≡ false) (sym head) hb))
one_cut p (x ∷ v) (y ∷ w) a b s t hv hw ha hb e =
    let head : x ≡ y = (let h = e in cc) in
    let tail : v ++ a ∷ s ≡ w ++ b ∷ t = (let h = e in cc) in
    let more = one_cut p v w a b s t (and_parts (p x) (list_all p v) hv).1 (and_parts (p y) (list_all p w) hw).1 ha hb tail in
    record { front = ap (λ (z : ℕ). z ∷ v) head ∙ ap (λ (z : List ℕ). y ∷ z) more.front; stop = more.stop; rest = more.rest }
