-- Lists.
use Rattle.std.proofs.Common.{◌≡◌, ◌≢◌, ◌<◌, List, [], ◌∷◌, ◌++◌, length, All, ap, arith, refl, length-append}
use Rattle.std.specs.List.{Any}
use Rattle.std.proofs.lemmas.List.Elements.{All-tail}

pub same_head : {A : Type 0} (x y : A) (xs ys : List A) → x ∷ xs ≡ y ∷ ys → x ≡ y
same_head x y xs ys e = cc

pub same_tail : {A : Type 0} (x y : A) (xs ys : List A) → x ∷ xs ≡ y ∷ ys → xs ≡ ys
same_tail x y xs ys e = cc

pub same_last : {A : Type 0} (xs ys : List A) (x y : A) → xs ++ x ∷ [] ≡ ys ++ y ∷ [] → x ≡ y
same_last [] [] x y e = cc
same_last [] (b ∷ ys) x y e = absurd (omega (arith, ap length e, length-append ys (y ∷ [])))
same_last (a ∷ xs) [] x y e = absurd (omega (arith, ap length e, length-append xs (x ∷ [])))
same_last (a ∷ xs) (b ∷ ys) x y e = same_last xs ys x y (same_tail a b (xs ++ x ∷ []) (ys ++ y ∷ []) e)

pub some_element : {A : Type 0} (xs : List A) → xs ≢ [] → 0 < length xs
some_element [] ne = absurd (ne refl)
some_element (x ∷ xs) ne = omega arith

-- what holds of all of two lists holds of all of the second
pub All-append_back : {A : Type 0} (P : A → Type 0) (xs ys : List A) → All P (xs ++ ys) → All P ys
All-append_back P [] ys h = h
All-append_back P (x ∷ xs) ys h = All-append_back P xs ys (All-tail P x (xs ++ ys) h)

pub Any-weaker : {A : Type 0} (P Q : A → Type 0) (xs : List A) → ((x : A) → P x → Q x) → Any P xs → Any Q xs
Any-weaker P Q xs f a = (a.0, a.1, a.2, a.3, f a.1 a.4)
