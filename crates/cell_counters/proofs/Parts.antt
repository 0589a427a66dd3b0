-- The accounts of all views, where one view changes.
use Rattle.std.proofs.Common.{◌≡◌, ℕ, zero, suc, List, [], ◌∷◌, ◌++◌, length, set, refl, sym, ap, ◌∙◌, subst, All, IsPermutation, length-append}
use Rattle.std.specs.List.{flat_map}
use Rattle.std.proofs.lemmas.List.Concat.{flat_map-append}
use mathlib.Core.Option.{some, some-injective}
use lib.ListN.{get_elem?}
use Rattle.cell_counters.specs.declared.account.Account.{Account}
use Rattle.cell_counters.specs.declared.rule.View.{View}
use Rattle.cell_counters.specs.inside.BoardProtocol.{accounts_of, made_of}
use Rattle.cell_counters.proofs.Lists.{around, All-replaced, pushed_inside}

-- one account became another
pub record Replaced (before after : List Account) (a b : Account) : Type 0 where
  pub front : List Account
  pub back : List Account
  pub was : before ≡ front ++ a ∷ back
  pub is : after ≡ front ++ b ∷ back

module _ {X : Type 0} (f : Account → List X) (xs ys : List Account) (a b : Account) (r : Replaced xs ys a b) where
  -- the entries of all accounts, around those of the one
  pub entries_were : flat_map f xs ≡ flat_map f r.front ++ (f a ++ flat_map f r.back)
  entries_were = ap (flat_map f) r.was ∙ flat_map-append f r.front (a ∷ r.back)

  entries_are : flat_map f ys ≡ flat_map f r.front ++ (f b ++ flat_map f r.back)
  entries_are = ap (flat_map f) r.is ∙ flat_map-append f r.front (b ∷ r.back)

  -- a step that adds no entry
  pub entries_stay : f b ≡ f a → flat_map f ys ≡ flat_map f xs
  entries_stay same = entries_are ∙ ap (λ l. flat_map f r.front ++ (l ++ flat_map f r.back)) same ∙ sym entries_were

  -- a step that adds one
  pub entries_grow : (x : X) → f b ≡ f a ++ x ∷ [] → IsPermutation (x ∷ flat_map f xs) (flat_map f ys)
  entries_grow x more =
      let F = flat_map f r.front in
      let R = flat_map f r.back in
      subst (λ l. IsPermutation (x ∷ l) (flat_map f ys)) (sym entries_were) (subst (IsPermutation (x ∷ (F ++ (f a ++ R)))) (sym (entries_are ∙ ap (λ l. F ++ (l ++ R)) more)) (pushed_inside F (f a) R x))

-- what holds of all accounts before, and is kept by the one, holds of all after
pub All-after : (P : Account → Type 0) (xs ys : List Account) (a b : Account) → Replaced xs ys a b → (P a → P b) → All P xs → All P ys
All-after P xs ys a b r keeps h = subst (All P) (sym r.is) (All-replaced P r.front r.back a b keeps (subst (All P) r.was h))

pub accounts_around : (front back : List View) (v : View) (a : Account) → v.accounts ≡ a ∷ [] → accounts_of (front ++ v ∷ back) ≡ accounts_of front ++ a ∷ accounts_of back
accounts_around front back v a one = flat_map-append (λ (u : View). u.accounts) front (v ∷ back) ∙ ap (λ l. accounts_of front ++ (l ++ accounts_of back)) one

pub replaced : (views : List View) (id : ℕ) (v w : View) (a b : Account) → get_elem? views id ≡ some v → v.accounts ≡ a ∷ [] → w.accounts ≡ b ∷ [] → Replaced (accounts_of views) (accounts_of (set views id w)) a b
replaced views id v w a b at one other =
    let r = around views id v at in
    record {
      front = accounts_of r.front;
      back = accounts_of r.back;
      was = ap accounts_of r.is ∙ accounts_around r.front r.back v a one;
      is = ap accounts_of (r.becomes w) ∙ accounts_around r.front r.back w b other;
    }

pub made_of-set : (views : List View) (id : ℕ) (v w : View) → get_elem? views id ≡ some v → w.made ≡ v.made → made_of (set views id w) ≡ made_of views
made_of-set [] id v w at same = refl
made_of-set (x ∷ xs) zero v w at same = same ∙ ap (λ (u : View). u.made) (sym (some-injective x v at))
made_of-set (x ∷ xs) (suc id) v w at same = refl

pub length-replaced : (before after : List Account) (a b : Account) → Replaced before after a b → length after ≡ length before
length-replaced before after a b r =
    ap length r.is ∙ length-append r.front (b ∷ r.back) ∙ sym (length-append r.front (a ∷ r.back)) ∙ ap length (sym r.was)
