-- What was read in parts.
use Rattle.std.proofs.Common.{◌≡◌, ℕ, zero, suc, ◌≤◌, Bool, true, false, cond, eqb, Option, Some, None, refl, arith}
use Rattle.expression_reading.specs.inside.ExpressionReading.{◌>>=◌}

-- both parts of what was read were; what follows of them is proved of variables, since a name that a `let` binds is written out
pub then_some : {A B : Type 0} (Goal : Type 0) (o : Option A) (f : A → Option B) (y : B) → (o >>= f) ≡ Some y → ((a : A) → o ≡ Some a → f a ≡ Some y → Goal) → Goal
then_some Goal None f y e then = absurd cc
then_some Goal (Some a) f y e then = then a refl e

-- a test that did not fail, and one that did not succeed
pub when_some : {A : Type 0} → (b : Bool) (x y : A) → cond b (Some x) None ≡ Some y → (b ≡ true) × (x ≡ y)
when_some true x y e = (refl, cc)
when_some false x y e = absurd cc

pub unless_some : {A : Type 0} → (b : Bool) (x y : A) → cond b None (Some x) ≡ Some y → (b ≡ false) × (x ≡ y)
unless_some true x y e = absurd cc
unless_some false x y e = (refl, cc)

pub past_none : {A : Type 0} → (b : Bool) (r : Option A) (y : A) → cond b None r ≡ Some y → (b ≡ false) × (r ≡ Some y)
past_none true r y e = absurd cc
past_none false r y e = (refl, e)

pub positive : (k : ℕ) → eqb k 0 ≡ false → 1 ≤ k
positive zero e = absurd cc
positive (suc k) e = omega arith
