-- What can't be denied: classical logic that needs no axiom.
use Rattle.std.proofs.Common.{inl, inr, ◌⊎◌}

-- a fact holds or it doesn't
pub either : (Fact : Type 0) → (Fact ⊎ (Fact → ⊥) → ⊥) → ⊥
either Fact deny = deny (inr (λ fact. deny (inl fact)))
