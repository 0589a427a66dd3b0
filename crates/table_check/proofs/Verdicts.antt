-- What makes a verdict.
use Rattle.std.proofs.Common.{inl, inr, ◌≡◌, ℕ, ◌<◌, ◌↔◌, Some, arith, refl, ap, subst}
use Rattle.std.proofs.lemmas.Bool.{cases_lt}
use Rattle.game_core.specs.Judging.{IsFirstFailure}
use Rattle.table_check.specs.declared.verdict.Verdict.{Verdict}
use Rattle.table_check.specs.declared.verdict.Verdict.TheVariants.{Valid, Invalid}
use Rattle.table_check.specs.Verdicts.{IsVerdict}

pub one_first : (Fact : ℕ → Type 0) (n c d : ℕ) → IsFirstFailure Fact 0 n (Some c) → IsFirstFailure Fact 0 n (Some d) → c ≡ d
one_first Fact n c d f g =
    elim (cases_lt c d) [
      | inl lt ↦ absurd (f.2 (g.3 c (omega arith) lt))
      | inr ge ↦ elim (cases_lt d c) [ inl lt ↦ absurd (g.2 (f.3 d (omega arith) lt)) | inr le ↦ omega arith ]
    ]

module _ (S : Type 0) (Right : ℕ → Type 0) (n : ℕ) where
  pub valid_verdict : S → ((c : ℕ) → c < n → Right c) → IsVerdict S Right n Valid
  valid_verdict s all = record {
    valid = (λ _. s, λ _. refl);
    invalid = λ c. (λ e. absurd (cc), λ f. absurd (f.2 (all c f.1)));
  }

  pub invalid_verdict : (c : ℕ) → (S → (b : ℕ) → b < n → Right b) → IsFirstFailure Right 0 n (Some c) → IsVerdict S Right n (Invalid c)
  invalid_verdict c all f = record {
    valid = (λ e. absurd (cc), λ s. absurd (f.2 (all s c f.1)));
    invalid = λ d. (λ e. let same : c ≡ d = cc in subst (λ x. IsFirstFailure Right 0 n (Some x)) same f, λ h. ap Invalid (one_first Right n c d f h));
  }

  -- the same verdict by other words
  pub same_verdict : (S' : Type 0) (Right' : ℕ → Type 0) (verdict : Verdict) → (S ↔ S') → ((c : ℕ) → c < n → Right c ↔ Right' c) → IsVerdict S Right n verdict → IsVerdict S' Right' n verdict
  same_verdict S' Right' verdict s r v = record {
    valid = (λ e. s.0 (v.valid.0 e), λ t. v.valid.1 (s.1 t));
    invalid = λ c. (
      λ e. let h = (v.invalid c).0 e in (h.0, h.1, λ x. h.2 ((r c h.1).1 x), λ b low lt. (r b (omega (arith, lt, h.1))).0 (h.3 b low lt)),
      λ h. (v.invalid c).1 (h.0, h.1, λ x. h.2 ((r c h.1).0 x), λ b low lt. (r b (omega (arith, lt, h.1))).1 (h.3 b low lt)),
    );
  }
