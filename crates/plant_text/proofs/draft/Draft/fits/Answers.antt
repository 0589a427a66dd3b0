use Rattle.std.proofs.Common.{◌≡◌, Bool, false, List, [], ◌∷◌, map, refl, ap}
use Rattle.std.specs.Prelude.{◌↔◌, IsTrue}
use Rattle.fixed_expr.specs.Expression.{expression_of}
use Rattle.plant_text.proofs.draft.Draft.fits.Goals as goal

-- a test that failed, of something that the statement asks for
failed : {b : Bool} {A F : Type 0} → b ≡ false → (IsTrue b ↔ A) → (F → A) → IsTrue b ↔ F
failed down test part = (λ yes. absurd cc, λ f. test.1 (part f))

none_of : {X Y : Type 0} (f : X → Y) (xs : List X) → map f xs ≡ [] → xs ≡ []
none_of f [] e = refl
none_of f (x ∷ xs) e = absurd cc

pub returns-then-takes_state : goal.returns-then-takes_state
returns-then-takes_state c =
    let t = c.if-takes_state.ensures.0 refl in
    rw c.in-State.is (λ new. (t.0, t.1, t.2, ap (map expression_of) t.3, t.4, c.is_new.ensures.0 new), λ fits. c.is_new.ensures.1 fits.5)

pub returns-else-takes_state : goal.returns-else-takes_state
returns-else-takes_state c = rw c.in-State.is (failed c.if-takes_state.false c.takes_state.ensures (λ fits. (fits.0, fits.1, fits.2, none_of expression_of _ fits.3, fits.4)))

pub returns-then-takes_input : goal.returns-then-takes_input
returns-then-takes_input c =
    let t = c.if-takes_input.ensures.0 refl in
    rw c.in-Input.is (λ new. (t.0, t.1, ap (map expression_of) t.2, t.3, c.is_new-then-takes_input.ensures.0 new), λ fits. c.is_new-then-takes_input.ensures.1 fits.4)

pub returns-else-takes_input : goal.returns-else-takes_input
returns-else-takes_input c = rw c.in-Input.is (failed c.if-takes_input.false c.takes_input.ensures (λ fits. (fits.0, fits.1, none_of expression_of _ fits.2, fits.3)))

pub returns-then-takes_noise : goal.returns-then-takes_noise
returns-then-takes_noise c =
    let t = c.if-takes_noise.ensures.0 refl in
    rw c.in-Noise.is (λ new. (t.0, ap (map expression_of) t.1, t.2, c.is_new-then-takes_noise.ensures.0 new), λ fits. c.is_new-then-takes_noise.ensures.1 fits.3)

pub returns-else-takes_noise : goal.returns-else-takes_noise
returns-else-takes_noise c = rw c.in-Noise.is (failed c.if-takes_noise.false c.takes_noise.ensures (λ fits. (fits.0, none_of expression_of _ fits.1, fits.2)))

pub returns-then-is_next : goal.returns-then-is_next
returns-then-is_next c =
    let t = c.if-is_next.ensures.0 refl in
    rw c.in-Next.is (λ taken. (t.0, t.1, c.takes.ensures.0 taken), λ fits. c.takes.ensures.1 fits.2)

pub returns-else-is_next : goal.returns-else-is_next
returns-else-is_next c = rw c.in-Next.is (failed c.if-is_next.false c.is_next.ensures (λ fits. (fits.0, fits.1)))
