use Rattle.std.proofs.Common.{[], ◌∷◌, refl}
use Rattle.std.proofs.lemmas.List.{map-append}
use Rattle.fixed_expr.specs.Expression.{expression_of}
use Rattle.plant_text.proofs.draft.Draft.add.Goals as goal

pub returns-in_ok-push-in-Next-clause-added : goal.returns-in_ok-push-in-Next-clause-added
returns-in_ok-push-in-Next-clause-added c =
    rw (c.in-Next.is, c.in_ok-push-in-Next.ensures.items, map-append expression_of c.args.self.now.equations.items (c.in-Next.equation ∷ [])) refl

pub returns-in_ok-push-in-State-clause-added : goal.returns-in_ok-push-in-State-clause-added
returns-in_ok-push-in-State-clause-added c = rw (c.in-State.is, c.in_ok-push-in-State.ensures.items) refl

pub returns-in_ok-push-in-Input-clause-added : goal.returns-in_ok-push-in-Input-clause-added
returns-in_ok-push-in-Input-clause-added c = rw (c.in-Input.is, c.in_ok-push-in-Input.ensures.items) refl

pub returns-in_ok-push-in-Noise-clause-added : goal.returns-in_ok-push-in-Noise-clause-added
returns-in_ok-push-in-Noise-clause-added c = rw (c.in-Noise.is, c.in_ok-push-in-Noise.ensures.items) refl

pub returns-in_ok-push-in-Target-clause-added : goal.returns-in_ok-push-in-Target-clause-added
returns-in_ok-push-in-Target-clause-added c = rw (c.in-Target.is, c.in_ok-push-in-Target.ensures.items) refl

pub returns-in_ok-push-in-Obstacle-clause-added : goal.returns-in_ok-push-in-Obstacle-clause-added
returns-in_ok-push-in-Obstacle-clause-added c = rw (c.in-Obstacle.is, c.in_ok-push-in-Obstacle.ensures.items) refl
