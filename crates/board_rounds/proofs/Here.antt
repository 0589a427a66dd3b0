-- Where a proof asks what a bound promises.
use borrow.Fn.World.{World}
use contract.Forks.{Like}

-- in the world of the function itself, where what is allowed is allowed
abbrev pub here : (w : World) → Like w.𝓤 w.𝓡.allowed w.𝓡.how w.𝓡.allowed w.𝓡.how
here w = ((λ s x. x), (λ x. x), (λ x. x), λ x. x)
