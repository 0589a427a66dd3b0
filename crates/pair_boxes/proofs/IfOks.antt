-- What is known of a result where it is Ok.
use Rattle.std.proofs.Common.{Result, Ok, Err, IfOk}

-- two facts of what is returned give a third
pub IfOk-both : {T E : Type 0} (r : Result T E) (P Q R : T → Type 0) → IfOk r P → IfOk r Q → ((x : T) → P x → Q x → R x) → IfOk r R
IfOk-both (Ok x) P Q R p q both = both x p q
IfOk-both (Err e) P Q R p q both = tt
