use Rattle.std.proofs.Common.{◌≡◌, ◌≢◌, List, ℕ, ◌++◌, Option, Some, None, Bor}
use Rattle.std.specs.Option.{MatchOption}
use Rattle.std.proofs.lemmas.Slice.Eq.{strip_prefix_is}
use Rattle.std.proofs.lemmas.Bool.Decides.{Decides-eqb}
use Rattle.row_reading.specs.Found.{Finds}
use Rattle.row_reading.proofs.prefix.after_prefix.Goals as goal

found : (s p : List ℕ) (r : Option (Bor (List ℕ))) → MatchOption r ((rest : List ℕ) → s ≢ p ++ rest) (λ x. s ≡ p ++ x.now) → Finds (λ (x : Bor (List ℕ)). x.now) (λ (rest : List ℕ). s ≡ p ++ rest) r
found s p None h = h
found s p (Some x) h = h

pub returns : goal.returns
returns c = found c.args.bytes.now c.args.prefix.now c.strip_prefix.result (strip_prefix_is Decides-eqb c.args.bytes.now c.args.prefix.now c.strip_prefix.result c.strip_prefix.ensures.cases)
