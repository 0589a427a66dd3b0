use Rattle.std.proofs.Common.{◌≡◌, ℕ, List, Some, Contains, length-append, refl, sym, arith}
use Rattle.std.specs.List.{slice_get}
use Rattle.std.proofs.lemmas.List.{length-map}
use Rattle.std.proofs.lemmas.Option.{slice_get_within, get_or_from_slice_get}
use Rattle.plant_text.specs.Grammar.{names_in}
use Rattle.plant_text.specs.inside.DraftsInMemory.{partial_of}
use Rattle.std.specs.Prelude.{Option, None, Bool, true, false, not, IfSome, ◌↔◌, IsTrue}
use Rattle.std.specs.Option.{IfNone, is_some}
use Rattle.plant_text.proofs.draft.Draft.is_new.Goals as goal

pub position_of-requires : goal.position_of-requires
position_of-requires c =
    let k = c.requires in
    simp (length-append, length-map) (omega (arith, k.states_bound, k.inputs_bound, k.noises_bound))

-- a name is new where none was found
new_where_none : (names : List (List ℕ)) (name : List ℕ) (o : Option ℕ) (b : Bool) → IfSome o (λ i. slice_get names i ≡ Some name) → IfNone o (Contains names name → ⊥) → is_some o ≡ not b → IsTrue b ↔ (Contains names name → ⊥)
new_where_none names name (Some i) b found none is = (λ yes. absurd cc, λ new. absurd (new (i, slice_get_within names i name found, get_or_from_slice_get names i name name found)))
new_where_none names name None b found none is = (λ _. none, λ _. not_false b (sym is))
  where
    not_false : (b : Bool) → not b ≡ false → b ≡ true
    not_false true e = refl
    not_false false e = absurd cc

pub returns : goal.returns
returns c =
    let new = new_where_none (names_in (partial_of c.args.self.now)) c.as_bytes.result.now c.position_of.result c.is_none.result c.position_of.ensures.found c.position_of.ensures.none c.is_none.ensures in
    rw c.as_bytes.ensures at new
