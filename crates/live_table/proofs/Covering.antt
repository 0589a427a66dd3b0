-- What a seat that knows a list can see.
use Rattle.std.proofs.Common.{◌≡◌, ◌∙◌, Option, Some, subst, refl}
use mathlib.Core.List.{IsPrefix}
use Rattle.live_table.specs.Publishes.{Published}
use Rattle.live_table.specs.inside.LiveProtocol.{Begins, Covers}
use Rattle.live_table.proofs.Prefixes.{prefix_self, prefix_trans}

-- who knows a list covers it
pub covers_same : (known : Option Published) (a : Published) → known ≡ Some a → Covers known a
covers_same known a is = record { all = a; is = is; opening = refl; begins = prefix_self a.list }

-- and its beginnings
pub covers_less : (known : Option Published) (a b : Published) → Covers known b → a.opening ≡ b.opening → IsPrefix a.list b.list → Covers known a
covers_less known a b h o p = record { all = h.all; is = h.is; opening = o ∙ h.opening; begins = prefix_trans a.list b.list h.all.list p h.begins }

-- lists that one seat covers are of one opening
pub covers_one : (known : Option Published) (a b : Published) → Covers known a → Covers known b → a.opening ≡ b.opening
covers_one known a b h k = cc (h.is, h.opening, k.is, k.opening)

-- a list that is covered begins what a look finds
pub covers_found : (known now : Option Published) (a f : Published) → Covers known a → Begins known now → now ≡ Some f → (a.opening ≡ f.opening) × IsPrefix a.list f.list
covers_found known now a f h begins is =
    let b : Begins (Some h.all) (Some f) = subst (λ (z : Option Published × Option Published). Begins z.0 z.1) (λ i. (h.is i, is i)) begins in
    (h.opening ∙ b.0, prefix_trans a.list h.all.list f.list h.begins b.1)
