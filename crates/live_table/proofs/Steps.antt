-- Each step on the two copies keeps the rule.
use Rattle.std.proofs.Common.{◌≡◌, ℕ, ◌≢◌, List, [], ◌∷◌, ◌++◌, Option, Some, None, set, refl, ◌∙◌, subst, ⊎_elim}
use mathlib.Core.Option.{some}
use lib.ListN.{get_elem?}
use Rattle.left_right.specs.Register.{Admits, Turns, TurnsAt, Forks, Merges}
use Rattle.atomic_table.proofs.Lists.{at_set, at_snoc}
use Rattle.live_table.specs.declared.copy.LiveCopy.{LiveCopy}
use Rattle.live_table.specs.Publishes.{Published}
use Rattle.live_table.specs.inside.LiveProtocol.{Begins, AllBegin}
use Rattle.live_table.proofs.Prefixes.{prefix_self, prefix_trans}

-- the rule
abbrev pub holds : LiveCopy → List (Option Published) → Type 0
holds x views = AllBegin x.current views

-- what a step tells
abbrev pub sees : Option Published → LiveCopy → LiveCopy → Option Published → Type 0
sees v x y w = Begins v y.current × (w ≡ y.current)

pub begins_same : (v : Option Published) → Begins v v
begins_same None = tt
begins_same (Some f) = (refl, prefix_self f.list)

pub begins_trans : (u v w : Option Published) → Begins u v → Begins v w → Begins u w
begins_trans None v w p q = tt
begins_trans (Some f) None w p q = absurd p
begins_trans (Some f) (Some g) None p q = absurd q
begins_trans (Some f) (Some g) (Some h) p q = (p.0 ∙ q.0, prefix_trans f.list g.list h.list p.1 q.1)

-- the rule stays where one seat's list is another that begins the list in force
set_begins : (now : Option Published) (views : List (Option Published)) (seat : ℕ) (w : Option Published) → AllBegin now views → Begins w now → AllBegin now (set views seat w)
set_begins now views seat w h b j u e =
    ⊎_elim (λ (t : (j ≡ seat) × (w ≡ u)). subst (λ (z : Option Published). Begins z now) t.1 b) (λ (t : (j ≢ seat) × (get_elem? views j ≡ some u)). h j u t.1) (at_set views seat j w u e)

-- and where a seat comes
add_begins : (now : Option Published) (views : List (Option Published)) (w : Option Published) → AllBegin now views → Begins w now → AllBegin now (views ++ w ∷ [])
add_begins now views w h b j u e = ⊎_elim (h j u) (λ (t : w ≡ u). subst (λ (z : Option Published). Begins z now) t b) (at_snoc views w u j e)

-- a new reader knows nothing
pub admits : Admits holds None
admits x views h = add_begins x.current views None h tt

-- the list in force only grows, and who looks knows it
pub turns : (seat : ℕ) (v : Option Published) (x y : LiveCopy) → Begins x.current y.current → TurnsAt holds seat v x y sees
turns seat v x y up views h at =
    let later : AllBegin y.current views = λ j u e. begins_trans u x.current y.current (h j u e) up in (
      y.current,
      set_begins y.current views seat y.current later (begins_same y.current),
      (later seat v at, refl),
    )

pub looks : (seat : ℕ) (v : Option Published) → Turns holds seat v (λ x. x) sees
looks seat v x = turns seat v x x (begins_same x.current)

pub forks : (seat : ℕ) (v : Option Published) → Forks holds seat v v v
forks seat v x views h at = add_begins x.current (set views seat v) v (set_begins x.current views seat v h (h seat v at)) (h seat v at)

pub merges : (seat : ℕ) (v : Option Published) (other : ℕ) (w : Option Published) → Merges holds seat v other w w None
merges seat v other w x views h at apart there =
    let b : Begins w x.current = ⊎_elim (λ (t : (other ≡ seat) × (w ≡ w)). absurd (apart t.0)) (λ (t : (other ≢ seat) × (get_elem? views other ≡ some w)). h other w t.1) (at_set views seat other w w there) in
    set_begins x.current (set views seat w) other None (set_begins x.current views seat w h b) tt
