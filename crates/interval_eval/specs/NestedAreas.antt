-- Ranges that lie in wider ones.
use Rattle.std.specs.Prelude.{◌≤ℤ◌, List, [], ◌∷◌}
use Rattle.interval_eval.specs.declared.interval.Interval.{Interval}

-- an interval lies in another
abbrev pub IsPartOf : Interval → Interval → Type 0
IsPartOf i j = (j.lo ≤ℤ i.lo) × (i.hi ≤ℤ j.hi)

-- each range lies in the wider one, one for each
abbrev pub ArePartsOf : List Interval → List Interval → Type 0
ArePartsOf [] [] = Unit {0}
ArePartsOf [] (j ∷ wider) = ⊥
ArePartsOf (i ∷ area) [] = ⊥
ArePartsOf (i ∷ area) (j ∷ wider) = IsPartOf i j × ArePartsOf area wider
