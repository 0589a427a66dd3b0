use Rattle.std.proofs.Common.{◌≡◌, ℕ, ◌<◌, map, take}
use Rattle.std.specs.Prelude.{ℤ}
use Rattle.std.specs.Global.{Vec}
use Rattle.plant_record.specs.Description.{vectors_of}
use Rattle.successor_box.specs.Deviations.{HasNoOverflowAt, deviations_along}
use Rattle.successor_box.proofs.slopes.find_slopes.Given as goal

-- the equations so far
abbrev pub invariant-loop-equation : goal.invariant-loop-equation
invariant-loop-equation l = record {
  so_far : map (λ (deviations : Vec ℤ). deviations.items) l.by_equation.items ≡ map (deviations_along l.p) (take l.equation l.p.equations);
  fits : (i u : ℕ) → i < l.equation → u < vectors_of l.p.inputs → HasNoOverflowAt l.p i u;
}
