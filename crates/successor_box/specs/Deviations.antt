-- The deviations of a plant's equations, and where one leaves the range.
use Rattle.std.specs.Prelude.{ℕ, ◌<◌, ℤ, pos, ◌+ℤ◌, ◌-ℤ◌, List, length, map, Option, SomeIff}
use Rattle.std.specs.List.{range_with_len}
use Rattle.fixed_expr.specs.Range.{IsInRange}
use Rattle.fixed_expr.specs.Expression.{Expression}
use Rattle.interval_eval.specs.declared.interval.Interval.{Interval}
use Rattle.interval_eval.specs.Span.{SpanStaysInRange, span_of}
use Rattle.growth_bound.specs.Deviation.{DeviationStaysInRange, deviation_of}
use Rattle.plant_record.specs.Description.{Description, vectors_of}
use Rattle.plant_record.specs.Steps.{equation_at}
use Rattle.successor_box.specs.declared.slope_fault.SlopeFault.{SlopeFault}
use Rattle.successor_box.specs.declared.slope_fault.SlopeFault.TheVariants.{Overflow, Memory}
use Rattle.successor_box.specs.SuccessorBoxes.{area_of, radii_of, deviation_at}

-- Over an area no node of an expression leaves the range, and neither do the low end of its span less its
-- deviation and the high end plus it.
pub record HasNoOverflowOver (e : Expression) (area : List Interval) (radii : List ℤ) : Type 0 where
  pub span : SpanStaysInRange e area
  pub deviation : DeviationStaysInRange e area radii
  pub low_end : IsInRange ((span_of e area).lo -ℤ pos (deviation_of e area radii))
  pub high_end : IsInRange ((span_of e area).hi +ℤ pos (deviation_of e area radii))

-- an answer is given exactly where no number leaves the range over an area, and then it is the deviation
abbrev pub AnswersDeviation : Option ℤ → Expression → List Interval → List ℤ → Type 0
AnswersDeviation answer e area radii = SomeIff answer (HasNoOverflowOver e area radii) (pos (deviation_of e area radii))

-- an equation fits under an input vector, over the whole domain and the noises' ranges
abbrev pub HasNoOverflowAt : Description → ℕ → ℕ → Type 0
HasNoOverflowAt p i u = HasNoOverflowOver (equation_at p i) (area_of p u) (radii_of p u)

-- every equation fits under every input vector
abbrev pub HasNoOverflow : Description → Type 0
HasNoOverflow p = (i u : ℕ) → i < length p.equations → u < vectors_of p.inputs → HasNoOverflowAt p i u

-- An equation that doesn't fit under an input vector, where each earlier equation fits under each, and this
-- one under each earlier.
pub record IsFirstOverflow (p : Description) (i u : ℕ) : Type 0 where
  pub equation : i < length p.equations
  pub input : u < vectors_of p.inputs
  pub overflow : HasNoOverflowAt p i u → ⊥
  pub equations_before : (j v : ℕ) → j < i → v < vectors_of p.inputs → HasNoOverflowAt p j v
  pub inputs_before : (v : ℕ) → v < u → HasNoOverflowAt p i v

-- how far an equation moves within a cell, by input vector
abbrev pub deviations_along : Description → Expression → List ℤ
deviations_along p e = map (λ u. deviation_at p u e) (range_with_len 0 (vectors_of p.inputs))

-- the same for each equation
abbrev pub deviations_of : Description → List (List ℤ)
deviations_of p = map (deviations_along p) p.equations

-- what an overflow that is reported says
abbrev pub IsOverflow : Description → SlopeFault → Type 0
IsOverflow p (Overflow i u) = IsFirstOverflow p i u
IsOverflow p Memory = Unit {0}
