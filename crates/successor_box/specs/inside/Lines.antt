-- What is found of cells in lanes, under an input vector.
use Rattle.std.specs.Prelude.{◌≡◌, ℕ, ◌+◌, ◌<◌, ◌^◌, ℤ, pos, ◌+ℤ◌, ◌*ℤ◌, List, [], length, slice_index, slice_index_or, Option}
use Rattle.base.specs.Narrow.{IsNarrow}
use Rattle.expr_lanes.specs.declared.lane_eval.ValuesAlong.{ValuesAlong}
use Rattle.fixed_expr.specs.declared.lanes.TheConstants.{LANES}
use Rattle.fixed_expr.specs.Expression.{Expression}
use Rattle.expr_lanes.specs.LaneEval.{lane_of}
use Rattle.fixed_expr.specs.Value.{value_of}
use Rattle.interval_eval.specs.declared.columns.IntervalColumn.{IntervalColumn}
use Rattle.interval_eval.specs.declared.interval.Interval.{Interval}
use Rattle.interval_eval.specs.LaneSpans.{interval_in}
use Rattle.interval_eval.specs.Span.{span_of}
use Rattle.grid_quantiser.specs.declared.extents.Extent.{Extent}
use Rattle.grid_quantiser.specs.Axes.{cells_of}
use Rattle.plant_record.specs.Description.{Description, axes_of, vectors_of}
use Rattle.plant_record.specs.Steps.{equation_at}
use Rattle.successor_box.specs.declared.additive.AdditiveLine.{AdditiveLine}
use Rattle.successor_box.specs.SuccessorBoxes.{deviation_at, central_values, cell_area_of, growth_of, intersection_of, next_interval_of}
use Rattle.successor_box.specs.AdditiveInputs.{increased}
use Rattle.successor_box.specs.CellLines.{HoldExtentsUnder}
use Rattle.successor_box.specs.PairExtents.{index_in}
use Rattle.successor_box.specs.inside.Area.{variables_of, no_range}

-- a cell and an input of a plant
abbrev pub IsPair : Description → ℕ → ℕ → Type 0
IsPair p c u = (c < cells_of (axes_of p)) × (u < vectors_of p.inputs)

-- the value of the equation of a state at a cell's centre
abbrev pub value_at : Description → ℕ → ℕ → ℕ → ℤ
value_at p i c u = value_of (equation_at p i) (central_values p c u)

-- a number is that value for some cell
abbrev pub IsSomeValue : Description → ℕ → ℕ → ℤ → Type 0
IsSomeValue p i u x = (c : ℕ) × IsPair p c u × (x ≡ value_at p i c u)

-- how far the equation moves within a cell
abbrev pub deviation_along : Description → ℕ → ℕ → ℤ
deviation_along p i u = deviation_at p u (equation_at p i)

-- where it leads
abbrev pub next_interval_at : Description → ℕ → ℕ → ℕ → Interval
next_interval_at p i c u = next_interval_of p.version p c u (equation_at p i)

-- the middle so many indices after one, from that of the first index
abbrev pub middle_after : ℤ → ℤ → ℕ → ℕ → ℤ
middle_after first width index places = first +ℤ (width *ℤ pos (index + places))

-- The index lies in 32 bits, that middle and how far it is from the first one in 64.
pub record HasMiddleAfter (first width : ℤ) (index places : ℕ) : Type 0 where
  pub within : index + places < 2 ^ 32
  pub way : IsNarrow (width *ℤ pos (index + places))
  pub middle : IsNarrow (middle_after first width index places)

-- what is in each of so many lanes, the first ones
abbrev pub HoldsInFirst : {A : Type 0} → ℕ → A → (ℕ → A) → List A → Type 0
HoldsInFirst lanes none of found = (lane : ℕ) → lane < lanes → slice_index_or found lane none ≡ of lane

-- what is in each lane
abbrev pub HoldsInLanes : {A : Type 0} → A → (ℕ → A) → List A → Type 0
HoldsInLanes none of found = HoldsInFirst LANES none of found

-- what two intervals in a lane have in common
abbrev pub intersection_in : List Interval → List Interval → ℕ → Interval
intersection_in first second lane = intersection_of (slice_index_or first lane no_range) (slice_index_or second lane no_range)

-- nothing in each lane
abbrev pub no_column : IntervalColumn
no_column = record { lo = []; hi = [] }

-- A cell and an input vector have this index in a variable.
pub record HasIndexIn (p : Description) (indices : List ℕ) (k c u : ℕ) : Type 0 where
  pub cell : c < cells_of (axes_of p)
  pub input : u < vectors_of p.inputs
  pub index : k < length p.states + length p.inputs → index_in p c u k ≡ slice_index indices k

-- In each lane the variables have their values at the centre of a cell under an input.
pub record AreValuesUnder (p : Description) (cell : ℕ → ℕ) (u : ℕ) (at : ValuesAlong) : Type 0 where
  pub long : length at.values.now ≡ variables_of p
  pub along : at.along < length at.values.now
  pub cells : (lane : ℕ) → lane < LANES → cell lane < cells_of (axes_of p)
  pub each : (lane : ℕ) → lane < LANES → lane_of at lane ≡ central_values p (cell lane) u

-- a line has the values at the centres of some cells
abbrev pub HaveValuesUnder : Description → ℕ → ValuesAlong → Type 0
HaveValuesUnder p u at = (cell : ℕ → ℕ) × AreValuesUnder p cell u at

-- what each of so many lanes has of its cell
abbrev pub HoldsOfCells : {A : Type 0} → ℕ → A → Description → ValuesAlong → ℕ → (ℕ → A) → List A → Type 0
HoldsOfCells lanes none p at u of found = (cell : ℕ → ℕ) → AreValuesUnder p cell u at → HoldsInFirst lanes none (λ lane. of (cell lane)) found

-- the growth bounds of the equation of a state
abbrev pub HoldGrowths : ℕ → Description → ValuesAlong → ℕ → ℕ → List Interval → Type 0
HoldGrowths lanes p at u i intervals = HoldsOfCells lanes no_range p at u (λ c. growth_of p c u (equation_at p i)) intervals

-- its spans over the cells
abbrev pub HoldSpans : ℕ → Description → ValuesAlong → ℕ → ℕ → List Interval → Type 0
HoldSpans lanes p at u i intervals = HoldsOfCells lanes no_range p at u (λ c. span_of (equation_at p i) (cell_area_of p c u)) intervals

-- where it leads
abbrev pub HoldNextIntervals : ℕ → Description → ValuesAlong → ℕ → ℕ → List Interval → Type 0
HoldNextIntervals lanes p at u i intervals = HoldsOfCells lanes no_range p at u (λ c. next_interval_at p i c u) intervals

-- the ranges of a variable over the cells
abbrev pub HoldCellRanges : Description → ValuesAlong → ℕ → IntervalColumn → Type 0
HoldCellRanges p at k column = (cell : ℕ → ℕ) (u : ℕ) → AreValuesUnder p cell u at → (lane : ℕ) → lane < LANES → interval_in column lane ≡ slice_index_or (cell_area_of p (cell lane) u) k no_range

-- the ranges of all variables
abbrev pub AreCellAreas : Description → ValuesAlong → List IntervalColumn → Type 0
AreCellAreas p at columns = (k : ℕ) → k < variables_of p → HoldCellRanges p at k (slice_index_or columns k no_column)

-- so much the value of the equation of a state goes on from the first input vector to another, in the first cell
abbrev pub IsIncrementTo : Description → ℕ → ℕ → ℤ → Type 0
IsIncrementTo p i u n = value_at p i 0 u ≡ value_at p i 0 0 +ℤ n

-- in each lane stands what a line has there, increased for an input vector
abbrev pub AreIncreased : AdditiveLine → ℕ → List ℤ → Type 0
AreIncreased line u found = (lane : ℕ) → lane < LANES → slice_index_or found lane (pos 0) ≡ increased line u lane

-- There is an increment for an input vector, and with it a line has the value of an expression in each lane.
pub record GivesValues (e : Expression) (at : ValuesAlong) (u : ℕ) (line : AdditiveLine) : Type 0 where
  pub within : u < length line.increments.now
  pub each : (lane : ℕ) → lane < LANES → increased line u lane ≡ value_of e (lane_of at lane)

-- the values of a state's equation at the centres of cells
abbrev pub HoldValuesUnder : Description → (ℕ → ℕ) → ℕ → ℕ → List ℤ → Type 0
HoldValuesUnder p cell u i values = (lane : ℕ) → lane < LANES → slice_index_or values lane (pos 0) ≡ value_at p i (cell lane) u

-- the extents around these values
abbrev pub HoldExtentsAround : Description → List ℤ → ℕ → ℕ → List (Option Extent) → Type 0
HoldExtentsAround p values u i extents = (cell : ℕ → ℕ) → HoldValuesUnder p cell u i values → HoldExtentsUnder p cell u i extents

-- the extents of the cells
abbrev pub HoldExtentsOf : Description → ValuesAlong → ℕ → ℕ → List (Option Extent) → Type 0
HoldExtentsOf p at u i extents = (cell : ℕ → ℕ) → AreValuesUnder p cell u at → HoldExtentsUnder p cell u i extents
