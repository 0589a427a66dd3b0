-- The cells of a box are the successors, and there are some where the box lies in the domain.
use Rattle.std.proofs.Common.{◌≡◌, ℕ, ◌≤◌, List, [], ◌∷◌, Option, Some, None, All, length, map, refl, subst, arith}
use Rattle.std.specs.Prelude.{ℤ, ◌≤ℤ◌, ◌↔◌}
use Rattle.std.specs.List.{Contains}
use Rattle.std.proofs.lemmas.Int.{ints}
use Rattle.std.proofs.lemmas.List.{length-map}
use Rattle.std.proofs.lemmas.List.Elements.{All-head, All-tail, All-weaker, All-contains, All-from_recursion}
use Rattle.fixed_expr.specs.Expression.{Expression}
use Rattle.fixed_expr.specs.Value.{IsWellFormed, value_of}
use Rattle.interval_eval.specs.declared.interval.Interval.{Interval}
use Rattle.interval_eval.specs.Span.{IsInterval, IsIn}
use Rattle.grid_quantiser.specs.declared.axis.Axis.{Axis}
use Rattle.grid_quantiser.specs.declared.boxes.CellBox.{CellBox}
use Rattle.grid_quantiser.specs.Cells.{cell_of}
use Rattle.grid_quantiser.specs.CellBoxes.{IsAtMost}
use Rattle.plant_record.specs.Description.{Description, axis_of, axes_of, names_of}
use Rattle.plant_record.specs.Soundness.{IsSound}
use Rattle.successor_box.specs.SuccessorBoxes.{IsEnabledAt, AreSuccessors, IsBoxOf, cells_in, central_values, next_interval_of, low_corner, high_corner}
use Rattle.successor_box.proofs.NextIntervals.{centre_reached}
use Rattle.successor_box.proofs.BoxDomains.{by_box_in_domain, cell_touches}

pub box_successors : (p : Description) (c u : ℕ) (b : Option CellBox) → IsBoxOf p c u b → AreSuccessors p c u (cells_in (axes_of p) b)
box_successors p c u None h = record { enabled = λ inside. absurd (let e = h.inside.1 inside in cc); disabled = λ outside. refl }
box_successors p c u (Some b) h = record { enabled = λ inside. h.corners.cells; disabled = λ outside. absurd (outside (h.inside.0 refl)) }

ordered : (next_interval : Expression → Interval) (axes : List Axis) (es : List Expression) → length axes ≤ length es → All (λ e. IsInterval (next_interval e)) es
    → IsAtMost axes (map (λ e. (next_interval e).lo) es) (map (λ e. (next_interval e).hi) es) × IsAtMost axes (map (λ e. (next_interval e).lo) es) (map (λ e. (next_interval e).lo) es)
ordered next_interval [] es long each = (tt, tt)
ordered next_interval (a ∷ axes) [] long each = absurd (omega (arith, long))
ordered next_interval (a ∷ axes) (e ∷ es) long each =
    let rest = ordered next_interval axes es (omega (arith, long)) (All-tail (λ e. IsInterval (next_interval e)) e es each) in
    ((All-head (λ e. IsInterval (next_interval e)) e es each, rest.0), (same (next_interval e).lo, rest.1))
  where
    same : (z : ℤ) → z ≤ℤ z
    same z = omega (arith, ints)

-- where an equation leads is never empty
pub next_interval_ordered : (p : Description) (c u : ℕ) → IsSound p → (e : Expression) → IsWellFormed e (length (names_of p)) → IsInterval (next_interval_of p.version p c u e)
next_interval_ordered p c u sound e formed = by (next_interval_of p.version p c u e) (value_of e (central_values p c u)) (centre_reached p c u sound e formed p.version)
  where
    by : (i : Interval) (x : ℤ) → IsIn i x → IsInterval i
    by i x h = omega (arith, ints, h.0, h.1)

-- the low corner is at most the high one
pub corners_ordered : (p : Description) (c u : ℕ) → IsSound p → IsAtMost (axes_of p) (low_corner p c u) (high_corner p c u) × IsAtMost (axes_of p) (low_corner p c u) (low_corner p c u)
corners_ordered p c u sound =
    ordered (next_interval_of p.version p c u) (axes_of p) p.equations (omega (arith, sound.one_each, length-map p.states axis_of))
    (All-weaker (λ e. IsWellFormed e (length (names_of p))) (λ e. IsInterval (next_interval_of p.version p c u e)) (next_interval_ordered p c u sound) p.equations sound.formed)

not_empty : (cells : List ℕ) (c : ℕ) → Contains cells c → cells ≡ [] → ⊥
not_empty cells c has is = All-contains (λ _. ⊥) [] c (All-from_recursion (λ _. ⊥) [] tt) (subst (λ (xs : List ℕ). Contains xs c) is has)

pub enabled_exactly : (p : Description) (c u : ℕ) (cells : List ℕ) → IsSound p → AreSuccessors p c u cells → (cells ≡ [] → ⊥) ↔ IsEnabledAt p c u
enabled_exactly p c u cells sound successors = (
  (λ some. by_box_in_domain (axes_of p) (low_corner p c u) (high_corner p c u) (λ inside. inside) (λ out. absurd (some (successors.disabled out)))),
  (λ enabled. let order = corners_ordered p c u sound in
      not_empty cells (cell_of (axes_of p) (low_corner p c u)) (((successors.enabled enabled).exactly (cell_of (axes_of p) (low_corner p c u))).1 (cell_touches (axes_of p) (low_corner p c u) (high_corner p c u) (low_corner p c u) enabled.0 (order.1, order.0)))),
)
