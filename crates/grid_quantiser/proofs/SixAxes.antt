-- The six indices that a grid is made with.
use Rattle.std.proofs.Common.{◌≡◌, ℕ, ◌≤◌, ◌^◌, ap, sym, subst, ◌∙◌, List, ◌++◌, length, take, drop, replicate, refl}
use Rattle.std.proofs.lemmas.List.{take_at, drop-replicate}
use Rattle.grid_quantiser.specs.declared.axis.Axis.{Axis}
use Rattle.grid_quantiser.specs.Axes.{no_axis, cells_of, AreAxes}
use Rattle.grid_quantiser.specs.inside.Storage.{six_of, six_counts, IsStored}

-- axes that are written over the first of six empty indices are kept there
pub IsStored-from_axes : (axes : List Axis) (cells : ℕ) → AreAxes axes → cells ≡ cells_of axes → cells ≤ 2 ^ 20 →
    IsStored (axes ++ drop (length axes) (replicate 6 no_axis)) (six_counts axes) (length axes) cells
IsStored-from_axes axes cells grid is limit =
    let rest : List Axis = drop (length axes) (replicate 6 no_axis) in
    let front : take (length axes) (axes ++ rest) ≡ axes = take_at axes rest (length axes) refl in
    record {
      axes = subst AreAxes (sym front) grid;
      rest = ap (λ xs. axes ++ xs) (drop-replicate (length axes) 6 no_axis) ∙ ap six_of (sym front);
      counts_is = ap six_counts (sym front);
      states_is = ap length (sym front);
      cells_is = is ∙ ap cells_of (sym front);
      limit = limit;
    }
