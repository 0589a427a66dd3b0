use Rattle.std.proofs.Common.{◌≡◌, ℕ, ◌<◌, ◌≤◌, arith, ap, sym, subst, ◌∙◌, List, length, get_or, ℤ, pos, rules}
use Rattle.std.specs.Prelude.{IfSome}
use Rattle.mixed_radix.proofs.Numbers.{number_same}
use Rattle.grid_quantiser.specs.declared.axis.Axis.{Axis}
use Rattle.grid_quantiser.specs.Axes.{no_axis, counts_of}
use Rattle.grid_quantiser.specs.Cells.{IsInDomain, index_of, indices_of, cell_of}
use Rattle.grid_quantiser.specs.Extents.{IsOnAxis}
use Rattle.grid_quantiser.proofs.Counts.{length-counts_of, length-indices_of, each_index, domain_each, domain_from_each}
use Rattle.grid_quantiser.proofs.grid.Grid.cell_at.Goals as goal

-- the domain and the cells look at as many numbers as there are axes
module _ (axes : List Axis) (xs ys : List ℤ) (long_xs : length axes ≤ length xs) (long_ys : length axes ≤ length ys) (same : (k : ℕ) → k < length axes → get_or xs k (pos 0) ≡ get_or ys k (pos 0)) where
  domain_same : IsInDomain axes xs → IsInDomain axes ys
  domain_same inside = domain_from_each axes ys long_ys (λ k lt. subst (IsOnAxis (get_or axes k no_axis)) (same k lt) (domain_each axes xs k inside lt))

  cell_same : cell_of axes xs ≡ cell_of axes ys
  cell_same =
      number_same (counts_of axes) (indices_of axes xs) (indices_of axes ys) (omega (arith, length-indices_of axes xs long_xs, length-counts_of axes)) (omega (arith, length-indices_of axes ys long_ys, length-counts_of axes))
      (λ k lt.
      let within : k < length axes = omega (arith, lt, length-counts_of axes) in
      each_index axes xs k long_xs within ∙ ap (index_of (get_or axes k no_axis)) (same k within) ∙ sym (each_index axes ys k long_ys within))

module _ (c : goal.After-cell_of) where
  same : (k : ℕ) → k < length c.args.self.now → get_or c.wide_point.result k (pos 0) ≡ get_or c.args.state.now k (pos 0)
  same = rw c.axes.ensures.same at c.wide_point.ensures

  long : length c.args.self.now ≤ length c.wide_point.result
  long = let all : length c.axes.result.now ≤ length c.wide_point.result = search rules in omega (arith, ap length c.axes.ensures.same)

  enough : length c.args.self.now ≤ length c.args.state.now
  enough = omega (arith, c.requires)

pub returns-clause-inside : goal.returns-clause-inside
returns-clause-inside c =
    let axes = c.args.self.now in
    let xs = c.args.state.now in
    let ys = c.wide_point.result in
    (λ some. domain_same axes ys xs (long c) (enough c) (same c) (c.cell_of.ensures.inside.0 some), λ on. c.cell_of.ensures.inside.1 (domain_same axes xs ys (enough c) (long c) (λ k lt. sym (same c k lt)) on))

pub returns-clause-cell : goal.returns-clause-cell
returns-clause-cell c =
    subst (λ (n : ℕ). IfSome c.cell_of.result (λ (m : ℕ). m ≡ n)) (cell_same c.args.self.now c.wide_point.result c.args.state.now (long c) (enough c) (same c)) c.cell_of.ensures.cell
