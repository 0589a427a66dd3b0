use Rattle.std.proofs.Common.{◌≡◌, ℕ, ◌+◌, ◌≤◌, ◌∙◌, List, Option, length, refl, sym, ap, subst, subst₂, arith}
use Rattle.grid_quantiser.specs.declared.boxes.CellBox.{CellBox}
use Rattle.pair_boxes.specs.inside.CellLines.{AreSumsOfCells}
use Rattle.pair_boxes.proofs.cell_lines.add_late.Goals as goal
use Rattle.pair_boxes.proofs.cell_lines.add_late.Goals.{in-Table, in-PerPair}

pub loop-state-init : goal.loop-state-init
loop-state-init c = record {
  long = refl;
  within = c.requires.from;
  sums = λ d n from before. before;
}

pub loop-state-preserved : goal.loop-state-preserved
loop-state-preserved c =
    let p = c.args.sampled.now.plant.now in
    let n : ℕ = c.loop-state.state + 1 in
    let so_far = c.loop-state.invariant in
    let within : n ≤ length p.equations = omega (arith, c.loop-state-test.true, c.requires.tables.one_each) in
    elim c.match-tables-state.branch [
      | in-Table w ↦ record {
        long = ap length w.boxes-is ∙ w.add_table.ensures.long ∙ so_far.long;
        within = within;
        sums = λ d m from before.
            subst₂ (λ (bases boxes : List (Option CellBox)). AreSumsOfCells p n d m bases boxes) (sym w.bases-is) (sym w.boxes-is) (w.add_table.ensures.added d m from (so_far.sums d m from before));
      }
      | in-PerPair w ↦ record {
        long = ap length w.boxes-is ∙ w.add_per_pair.ensures.long ∙ so_far.long;
        within = within;
        sums = λ d m from before.
            subst₂ (λ (bases boxes : List (Option CellBox)). AreSumsOfCells p n d m bases boxes) (sym w.bases-is) (sym w.boxes-is) (w.add_per_pair.ensures.added c.loop-state.bases d m from (so_far.sums d m from before));
      }
    ]

pub add_bases-requires : goal.add_bases-requires
add_bases-requires c =
    let p = c.args.sampled.now.plant.now in
    let cells = c.requires.cells in
    let all : c.loop-state.state ≡ length p.equations = omega (arith, c.requires.tables.one_each, c.loop-state.invariant.within, c.loop-state-test.false) in
    (cells.0, cells.1, subst (λ (n : ℕ). AreSumsOfCells p n cells.0 cells.1 c.loop-state.bases c.loop-state.boxes) all (c.loop-state.invariant.sums cells.0 cells.1 cells.2 cells.3))

pub returns-clause-each : goal.returns-clause-each
returns-clause-each c = λ d n from before.
    let p = c.args.sampled.now.plant.now in
    let all : c.loop-state.state ≡ length p.equations = omega (arith, c.requires.tables.one_each, c.loop-state.invariant.within, c.loop-state-test.false) in
    c.add_bases.ensures.each d n (subst (λ (m : ℕ). AreSumsOfCells p m d n c.loop-state.bases c.loop-state.boxes) all (c.loop-state.invariant.sums d n from before))
