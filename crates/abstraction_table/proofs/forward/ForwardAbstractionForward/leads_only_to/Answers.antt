use Rattle.std.proofs.Common.{◌≢◌, ℕ, List, [], All, sym, ap, subst, ◌∙◌, arith}
use Rattle.std.specs.Prelude.{◌↔◌, IsTrue}
use Rattle.source_lists.specs.Shapes.{cells_listed}
use Rattle.source_lists.proofs.PassingBoxes.{listed_box, successors_listed}
use Rattle.abstraction_table.proofs.forward.ForwardAbstractionForward.leads_only_to.Goals as goal

pub box_passes-requires : goal.box_passes-requires
box_passes-requires g c =
    let o = c.args.self.now in
    let a = o.boxed in
    record {
      listed = rw c.boxes.ensures (listed_box a.grid a.inputs a.marks.items a.boxes a.in_memory o.shapes o.listed c.args.pair c.requires.pair (g.T.CellTest.cells c.args.test.now) c.requires.cells);
      few = omega (arith, c.requires.cells, a.in_memory.graph.cells_bound);
    }

pub returns : goal.returns
returns g c =
    let P = g.T.CellTest.passes c.args.test.now in
    let o = c.args.self.now in
    let a = o.boxed in
    let same = successors_listed a.grid a.inputs a.marks.items a.boxes a.in_memory o.shapes o.listed c.args.pair c.requires.pair ∙ ap (cells_listed o.shapes) (sym c.boxes.ensures) in
    subst (λ (cells : List ℕ). IsTrue c.box_passes.result ↔ (cells ≢ []) × All P cells) (sym same) c.box_passes.ensures
