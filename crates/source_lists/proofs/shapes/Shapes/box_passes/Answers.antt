use Rattle.std.proofs.Common.{◌≢◌, List, [], All, ℕ, sym, subst, ◌∙◌, arith}
use Rattle.std.proofs.lemmas.Bool.{false≢true}
use Rattle.source_lists.specs.Shapes.{cells_listed}
use Rattle.source_lists.proofs.PassingBoxes.{has_cells, first_passes, last_passes, corners_are_cells, segments_end_below, listed_cells}
use Rattle.source_lists.proofs.shapes.Shapes.box_passes.Goals as goal
use Rattle.source_lists.proofs.shapes.Shapes.box_passes.Goals.{then-passes, else-passes}

pub passes-requires : goal.passes-requires
passes-requires g c =
    let box = c.requires.listed in
    omega (arith, box.all_cells, (corners_are_cells box.axes c.args.b c.in-Some.b c.in-Some.is box.grid box.ordered).1)

pub passes-requires-then-passes : goal.passes-requires-then-passes
passes-requires-then-passes g c =
    let box = c.requires.listed in
    omega (arith, box.all_cells, (corners_are_cells box.axes c.args.b c.in-Some.b c.in-Some.is box.grid box.ordered).0)

pub all_pass-requires-clause-within : goal.all_pass-requires-clause-within
all_pass-requires-clause-within g c =
    let box = c.requires.listed in
    rw (c.segments_of.ensures, box.all_cells) (segments_end_below box.axes c.args.b c.in-Some.b c.in-Some.is box.grid box.ordered c.args.self.now box.segments)

pub returns-then-passes-2 : goal.returns-then-passes-2
returns-then-passes-2 g c =
    let box = c.requires.listed in
    let all = rw c.segments_of.ensures at c.all_pass.ensures in
    let some = subst (λ (cells : List ℕ). cells ≢ []) (listed_cells box.axes c.args.self.now c.args.b box.segments) (has_cells box.axes c.args.b c.in-Some.b c.in-Some.is box.grid box.ordered) in
    (λ e. (some, rw c.in-Some.is (all.0 e)), λ h. all.1 (rw c.in-Some.is at h.1))

pub returns-else-passes-2 : goal.returns-else-passes-2
returns-else-passes-2 g c =
    let P = g.T.CellTest.passes c.args.test.now in
    let b = c.in-Some.b in
    let box = c.requires.listed in
    let in_cells : All P (cells_listed c.args.self.now c.args.b) → All P _ = subst (All P) (sym (listed_cells box.axes c.args.self.now c.args.b box.segments)) in (
      λ e. absurd (false≢true (sym c.if-passes-2.false ∙ e)),
      λ h. elim c.if-passes.branch [
        | then-passes w ↦ w.value-is ∙ w.passes-then-passes.ensures.1 (first_passes box.axes c.args.b b c.in-Some.is box.grid box.ordered P (in_cells h.1))
        | else-passes w ↦ absurd (false≢true (sym w.if-passes.false ∙ c.passes.ensures.1 (last_passes box.axes c.args.b b c.in-Some.is box.grid box.ordered P (in_cells h.1))))
      ],
    )
