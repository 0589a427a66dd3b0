use Rattle.std.proofs.Common.{◌≡◌, ◌≤◌, subst, ◌∙◌, arith}
use Rattle.std.specs.Prelude.{IfOk, IfErr}
use Rattle.plant_record.specs.Description.{Description, vectors_of}
use Rattle.plant_game.specs.Marks.{AreMarksOf}
use Rattle.plant_game.specs.Faults.{IsFaultOf}
use Rattle.game_parts.specs.GameParts.{IsFirstInGame}
use Rattle.pair_boxes.specs.Finders.{plant_of}
use Rattle.game_parts.proofs.SummedFindings.{sum_fits, first_result, fault_result}
use Rattle.game_parts.proofs.part_search.find_first_wrong.Goals as goal

pub sum_up-requires : goal.sum_up-requires
sum_up-requires g c =
    let finder = c.in_ok-finder.finder in
    record {
      fits = rw c.deref-2.ensures.value
          (sum_fits (plant_of finder) c.deref.result.now (g.J.CellJudge.is_right c.args.judge.now) c.cells_for_a_part-size.result c.cells_for_a_part-size.ensures.some c.in_ok-findings.findings.items c.in_ok-findings.ensures finder.sampled.within);
    }

pub returns-clause-first : goal.returns-clause-first
returns-clause-first g c =
    let finder = c.in_ok-finder.finder in
    let q = plant_of finder in
    let Right = g.J.CellJudge.is_right c.args.judge.now in
    let same : q ≡ c.args.p.now = c.in_ok-finder.ensures.plant ∙ c.new.ensures.plant in
    let marks_of : AreMarksOf q c.deref.result.now = rw (same, c.deref.ensures.value) c.in_ok-marks.ensures in
    let some : 1 ≤ vectors_of q.inputs = rw same (omega (arith, c.vectors.ensures.some, c.vectors.ensures.count)) in
    let summed = rw c.deref-2.ensures.value at c.sum_up.ensures in
    subst (λ (p : Description). IfOk c.sum_up.result (IsFirstInGame p Right)) same
    (first_result q c.deref.result.now Right c.cells_for_a_part-size.result c.cells_for_a_part-size.ensures.some c.in_ok-findings.findings.items c.in_ok-findings.ensures finder.sampled.within marks_of some c.sum_up.result summed.few summed.first)

pub returns-clause-fault : goal.returns-clause-fault
returns-clause-fault g c =
    let finder = c.in_ok-finder.finder in
    let q = plant_of finder in
    let same : q ≡ c.args.p.now = c.in_ok-finder.ensures.plant ∙ c.new.ensures.plant in
    let summed = rw c.deref-2.ensures.value at c.sum_up.ensures in
    subst (λ (p : Description). IfErr c.sum_up.result (IsFaultOf p)) same
    (fault_result q c.deref.result.now (g.J.CellJudge.is_right c.args.judge.now) c.cells_for_a_part-size.result c.cells_for_a_part-size.ensures.some c.in_ok-findings.findings.items c.in_ok-findings.ensures finder.sampled.within c.sum_up.result summed.fault)
