use Rattle.std.proofs.Common.{◌≡◌, ℕ, ◌+◌, ◌-◌, ◌*◌, min, List, Vec, Global, ap, subst, ◌∙◌, arith}
use Rattle.std.specs.Prelude.{IfOk}
use Rattle.std.specs.declared.alloc.AllocError.{AllocError}
use Rattle.std.specs.declared.result.Result.{Result}
use Rattle.std.specs.List.{AllZip, range_with_len}
use denote.Param.Members.{lent}
use Rattle.rayon.specs.Numbers.{nat_range}
use Rattle.grid_quantiser.specs.Axes.{cells_of}
use Rattle.plant_record.specs.Description.{axes_of}
use Rattle.pair_boxes.specs.Finders.{plant_of}
use Rattle.game_parts.specs.declared.part_search.PartFinding.{PartFinding}
use Rattle.game_parts.specs.inside.GameParts.{IsFindingOf}
use Rattle.source_lists.proofs.Mapped.{below_end}
use Rattle.game_parts.proofs.SummedFindings.{part_begins, hold_findings}
use Rattle.game_parts.proofs.part_search.find_all.Goals as goal

along : {F : Type 0} {x y : F} → x ≡ y → (P : F → Type 0) → P x → P y
along e P h = subst P e h

pub collect-requires-clause-ready : goal.collect-requires-clause-ready
collect-requires-clause-ready g c = λ κs outlives.
    let asked = c.requires in
    let ends = c.into_par_iter.ensures in
    let cells : c.cells-cells.result ≡ cells_of (axes_of (plant_of c.args.finder.now)) = rw (c.grid.ensures, c.plant.ensures) at c.cells-cells.ensures.count in
    rw (c.map.ensures.base, c.map.ensures.f, c.with_min_len.ensures.base, ends.0, ends.1) (λ k d lt.
    let below = below_end c.div_ceil.result k d lt in
    ((asked.ready, (asked.marks, (asked.judged, (cells, (omega (arith, asked.few, cells), part_begins c.cells-cells.result c.args.size _ asked.some (omega (arith, below, c.div_ceil.ensures))))))), λ y is. tt))

pub returns : goal.returns
returns g c =
    let ends = c.into_par_iter.ensures in
    let p = plant_of c.args.finder.now in
    let marks = c.args.marks.now in
    let Right = g.J.CellJudge.is_right c.args.judge.now in
    let size = c.args.size in
    let count = c.div_ceil.result in
    let cells : c.cells-cells.result ≡ cells_of (axes_of p) = rw (c.grid.ensures, c.plant.ensures) at c.cells-cells.ensures.count in
    let h = c.in_ok-collect.ensures in
    let chain = h.1 in
    let start : c.map.result.base.base.start ≡ 0 = ap (λ it. it.base.start) c.map.ensures.base ∙ ap (λ it. it.start) c.with_min_len.ensures.base ∙ ends.0 in
    let end : c.map.result.base.base.end ≡ count = ap (λ it. it.base.end) c.map.ensures.base ∙ ap (λ it. it.end) c.with_min_len.ensures.base ∙ ends.1 in
    let whole : count - 0 ≡ count = omega arith in
    let numbers = chain.1 ∙ (λ i. nat_range (start i) (end i)) ∙ ap (range_with_len 0) whole in
    let given =
    along c.map.ensures.f (λ f. AllZip (λ (k : ℕ) (r : Result PartFinding AllocError). IfOk r (λ (found : PartFinding). IsFindingOf (plant_of (lent f).now.2.now) (lent f).now.3.now (g.J.CellJudge.is_right (lent f).now.4.now) (k * (lent f).now.0.now) (min (lent f).now.5.now (k * (lent f).now.0.now + (lent f).now.0.now)) found.edges found.first)) chain.0 h.0) chain.2
    in
    let found = subst (λ (n : ℕ). AllZip (λ k (r : Result PartFinding AllocError). IfOk r (λ (f : PartFinding). IsFindingOf p marks Right (k * size) (min n (k * size + size)) f.edges f.first)) chain.0 h.0) cells given in
    let by_part = subst (λ (ns : List ℕ). AllZip (λ k (r : Result PartFinding AllocError). IfOk r (λ (f : PartFinding). IsFindingOf p marks Right (k * size) (min (cells_of (axes_of p)) (k * size + size)) f.edges f.first)) ns h.0) numbers found in
    hold_findings (λ (v : Vec PartFinding Global). v.items) _ p marks Right size count h.0 c.in_ok-collect.field-0 (rw cells at c.div_ceil.ensures) by_part h.2
