use Rattle.std.proofs.Common.{ℕ, ◌<◌, ◌∙◌, length, sym, arith}
use Rattle.std.proofs.lemmas.List.{length-map, length-set, get_or-map}
use Rattle.interval_eval.specs.declared.interval.Interval.{Interval}
use Rattle.interval_eval.specs.declared.columns.IntervalColumn.{IntervalColumn}
use Rattle.interval_eval.specs.LaneSpans.{interval_in, area_in}
use Rattle.plant_record.proofs.lemmas.ListElements.{fill_more}
use Rattle.successor_box.specs.inside.Area.{no_range}
use Rattle.successor_box.proofs.cell_spans.span_in_lane.Goals as goal

pub loop-k-preserved : goal.loop-k-preserved
loop-k-preserved c =
    let columns = c.args.columns.now in
    let j : ℕ = c.args.j in
    let k : ℕ = c.loop-k.k in
    let x : Interval = c.interval_at.result in
    let at : IntervalColumn → Interval = λ (column : IntervalColumn). interval_in column j in
    let lt : k < length columns = c.loop-k-test.true in
    record {
      long = length-set c.loop-k.area k x ∙ c.loop-k.invariant.long;
      filled = fill_more c.loop-k.area (area_in columns j) k x no_range (omega arith) (omega (arith, lt, length-map columns at)) c.loop-k.invariant.filled (c.interval_at.ensures ∙ sym (get_or-map at columns k _ no_range lt));
    }
