use Rattle.std.proofs.Common.{◌≡◌, ◌<◌, length, get_or, ap, ◌∙◌, arith}
use Rattle.live_table.specs.Publishes.{Published, Listener, longer_list}
use Rattle.live_run.proofs.TablesMore.{in_step_again, told_more, others_stay}
use Rattle.live_run.proofs.readers.tell_all.Goals as goal

pub loop-reader-preserved : goal.loop-reader-preserved
loop-reader-preserved c =
    let p = c.args.publisher.now in
    let readers = c.loop-reader.readers in
    let i = c.loop-reader.reader-index in
    let inv = c.loop-reader.invariant in
    let lt : i < length readers = omega arith in
    let x = get_or readers i c.reader-item.result in
    let told = c.in_ok-tell.ensures.told ∙ inv.same in
    let step = in_step_again p x c.learn.new.self (inv.opening i c.reader-item.result (omega arith) lt) (inv.after i c.reader-item.result (omega arith) lt) (c.learn.ensures ∙ ap (λ (q : Published). record x { told = longer_list x.told q.list }) told) in
    record {
      same = c.in_ok-tell.ensures.same ∙ inv.same;
      told = told_more p readers i c.learn.new.self lt inv.told step;
      opening = others_stay (λ (r : Listener). r.opening ≡ p.opening) readers i c.learn.new.self inv.opening;
      after = others_stay (λ (r : Listener). length r.told < length p.list) readers i c.learn.new.self inv.after;
    }
