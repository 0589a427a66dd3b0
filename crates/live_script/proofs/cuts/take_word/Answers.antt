use Rattle.std.proofs.Common.{sym}
use Rattle.std.proofs.lemmas.List.{take-append-drop}
use Rattle.live_script.proofs.WordsCut.{cut_here, no_word}
use Rattle.live_script.proofs.cuts.take_word.Goals as goal

pub returns-in_err-end : goal.returns-in_err-end
returns-in_err-end c = rw c.from_residual.ensures (λ y h. no_word c.args.bytes.now c.in_err-end.ensures.position y.0 y.1 h.1 h.2)

pub returns : goal.returns
returns c =
    let cut = cut_here c.args.bytes.now c.in_ok-end.end c.in_ok-end.ensures.position in
    rw (c.split_at.ensures.front, c.split_at.ensures.back) (cut.0, cut.1, sym (take-append-drop c.in_ok-end.end c.args.bytes.now))
