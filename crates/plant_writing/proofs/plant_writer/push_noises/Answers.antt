use Rattle.std.proofs.Common.{sym, ◌∙◌}
use Rattle.std.proofs.lemmas.List.{append-nil}
use Rattle.plant_writing.specs.CanonicalText.{noise_line}
use Rattle.plant_writing.proofs.lemmas.WrittenLines.{pieces_more, pieces_all}
use Rattle.plant_writing.proofs.plant_writer.push_noises.Goals as goal

pub loop-noise-init : goal.loop-noise-init
loop-noise-init c = sym (append-nil c.args.text.now.items)

pub loop-noise-preserved : goal.loop-noise-preserved
loop-noise-preserved c =
    rw (c.in_ok-push_noise.ensures, c.loop-noise.invariant)
    (pieces_more noise_line c.args.text.now.items c.args.noises.now c.loop-noise.noise-index c.noise-item.result c.loop-noise-test.true c.noise-item.is)

pub returns : goal.returns
returns c = c.loop-noise.invariant ∙ pieces_all noise_line c.args.text.now.items c.args.noises.now c.loop-noise.noise-index c.loop-noise-test.false
