use Rattle.std.proofs.Common.{◌≡◌, ◌∙◌, Some, length, map, replicate, sym, ap, subst}
use Rattle.std.specs.Fork.{AllInChunks}
use Rattle.std.proofs.lemmas.List.{length-replicate}
use Rattle.raw_slots.specs.Slots.{values}
use Rattle.raw_slots.proofs.Written.{held_values}
use Rattle.raw_slots.proofs.list.RawList.by_chunks.Goals as goal

pub filled-requires-clause-fits : goal.filled-requires-clause-fits
filled-requires-clause-fits g c κs within =
    let long : length c.in_ok-block.block ≡ c.args.len = ap length c.in_ok-block.ensures.empty ∙ length-replicate c.args.len _ in
    rw long c.in_ok-block.ensures.fits

pub invariant_of-result-2 : goal.invariant_of-result-2
invariant_of-result-2 g c =
    let filled = c.in_ok-block-2.ensures in
    filled.1 ∙ ap (map Some) (sym (held_values filled.0 c.in_ok-block-2.block filled.1))

pub returns-clause-len : goal.returns-clause-len
returns-clause-len g c =
    let filled = c.in_ok-block-2.ensures in
    let long : length c.in_ok-block.block ≡ c.args.len = ap length c.in_ok-block.ensures.empty ∙ length-replicate c.args.len _ in
    ap length (held_values filled.0 c.in_ok-block-2.block filled.1) ∙ filled.2 ∙ length-replicate (length c.in_ok-block.block) c.args.start ∙ long

pub returns-clause-by_index : goal.returns-clause-by_index
returns-clause-by_index g c =
    let filled = c.in_ok-block-2.ensures in
    let long : length c.in_ok-block.block ≡ c.args.len = ap length c.in_ok-block.ensures.empty ∙ length-replicate c.args.len _ in
    subst (λ before. AllInChunks g.F.Fn c.args.f c.args.size before (values c.in_ok-block-2.block)) (ap (λ n. replicate n c.args.start) long)
    (subst (AllInChunks g.F.Fn c.args.f c.args.size (replicate (length c.in_ok-block.block) c.args.start)) (sym (held_values filled.0 c.in_ok-block-2.block filled.1)) filled.3)
