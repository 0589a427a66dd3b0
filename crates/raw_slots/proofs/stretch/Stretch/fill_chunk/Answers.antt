use Rattle.std.proofs.Common.{Some, map, sym, ap, subst, ◌∙◌}
use Rattle.raw_slots.specs.inside.Chunks.{AreFilled}
use Rattle.raw_slots.proofs.stretch.Stretch.fill_chunk.Goals as goal

pub returns-in-Ok-clause-filled : goal.returns-in-Ok-clause-filled
returns-in-Ok-clause-filled g c =
    subst (AreFilled g.F.Fn c.args.making c.args.self) (sym (c.write_all.ensures.contents ∙ ap (map Some) c.deref.ensures.value)) c.in-Ok.ensures.made
