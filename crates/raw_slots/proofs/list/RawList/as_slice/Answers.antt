use Rattle.std.proofs.Common.{◌∙◌, sym, ap, arith}
use Rattle.std.proofs.lemmas.List.{take_all}
use Rattle.raw_slots.specs.Slots.{values}
use Rattle.raw_slots.proofs.Written.{values-map}
use Rattle.raw_slots.proofs.list.RawList.as_slice.Goals as goal

pub returns : goal.returns
returns g c =
    sym (values-map c.slice.result.now)
    ∙ ap values (sym c.slice.ensures ∙ take_all c.len.result c.self.inside.block (omega (arith, c.len.ensures)))
    ∙ c.self.view_is
