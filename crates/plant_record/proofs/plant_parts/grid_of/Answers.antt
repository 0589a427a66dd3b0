use Rattle.std.proofs.Common.{map, take, ap, sym, subst, ◌∙◌, ◌++◌, ◌∷◌, [], List, arith}
use Rattle.std.proofs.lemmas.List.{take_more_set, map_more, length-set}
use Rattle.grid_quantiser.specs.declared.axis.Axis.{Axis}
use Rattle.grid_quantiser.specs.Axes.{AreAxes}
use Rattle.plant_record.specs.Description.{axis_of}
use Rattle.plant_record.proofs.lemmas.Axes.{axes_are, axes_made}
use Rattle.plant_record.proofs.plant_parts.grid_of.Goals as goal

pub loop-i-preserved : goal.loop-i-preserved
loop-i-preserved c =
    let s = c.index-states-i.result in (
      length-set c.loop-i.axes c.loop-i.i c.axis_of.result ∙ c.loop-i.invariant.0,
      take_more_set c.loop-i.axes c.loop-i.i c.axis_of.result (omega (arith, c.loop-i.invariant.0))
          ∙ ap (λ (xs : List Axis). xs ++ c.axis_of.result ∷ []) c.loop-i.invariant.1
          ∙ ap (λ (x : Axis). map axis_of (take c.loop-i.i c.args.states.now) ++ x ∷ []) (c.axis_of.ensures ∙ ap axis_of c.index-states-i.is)
          ∙ sym (map_more axis_of c.args.states.now c.loop-i.i s c.loop-i-test.true),
    )

pub new-requires : goal.new-requires
new-requires c = subst AreAxes (sym (axes_made c.args.states.now c.loop-i.axes c.loop-i.i (omega arith) c.loop-i.invariant.1)) (axes_are c.args.states.now c.requires.some c.requires.bound c.requires.each)
