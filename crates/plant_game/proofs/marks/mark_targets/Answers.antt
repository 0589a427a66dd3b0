use Rattle.std.proofs.Common.{◌≡◌, arith, refl, length}
use Rattle.grid_quantiser.specs.CellBoxes.{LiesInside}
use Rattle.game_core.specs.declared.game.Mark.TheVariants.{Goal}
use Rattle.plant_record.specs.Description.{axes_of}
use Rattle.turn_rows.specs.Targets.{target_at}
use Rattle.plant_game.proofs.PlantMarks.{one_more, any_marked}
use Rattle.plant_game.proofs.marks.mark_targets.Goals as goal

pub loop-k-preserved : goal.loop-k-preserved
loop-k-preserved c =
    let p = c.args.p.now in
    let k = c.loop-k.k in
    one_more Goal (λ i b. LiesInside (axes_of p) i b.low b.high) p.targets k (target_at p k) c.args.marks.now c.loop-k.marks c.mark_target.new.marks refl c.loop-k.invariant c.mark_target.ensures

pub returns : goal.returns
returns c =
    let p = c.args.p.now in
    let all : c.loop-k.k ≡ length p.targets = omega (arith, c.targets-k-end.ensures) in
    any_marked Goal (λ i b. LiesInside (axes_of p) i b.low b.high) p.targets c.loop-k.k c.args.marks.now c.loop-k.marks all c.loop-k.invariant
