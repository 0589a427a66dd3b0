use Rattle.std.proofs.Common.{◌∙◌, sym, ap₂, w64, rules, arith}
use Rattle.std.specs.Prelude.{ℤ, FitsSigned}
use Rattle.std.specs.Int.{w128}
use Rattle.std.proofs.lemmas.Int.{to_z-of_z}
use Rattle.interval_eval.specs.declared.interval.Interval.{Interval}
use Rattle.plant_record.proofs.lemmas.SoundPlants.{sound as sound_plant}
use Rattle.successor_box.proofs.CellRanges.{range_in}
use Rattle.successor_box.proofs.sampled.Sampled.cell_column.Goals as goal

pub column-centres-requires : goal.column-centres-requires
column-centres-requires c = omega (arith, c.requires.variable, c.requires.values.1.1.long)

pub overflow_cast-offset : goal.overflow_cast-offset
overflow_cast-offset c =
    let p = c.args.self.now.plant.now in
    let o : Interval = c.offset-offset.result in
    let some = c.requires.values in
    let wide : FitsSigned w128 o.lo = search rules in
    rw (to_z-of_z w128 o.lo wide) (range_in p some.1.0 some.0 0 c.args.k c.args.at.now c.column-centres.result o c.args.self.now.within.plant (sound_plant p c.args.self.now.within.plant) c.requires.variable (omega arith) some.1.1 c.column-centres.ensures (c.offset-offset.ensures some.0)).low_offset

pub moved-requires : goal.moved-requires
moved-requires c = λ lane lt.
    let p = c.args.self.now.plant.now in
    let o : Interval = c.offset-offset.result in
    let some = c.requires.values in
    let range = range_in p some.1.0 some.0 lane c.args.k c.args.at.now c.column-centres.result o c.args.self.now.within.plant (sound_plant p c.args.self.now.within.plant) c.requires.variable lt some.1.1 c.column-centres.ensures (c.offset-offset.ensures some.0) in
    let wide : FitsSigned w128 o.lo = search rules in
    rw (to_z-of_z w128 o.lo wide, to_z-of_z w64 o.lo range.low_offset) range.low

pub overflow_cast-offset-2 : goal.overflow_cast-offset-2
overflow_cast-offset-2 c =
    let p = c.args.self.now.plant.now in
    let o : Interval = c.offset-offset.result in
    let some = c.requires.values in
    let wide : FitsSigned w128 o.hi = search rules in
    rw (to_z-of_z w128 o.hi wide) (range_in p some.1.0 some.0 0 c.args.k c.args.at.now c.column-centres.result o c.args.self.now.within.plant (sound_plant p c.args.self.now.within.plant) c.requires.variable (omega arith) some.1.1 c.column-centres.ensures (c.offset-offset.ensures some.0)).high_offset

pub moved-requires-2 : goal.moved-requires-2
moved-requires-2 c = λ lane lt.
    let p = c.args.self.now.plant.now in
    let o : Interval = c.offset-offset.result in
    let some = c.requires.values in
    let range = range_in p some.1.0 some.0 lane c.args.k c.args.at.now c.column-centres.result o c.args.self.now.within.plant (sound_plant p c.args.self.now.within.plant) c.requires.variable lt some.1.1 c.column-centres.ensures (c.offset-offset.ensures some.0) in
    let wide : FitsSigned w128 o.hi = search rules in
    rw (to_z-of_z w128 o.hi wide, to_z-of_z w64 o.hi range.high_offset) range.high

pub returns : goal.returns
returns c = λ cell u are lane lt.
    let p = c.args.self.now.plant.now in
    let o : Interval = c.offset-offset.result in
    let range = range_in p cell u lane c.args.k c.args.at.now c.column-centres.result o c.args.self.now.within.plant (sound_plant p c.args.self.now.within.plant) c.requires.variable lt are c.column-centres.ensures (c.offset-offset.ensures u) in
    let low_wide : FitsSigned w128 o.lo = search rules in
    let high_wide : FitsSigned w128 o.hi = search rules in
    let low = rw (to_z-of_z w128 o.lo low_wide, to_z-of_z w64 o.lo range.low_offset) at c.moved.ensures lane lt in
    let high = rw (to_z-of_z w128 o.hi high_wide, to_z-of_z w64 o.hi range.high_offset) at c.moved-2.ensures lane lt in
    ap₂ (λ (l h : ℤ). record { lo = l; hi = h }) low high ∙ sym range.is
