use Rattle.std.proofs.Common.{◌≡◌, ℕ, ◌*◌, ◌∙◌, length, ap, ap₂, arith}
use Rattle.grid_quantiser.specs.Axes.{cells_of}
use Rattle.plant_record.specs.Description.{axes_of, vectors_of}
use Rattle.plant_record.proofs.lemmas.SoundPlants.{sound as sound_plant}
use Rattle.pair_boxes.proofs.ListedTerms.{own_some, listed_few}
use Rattle.pair_boxes.proofs.terms.build_terms.Goals as goal

pub nonzero_div-pairs-2 : goal.nonzero_div-pairs-2
nonzero_div-pairs-2 c =
    let p = c.args.of.now.sampled.plant.now in
    omega (arith, c.own_indices_along-own.ensures, own_some p (sound_plant p c.args.of.now.sampled.within.plant) c.args.of.now.state c.args.of.now.equation)

pub build_listed-requires-clause-few : goal.build_listed-requires-clause-few
build_listed-requires-clause-few c =
    let p = c.args.of.now.sampled.plant.now in
    let pairs : c.cells.result * c.vectors.result ≡ cells_of (axes_of p) * vectors_of p.inputs = ap₂ (λ (m n : ℕ). m * n) (c.cells.ensures.count ∙ ap cells_of c.grid.ensures) c.vectors.ensures.count in
    listed_few c.own_indices_along-own.result (length c.args.table.extents) (c.cells.result * c.vectors.result) (omega (arith, pairs, c.args.of.now.sampled.within.pairs)) (omega (arith, c.if-as_slice-pairs.true, ap length c.as_slice.ensures))
