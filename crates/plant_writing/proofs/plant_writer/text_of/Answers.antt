use Rattle.std.proofs.Common.{length, refl, sym, subst}
use Rattle.plant_record.specs.Description.{Description, names_of}
use Rattle.plant_record.specs.Parts.{description_of}
use Rattle.plant_record.specs.Limits.{IsWithinLimits}
use Rattle.plant_record.proofs.lemmas.NextPoints.{formed_below}
use Rattle.plant_record.proofs.lemmas.SoundPlants.{all_formed}
use Rattle.plant_writing.proofs.plant_writer.text_of.Goals as goal

pub push_equations-requires-clause-formed : goal.push_equations-requires-clause-formed
push_equations-requires-clause-formed c =
    let p : Description = description_of c.parts-parts.result.now in
    let limits : IsWithinLimits p = subst IsWithinLimits (sym c.parts-parts.ensures.parts) c.parts-parts.ensures.limits in
    rw (c.names.ensures, c.deref-3.ensures.value) (formed_below (length (names_of p)) c.parts-parts.result.now.equations.items p.equations refl (all_formed (length (names_of p)) p.equations limits.plant.equations))

pub returns : goal.returns
returns c =
    rw (
      c.in_ok-extend_from_slice-2.ensures.items,
      c.in_ok-extend_from_slice.ensures.items,
      c.goal_line.ensures,
      c.in_ok-push_boxes-2.ensures,
      c.in_ok-push_boxes.ensures,
      c.in_ok-push_equations.ensures,
      c.in_ok-push_noises.ensures,
      c.in_ok-push_inputs.ensures,
      c.in_ok-push_states.ensures,
      c.in_ok-text.ensures.items,
      c.version_line.ensures,
      c.names.ensures,
      c.as_slice-states.ensures.value,
      c.deref.ensures.value,
      c.deref-2.ensures.value,
      c.deref-3.ensures.value,
      c.deref-4.ensures.value,
      c.deref-5.ensures.value,
      ← c.parts-parts.ensures.parts,
    ) refl
