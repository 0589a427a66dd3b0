use Rattle.plant_writing.proofs.lemmas.WrittenLines.{appended, input_parts}
use Rattle.plant_writing.proofs.plant_writer.push_input.Goals as goal

pub returns : goal.returns
returns c =
    appended c.extend_from_slice-3.result _ _ _
    (rw (c.in_ok-push_values.ensures, c.as_slice.ensures, c.in_ok-extend_from_slice-2.ensures.items, c.as_bytes.ensures, c.in_ok-extend_from_slice.ensures.items, input_parts c.args.text.now.items c.args.input.now)
    at c.extend_from_slice-3.ensures.items)
