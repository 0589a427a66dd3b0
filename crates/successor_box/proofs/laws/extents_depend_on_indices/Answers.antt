use Rattle.successor_box.proofs.AlikePairs.{alike_extent}
use Rattle.successor_box.proofs.laws.extents_depend_on_indices.Goals as goal

pub returns : goal.returns
returns c = λ p i k u d v extent sound lt cell input other_cell other_input alike is.
    alike_extent p i k u d v sound lt cell input other_cell other_input alike extent is
