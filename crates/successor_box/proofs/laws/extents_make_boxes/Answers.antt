use Rattle.plant_record.specs.Description.{axes_of}
use Rattle.successor_box.specs.SuccessorBoxes.{low_corner, high_corner}
use Rattle.successor_box.proofs.Below.{boxes_grow_by_extents}
use Rattle.successor_box.proofs.PairExtents.{box_more, box_on_all}
use Rattle.successor_box.proofs.laws.extents_make_boxes.Goals as goal

pub returns : goal.returns
returns c = record {
  start = λ p cell u. boxes_grow_by_extents.start (low_corner p cell u) (high_corner p cell u);
  more = λ p k cell u found extent sound lt box is. box_more p k cell u found extent sound lt box is;
  within = λ p k cell u found sound. boxes_grow_by_extents.within (axes_of p) (low_corner p cell u) (high_corner p cell u) k found sound.axes;
  all = box_on_all;
}
