use Rattle.successor_box.proofs.Steps.{step_among}
use Rattle.successor_box.proofs.laws.steps_lie_in_the_boxes.Goals as goal

pub returns : goal.returns
returns c = λ p cell u x w sound below enabled point noise. step_among p cell u x w sound below point noise enabled
