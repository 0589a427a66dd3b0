use Rattle.temporal_texts.specs.PatrolText.{patrol_text}
use Rattle.temporal_texts.proofs.FewTurns.{few_turns}
use Rattle.temporal_promises.proofs.PatrolLaws.{solution_has_patrol_text, patrol_text_patrols}
use Rattle.temporal_promises.proofs.laws.patrol_solutions_patrol.Goals as goal

pub returns : goal.returns
returns c = λ p g rows within game solution. (
  λ few. solution_has_patrol_text p g rows within few game solution,
  λ j x row ws has.
      let few = few_turns p has.plant rows has.turns within has.text in
      patrol_text_patrols (patrol_text p rows) p g rows (solution_has_patrol_text p g rows within few game solution) game solution j x row ws has,
)
