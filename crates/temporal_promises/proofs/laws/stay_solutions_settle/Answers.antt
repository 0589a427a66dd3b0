use Rattle.temporal_texts.specs.StayText.{stay_text}
use Rattle.temporal_promises.proofs.StayLaws.{solution_has_stay_text, stay_text_settles}
use Rattle.temporal_promises.proofs.laws.stay_solutions_settle.Goals as goal

pub returns : goal.returns
returns c = λ p g rows within game solution.
    let table = solution_has_stay_text p g rows within game solution in (table, stay_text_settles (stay_text p rows) p g rows table game solution)
