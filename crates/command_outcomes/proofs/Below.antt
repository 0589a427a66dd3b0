-- Facts of texts, tables and solutions, by the statements that stand in the crates below.
use Rattle.game_core.proofs.RankBound.{rank_below}
use Rattle.plant_text.specs.Laws.{OnePlantPerText, OneRefusal, NoPlantTextIsRefused}
use Rattle.plant_text.proofs.lemmas.LinesLead as lines
use Rattle.controller_table.specs.Laws.{ReachSolutionsFit}
pub use Rattle.controller_table.proofs.OneRefusal.{one_table_refusal, no_table_is_refused}
pub use Rattle.controller_table.proofs.OneTable.{one_table}
use Rattle.controller_table.proofs.SolutionsFit as fitting

pub one_plant_per_text : OnePlantPerText
one_plant_per_text = lines.one_plant

pub one_refusal : OneRefusal
one_refusal = lines.one_refusal

pub no_plant_text_is_refused : NoPlantTextIsRefused
no_plant_text_is_refused = lines.no_plant_text_is_refused

pub reach_fits : ReachSolutionsFit
reach_fits = fitting.reach_fits rank_below
