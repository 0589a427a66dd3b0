use Rattle.controller_table.proofs.HeadedLaws as laws
use Rattle.controller_table.proofs.laws.no_text_is_neither.Goals as goal

pub returns : goal.returns
returns c = laws.no_text_is_neither
