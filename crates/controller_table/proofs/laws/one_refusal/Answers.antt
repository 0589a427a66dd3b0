use Rattle.controller_table.proofs.HeadedLaws as laws
use Rattle.controller_table.proofs.laws.one_refusal.Goals as goal

pub returns : goal.returns
returns c = laws.one_refusal
