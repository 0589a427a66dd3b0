use Rattle.controller_table.proofs.OneTable as tables
use Rattle.controller_table.proofs.laws.one_choice.Goals as goal

pub returns : goal.returns
returns c = tables.one_choice
