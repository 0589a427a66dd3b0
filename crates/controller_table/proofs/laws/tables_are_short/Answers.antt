use Rattle.controller_table.proofs.ShortTexts as short
use Rattle.controller_table.proofs.laws.tables_are_short.Goals as goal

pub returns : goal.returns
returns c = short.tables_are_short
