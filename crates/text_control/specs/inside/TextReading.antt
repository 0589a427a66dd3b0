-- What a text that was read says. No public clause names this.
use Rattle.controller_table.specs.KindTexts.{RowsModel}
use Rattle.text_control.specs.Texts.{TextModel}

-- what a text says, where its first turn is due
abbrev pub of_text : RowsModel → TextModel
of_text t = record { kind = t.kind; plant = t.plant; turns = t.turns; turn = 0 }
