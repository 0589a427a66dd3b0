-- What a holder and a controller end as, once the text that they lent is back.
use Rattle.std.specs.Prelude.{Option, Some, true, refl}
use Rattle.std.specs.Borrow.{Lends, LendsIf, MutBor, Fml}
use Rattle.text_control.specs.Texts.{TextModel}
use Rattle.text_control.specs.contracts.packed_text.PackedText.{the_row as text_row}
use Rattle.controller_c.specs.declared.held.Held.{Held}
use Rattle.controller_c.specs.contracts.held.Held.{the_row as held_row}
use Rattle.controller_c.specs.declared.controller.Controller.{Controller}
use Rattle.controller_c.specs.contracts.controller.Controller.{the_row as controller_row}

-- the holder with this text
abbrev pub holding : Held → TextModel → Held
holding h t = record h { text = Some t }

-- the controller, open with this text
abbrev pub open_with : Controller → TextModel → Controller
open_with c t = record { is_open = true; held = holding c.held t; matches = (λ _. refl, λ _. refl) }

-- the holder h ends with the last text behind r
abbrev pub LendsHeld : MutBor Held → MutBor TextModel → Fml
LendsHeld h r = Lends held_row text_row h r (holding h.now)

-- the controller c ends with the last text behind r, or as it was where there is none
abbrev pub LendsText : MutBor Controller → Option (MutBor TextModel) → Fml
LendsText c r = LendsIf controller_row text_row c r (open_with c.now) c.now
