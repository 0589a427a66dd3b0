use Rattle.std.proofs.Common.{◌≢◌, All, take}
use Rattle.pair_boxes.specs.declared.digits.Digit.{Digit}
use Rattle.pair_boxes.proofs.terms.TermTable.stays_along_lines.Given as goal

-- none of the digits so far is the last state's
abbrev pub invariant-loop-d : goal.invariant-loop-d
invariant-loop-d l = All (λ (d : Digit). d.variable ≢ l.last) (take l.d-index l.self.digits.items)
