use Rattle.std.proofs.lemmas.Result.{on_ok_weaker}
use Rattle.plant_text.specs.Grammar.{names_in}
use Rattle.line_words.specs.Words.{words_of}
use Rattle.plant_text.specs.inside.DraftsInMemory.{partial_of}
use Rattle.plant_reading.specs.StatementsRead.{statement_of}
use Rattle.plant_text.proofs.lemmas.RulesKept.{rules_stated}
use Rattle.plant_text.proofs.lemmas.CanonicalParts.{formed, extends_canonically, leads_nowhere}
use Rattle.plant_text.proofs.draft.Draft.read_canonical_line.Goals as goal

pub check_canonical-requires-clause-formed : goal.check_canonical-requires-clause-formed
check_canonical-requires-clause-formed c = formed (names_in (partial_of c.args.self.now)) _ (words_of c.args.line.now) (statement_of c.in_ok-statement.statement) c.in_ok-statement.ensures.found

pub returns-in_err-check_canonical-clause-refused : goal.returns-in_err-check_canonical-clause-refused
returns-in_err-check_canonical-clause-refused c = λ malformed.
    leads_nowhere (partial_of c.args.self.now) c.args.line.now (statement_of c.in_ok-statement.statement) c.requires c.in_ok-statement.ensures.found (c.in_err-check_canonical.ensures.refused (let same = rw malformed at c.from_residual-in_err-check_canonical.ensures.1 in cc))

pub returns-clause-read : goal.returns-clause-read
returns-clause-read c =
    on_ok_weaker c.add.result
    (extends_canonically (partial_of c.args.self.now) c.args.line.now (statement_of c.in_ok-statement.statement) (partial_of c.add.new.self) c.in_ok-statement.ensures.found c.in_ok-check_canonical.ensures.taken)
    c.add.ensures.added

pub returns-clause-rules : goal.returns-clause-rules
returns-clause-rules c =
    on_ok_weaker c.add.result
    (rules_stated (partial_of c.args.self.now) (words_of c.args.line.now) (statement_of c.in_ok-statement.statement) (partial_of c.add.new.self) c.requires c.in_ok-statement.ensures.found c.in_ok-check_canonical.ensures.taken.fits)
    c.add.ensures.added
