use Rattle.std.proofs.Common.{refl}
use Rattle.line_words.specs.Words.{words_of}
use Rattle.plant_text.specs.inside.DraftsInMemory.{partial_of}
use Rattle.plant_reading.specs.StatementsRead.{statement_of}
use Rattle.plant_text.proofs.lemmas.RulesKept.{rules_stated}
use Rattle.plant_text.proofs.lemmas.LineGrammar.{nowhere}
use Rattle.std.proofs.lemmas.Result.{on_ok_weaker}
use Rattle.plant_text.proofs.draft.Draft.read_line.Goals as goal

pub returns-then-not-fits-clause-refused : goal.returns-then-not-fits-clause-refused
returns-then-not-fits-clause-refused c = λ _.
    nowhere (partial_of c.args.self.now) c.args.line.now (statement_of c.in_ok-statement.statement) c.requires c.in_ok-statement.ensures.found (λ fits. (let no_fit = c.if-not-fits.ensures.1 fits in cc))

pub returns-clause-rules : goal.returns-clause-rules
returns-clause-rules c =
    on_ok_weaker c.add.result
    (rules_stated (partial_of c.args.self.now) (words_of c.args.line.now) (statement_of c.in_ok-statement.statement) (partial_of c.add.new.self) c.requires c.in_ok-statement.ensures.found (c.if-not-fits.ensures.0 refl))
    c.add.ensures.added
