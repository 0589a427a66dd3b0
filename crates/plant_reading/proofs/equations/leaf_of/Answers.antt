use Rattle.std.proofs.Common.{None, Some}
use Rattle.plant_record.specs.Parts.{variable_names}
use Rattle.expression_reading.proofs.lemmas.KindSpelling.{leaf_named, leaf_unnamed}
use Rattle.plant_reading.proofs.equations.leaf_of.Goals as goal

pub returns-in-Some : goal.returns-in-Some
returns-in-Some c = leaf_named (variable_names c.args.variables.now) c.args.token.now c.in-Some.i c.requires.names c.in-Some.ensures.found

pub returns-in-Some-parse_literal : goal.returns-in-Some-parse_literal
returns-in-Some-parse_literal c = leaf_unnamed (variable_names c.args.variables.now) c.args.token.now (Some c.in-Some-parse_literal.k) c.in-None.ensures.none c.in-Some-parse_literal.ensures

pub returns-in-None-parse_literal : goal.returns-in-None-parse_literal
returns-in-None-parse_literal c = leaf_unnamed (variable_names c.args.variables.now) c.args.token.now None c.in-None.ensures.none c.in-None-parse_literal.ensures
