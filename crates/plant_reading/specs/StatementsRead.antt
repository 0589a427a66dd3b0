-- What a line states, as it is read.
use Rattle.std.specs.Prelude.{ℕ, List, length}
use Rattle.std.specs.List.{flat_map}
use Rattle.fixed_expr.specs.Expression.{Expression, expression_of}
use Rattle.plant_record.specs.declared.variables.Variables.{Variables}
use Rattle.plant_record.specs.Parts.{variable_names}
use Rattle.line_words.specs.Words.{words_of}
use Rattle.line_words.specs.Tokens.{tokens_of}
use Rattle.expression_reading.specs.SyntaxTrees.{AreTokensOf}
use Rattle.plant_reading.specs.declared.statements.Statement.{Statement as Read}
use Rattle.plant_reading.specs.declared.statements.Statement.TheVariants as read
use Rattle.plant_reading.specs.Statements.{Statement, Version, State, Input, Noise, Next, Target, Obstacle, Goal, End, States}

-- the statement without where its parts lie in memory
abbrev pub statement_of : Read → Statement
statement_of (read.Version v) = Version v
statement_of (read.State s) = State s
statement_of (read.Input i) = Input i
statement_of (read.Noise w) = Noise w
statement_of (read.Next state equation) = Next state.now (expression_of equation)
statement_of (read.Target b) = Target b
statement_of (read.Obstacle b) = Obstacle b
statement_of (read.Goal kind) = Goal kind
statement_of read.End = End

-- the words of a line state it over these variables
abbrev pub StatesOver : Variables → List (List ℕ) → Statement → Type 0
StatesOver variables words = States (variable_names variables) (length variables.states.items) words

-- the tokens of some bytes are those of an expression over these variables
abbrev pub SpellsOver : Variables → List ℕ → Expression → Type 0
SpellsOver variables bytes e = AreTokensOf (variable_names variables) (flat_map tokens_of (words_of bytes)) e
