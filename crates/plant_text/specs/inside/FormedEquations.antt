-- Which statements can be written. No public clause names this.
use Rattle.std.specs.Prelude.{ℕ}
use Rattle.fixed_expr.specs.Value.{IsWellFormed}
use Rattle.plant_reading.specs.Statements.{Statement, Version, State, Input, Noise, Next, Target, Obstacle, Goal, End}

-- the equation of a statement, if any, has the variables that it names
abbrev pub HasFormedEquation : ℕ → Statement → Type 0
HasFormedEquation m (Next name e) = IsWellFormed e m
HasFormedEquation m (Version v) = Unit {0}
HasFormedEquation m (State s) = Unit {0}
HasFormedEquation m (Input i) = Unit {0}
HasFormedEquation m (Noise w) = Unit {0}
HasFormedEquation m (Target b) = Unit {0}
HasFormedEquation m (Obstacle b) = Unit {0}
HasFormedEquation m (Goal kind) = Unit {0}
HasFormedEquation m End = Unit {0}
