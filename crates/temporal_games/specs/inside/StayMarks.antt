-- The marks under which the two solvers are called, and how their answers are put together.
use Rattle.std.specs.Prelude.{ℕ, List, map, Option, Some, None}
use Rattle.std.specs.List.{range_with_len}
use Rattle.game_core.specs.declared.game.Mark.{Mark}
use Rattle.game_core.specs.declared.game.Mark.TheVariants.{Goal, Obstacle, Plain}
use Rattle.game_core.specs.declared.game.Row.{Row}
use Rattle.game_core.specs.Game.{Game, mark_of, with_marks}
use Rattle.game_core.specs.Solution.{row_of}

-- all but goals are obstacles
abbrev pub hold_mark : Mark → Mark
hold_mark Goal = Plain
hold_mark Obstacle = Obstacle
hold_mark Plain = Obstacle

-- the marks of the game of staying
abbrev pub marks_to_hold : Game → List Mark
marks_to_hold g = map (λ c. hold_mark (mark_of g c)) (range_with_len 0 g.cells)

-- the game in which all but goals are obstacles
abbrev pub goals_alone : Game → Game
goals_alone g = with_marks g (marks_to_hold g)

-- a cell with a row is a goal, and no other
abbrev pub end_mark : Mark → Option Row → Mark
end_mark Obstacle None = Obstacle
end_mark Goal None = Plain
end_mark Plain None = Plain
end_mark Obstacle (Some row) = Goal
end_mark Goal (Some row) = Goal
end_mark Plain (Some row) = Goal

-- the marks of the game of coming to where one can stay
abbrev pub marks_to_reach : Game → List (Option Row) → List Mark
marks_to_reach g held = map (λ c. end_mark (mark_of g c) (row_of held c)) (range_with_len 0 g.cells)

-- the first row that there is
abbrev pub either_row : Option Row → Option Row → Option Row
either_row None other = other
either_row (Some row) other = Some row

-- one list of rows over another, at so many cells
abbrev pub rows_over : ℕ → List (Option Row) → List (Option Row) → List (Option Row)
rows_over cells held others = map (λ c. either_row (row_of held c) (row_of others c)) (range_with_len 0 cells)
