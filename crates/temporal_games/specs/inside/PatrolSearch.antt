-- What stands between two steps of a patrol's search. No public clause names any of it.
use Rattle.std.specs.Prelude.{◌≡◌, ℕ, ◌+◌, ◌^◌, ◌<◌, ◌↔◌, Bool, true, false, cond, List, [], map, length, replicate, Option, Some, None, slice_index_or, slice_set, sum_by, count_by}
use Rattle.std.specs.List.{range_with_len}
use Rattle.game_core.specs.declared.game.Mark.{Mark}
use Rattle.game_core.specs.declared.game.Mark.TheVariants.{Goal, Obstacle, Plain}
use Rattle.game_core.specs.declared.game.Row.{Row}
use Rattle.game_core.specs.Game.{Game, mark_of}
use Rattle.game_core.specs.Keep.{IsKeepSolution}
use Rattle.game_core.specs.Solution.{row_of, HasRow}
use Rattle.plant_record.specs.Description.{Description}
use Rattle.turn_rows.specs.Targets.{IsInTarget, next_turn}
use Rattle.temporal_games.specs.Visits.{Visits}
use Rattle.turn_rows.specs.Rows.{rows_for}
use Rattle.temporal_games.specs.Patrol.{IsLaterReachRow}

-- For each turn the marks with its arrivals as goals, the rows of its last game, and whether it is to be solved again.
pub record PatrolProgress : Type 0 where
  pub marks : List (List Mark)
  pub rows : List (List (Option Row))
  pub due : List Bool

-- the marks of a turn
abbrev pub marks_for : List (List Mark) → ℕ → List Mark
marks_for marks j = slice_index_or marks j []

-- the mark of a cell
abbrev pub mark_at : List Mark → ℕ → Mark
mark_at marks c = slice_index_or marks c Plain

-- a cell is marked as an arrival of a turn
abbrev pub IsMarked : List (List Mark) → ℕ → ℕ → Type 0
IsMarked marks j c = mark_at (marks_for marks j) c ≡ Goal

-- a turn is to be solved again
abbrev pub is_due : List Bool → ℕ → Bool
is_due due j = slice_index_or due j false

-- Marks of a turn: no goal outside its target, and the obstacles of the game.
pub record AreTurnMarks (g : Game) (In : ℕ → Type 0) (marks : List Mark) : Type 0 where
  pub one_each : length marks ≡ g.cells
  pub inside : (c : ℕ) → c < g.cells → mark_at marks c ≡ Goal → In c
  pub obstacles : (c : ℕ) → c < g.cells → (mark_at marks c ≡ Obstacle) ↔ (mark_of g c ≡ Obstacle)

-- each turn has marks, rows and a test, and there are fewer than 2^32 of them
abbrev pub HasOneEach : PatrolProgress → Type 0
HasOneEach t = (length t.marks ≡ length t.due) × (length t.rows ≡ length t.due) × (length t.due < 2 ^ 32)

-- the marks of each turn have the obstacles of the game
abbrev pub HaveObstacles : Game → PatrolProgress → Type 0
HaveObstacles g t = (j : ℕ) → j < length t.due → AreTurnMarks g (λ _. Unit {0}) (marks_for t.marks j)

-- Marks in which all cells of a turn's target are goals.
pub record AreTargetMarks (p : Description) (g : Game) (j : ℕ) (marks : List Mark) : Type 0 where
  pub turn_marks : AreTurnMarks g (IsInTarget p j) marks
  pub all : (c : ℕ) → c < g.cells → IsInTarget p j c → mark_at marks c ≡ Goal

-- Marks to begin with: all cells of a turn's target that have a row are goals.
pub record AreFirstMarks (p : Description) (g : Game) (kept : List (Option Row)) (j : ℕ) (marks : List Mark) : Type 0 where
  pub turn_marks : AreTurnMarks g (IsInTarget p j) marks
  pub all : (c : ℕ) → c < g.cells → IsInTarget p j c → HasRow kept c → mark_at marks c ≡ Goal

-- Rows that lead to the goals among marks by strategies that begin with an input.
pub record AreLaterReachRows (g : Game) (marks : List Mark) (rows : List (Option Row)) : Type 0 where
  pub one_each : length rows ≡ g.cells
  pub each : (c : ℕ) → c < g.cells → IsLaterReachRow (λ s. mark_at marks s ≡ Goal) g c (row_of rows c)

-- a goal without a row is a goal no more
abbrev pub withdrawn_mark : Mark → Option Row → Mark
withdrawn_mark Goal None = Plain
withdrawn_mark Goal (Some row) = Goal
withdrawn_mark Obstacle row = Obstacle
withdrawn_mark Plain row = Plain

-- a goal without a row
abbrev pub is_gone : Mark → Option Row → Bool
is_gone Goal None = true
is_gone Goal (Some row) = false
is_gone Obstacle row = false
is_gone Plain row = false

-- the marks without the arrivals that have no row
abbrev pub withdrawn : List Mark → List (Option Row) → List Mark
withdrawn marks rows = map (λ c. withdrawn_mark (mark_at marks c) (row_of rows c)) (range_with_len 0 (length marks))

-- the mark of a goal
abbrev pub is_goal : Mark → Bool
is_goal Goal = true
is_goal Obstacle = false
is_goal Plain = false

-- 1 for true, 0 for false
abbrev pub one_if : Bool → ℕ
one_if b = cond b 1 0

-- how many arrivals and due turns there are
abbrev pub work_left : PatrolProgress → ℕ
work_left p = sum_by (λ marks. count_by is_goal marks) p.marks + sum_by one_if p.due

-- A search begins: every turn is due, and all cells of its target that are kept are its arrivals.
pub record IsAtStart (p : Description) (g : Game) (t : PatrolProgress) : Type 0 where
  pub kept : List (Option Row)
  pub keeps : IsKeepSolution g kept
  pub few : length p.targets < 2 ^ 32
  pub mark_lists : length t.marks ≡ length p.targets
  pub row_lists : length t.rows ≡ length p.targets
  pub all_due : t.due ≡ replicate (length p.targets) true
  pub marked : (j : ℕ) → j < length p.targets → AreFirstMarks p g kept j (marks_for t.marks j)

-- The arrivals lie in their targets and hold all cells with so many visits. A turn that isn't due has the rows of its
-- arrivals, and the arrivals before it have rows for it.
pub record IsUnderWay (g : Game) (In : ℕ → ℕ → Type 0) (turns : ℕ) (p : PatrolProgress) : Type 0 where
  pub mark_lists : length p.marks ≡ turns
  pub row_lists : length p.rows ≡ turns
  pub tests : length p.due ≡ turns
  pub marked : (j : ℕ) → j < turns → AreTurnMarks g (In j) (marks_for p.marks j)
  pub visits : ℕ
  pub holds : (j s : ℕ) → j < turns → s < g.cells → In j s → Visits g In turns visits (next_turn turns j) s → IsMarked p.marks j s
  pub solved : (j : ℕ) → j < turns → is_due p.due j ≡ false → AreLaterReachRows g (marks_for p.marks j) (rows_for p.rows j)
  pub led : (j s : ℕ) → j < turns → s < g.cells → is_due p.due (next_turn turns j) ≡ false → IsMarked p.marks j s → HasRow (rows_for p.rows (next_turn turns j)) s

-- The turn before a turn: the last comes before the first.
pub record IsBefore (turns turn before : ℕ) : Type 0 where
  pub below : before < turns
  pub next : next_turn turns before ≡ turn
  pub only : (j : ℕ) → j < turns → next_turn turns j ≡ turn → j ≡ before

-- A turn is solved: its rows are new, the arrivals before it that have no row are withdrawn, and the turn before it is due
-- where there was one.
pub record IsStableAt (g : Game) (turn before : ℕ) (p q : PatrolProgress) : Type 0 where
  pub rows : List (Option Row)
  pub lead : AreLaterReachRows g (marks_for p.marks turn) rows
  pub rows_are : q.rows ≡ slice_set p.rows turn rows
  pub marks_are : q.marks ≡ slice_set p.marks before (withdrawn (marks_for p.marks before) rows)
  pub again : Bool
  pub same : again ≡ false → withdrawn (marks_for p.marks before) rows ≡ marks_for p.marks before
  pub fewer : again ≡ true → count_by is_goal (withdrawn (marks_for p.marks before) rows) < count_by is_goal (marks_for p.marks before)
  pub due_are : q.due ≡ cond again (slice_set (slice_set p.due turn false) before true) (slice_set p.due turn false)

-- there is a turn before this one, and with it this one is solved
abbrev pub IsSolvedAt : Game → ℕ → PatrolProgress → PatrolProgress → Type 0
IsSolvedAt g turn p q = (before : ℕ) × IsBefore (length p.due) turn before × IsStableAt g turn before p q
