-- The kinds of texts that give rows of a plant: a table, the text of reach and stay, and that of a patrol. What differs by kind is the
-- first line, the rules of the rows, how many turns there are, and how many bytes.
use Rattle.std.specs.Prelude.{ℕ, ◌-◌, ◌*◌, ◌≤◌, List, [], ◌∷◌, length, codes}
use Rattle.base.specs.Lines.{line}
use Rattle.base.specs.declared.limits.TheConstants.{TABLE_LIMIT, TURNS_LIMIT}
use Rattle.grid_quantiser.specs.Axes.{cells_of}
use Rattle.plant_record.specs.declared.aims.GoalKind.{GoalKind}
use Rattle.plant_record.specs.declared.aims.GoalKind.TheVariants.{Reach, Keep}
use Rattle.plant_record.specs.Description.{Description, axes_of, vectors_of}
use Rattle.row_runs.specs.declared.row_format.RowFormat.TheVariants.{Both}
use Rattle.row_runs.specs.declared.run.TableVersion.{TableVersion}
use Rattle.row_runs.specs.declared.run.TableVersion.TheVariants.{First, Second}
use Rattle.row_reading.specs.declared.row_rules.RowRules.{RowRules}
use Rattle.row_reading.specs.declared.row_rules.TurnHead.TheVariants.{Count, Numbered}
use Rattle.row_reading.specs.declared.row_rules.TurnRules.{TurnRules}
use Rattle.controller_table.specs.declared.text_kind.TextKind.{TextKind}
use Rattle.controller_table.specs.declared.text_kind.TextKind.TheVariants.{Table, Stay, Patrol}
use Rattle.controller_table.specs.declared.text_kind.TheConstants.{PATROL_LIMIT}
use Rattle.controller_table.specs.TableText.{format_of}

-- the first line of a kind
abbrev pub first_line : TextKind → List ℕ
first_line (Table First) = line (codes "table" ∷ codes "1" ∷ [])
first_line (Table Second) = line (codes "table" ∷ codes "2" ∷ [])
first_line Stay = line (codes "stay" ∷ codes "1" ∷ [])
first_line Patrol = line (codes "patrol" ∷ codes "1" ∷ [])

-- the greatest rank of a plant with so many cells: one that is to be kept has no ranks
abbrev pub most_rank_of : GoalKind → ℕ → ℕ
most_rank_of Reach cells = cells - 1
most_rank_of Keep cells = 0

-- the rules of the rows of a plant's table
abbrev pub rules_of : TableVersion → Description → RowRules
rules_of version p = record {
  version = version;
  format = format_of p.goal;
  cells = cells_of (axes_of p);
  vectors = vectors_of p.inputs;
  least_rank = 0;
  most_rank = most_rank_of p.goal (cells_of (axes_of p));
}

-- those of its stay text: ranks from 0 to the number of cells less one
abbrev pub stay_rules : Description → RowRules
stay_rules p = record (rules_of Second p) { format = Both; most_rank = cells_of (axes_of p) - 1 }

-- those of its patrol text: ranks from 1 to the number of cells
abbrev pub patrol_rules : Description → RowRules
patrol_rules p = record (stay_rules p) { least_rank = 1; most_rank = cells_of (axes_of p) }

-- the rules of a text by turns: a patrol has a turn for each target, another text has one
abbrev pub turn_rules : TextKind → Description → TurnRules
turn_rules (Table version) p = record { rows = rules_of version p; turns = 1; head = Count }
turn_rules Stay p = record { rows = stay_rules p; turns = 1; head = Count }
turn_rules Patrol p = record { rows = patrol_rules p; turns = length p.targets; head = Numbered }

-- over all targets a plant has at most 4,194,304 cells
abbrev pub HasFewTurns : Description → Type 0
HasFewTurns p = cells_of (axes_of p) * length p.targets ≤ TURNS_LIMIT

-- a patrol's plant has few enough turns
abbrev pub HasFewTurnsFor : TextKind → Description → Type 0
HasFewTurnsFor Patrol p = HasFewTurns p
HasFewTurnsFor kind p = Unit {0}

-- how many bytes a text may have
abbrev pub most_bytes : TextKind → ℕ
most_bytes (Table version) = TABLE_LIMIT
most_bytes Stay = TABLE_LIMIT
most_bytes Patrol = PATROL_LIMIT
