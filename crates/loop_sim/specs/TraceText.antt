-- The text of a trace.
use Rattle.std.specs.Prelude.{ℕ, ℤ, List, [], ◌∷◌, ◌++◌, length, map, take, Option, codes}
use Rattle.std.specs.List.{concat}
use Rattle.std.specs.Fmt.{decimal, signed_decimal}
use Rattle.game_core.specs.declared.game.Row.{Row}
use Rattle.plant_record.specs.Description.{Description}
use Rattle.row_runs.specs.RunText.{rank_field, input_field}
use Rattle.base.specs.Lines.{line}
use Rattle.controller_table.specs.TableText.{format_of}
use Rattle.loop_sim.specs.declared.sim_line.SimLine.{SimLine}
use Rattle.loop_sim.specs.declared.sim_line.SimLine.TheVariants.{At, Arrived, Stopped, Lost}
use Rattle.loop_sim.specs.Trace.{trace_lines}

-- the words of a state
abbrev pub state_words : Description → List ℤ → List (List ℕ)
state_words p x = map signed_decimal (take (length p.states) x)

-- a line of a trace as text
abbrev pub line_text : Description → SimLine → List ℕ
line_text p (At t x row) = line (decimal t ∷ state_words p x ++ rank_field (format_of p.goal) row ∷ input_field (format_of p.goal) row ∷ [])
line_text p (Arrived t) = line (codes "arrived" ∷ decimal t ∷ [])
line_text p (Stopped t) = line (codes "stopped" ∷ decimal t ∷ [])
line_text p (Lost t x) = line (codes "lost" ∷ decimal t ∷ state_words p x)

-- the line that begins a trace
abbrev pub trace_header : List ℕ
trace_header = line (codes "trace" ∷ codes "1" ∷ [])

-- the text of the trace from a state, with at most n samples after the first
abbrev pub trace_text : Description → List (Option Row) → List ℤ → ℕ → ℕ → List ℕ
trace_text p rows x seed n = trace_header ++ concat (map (line_text p) (trace_lines p rows seed n 0 x))
