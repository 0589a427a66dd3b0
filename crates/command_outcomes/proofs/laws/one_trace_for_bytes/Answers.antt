use Rattle.std.proofs.Common.{List, Option, sym, ap, ◌∙◌}
use Rattle.game_core.specs.declared.game.Row.{Row}
use Rattle.grid_quantiser.specs.Cells.{point_of}
use Rattle.plant_record.specs.Description.{Description}
use Rattle.loop_sim.specs.TraceText.{trace_text}
use Rattle.command_outcomes.proofs.Below.{one_table}
use Rattle.command_outcomes.proofs.laws.one_trace_for_bytes.Goals as goal

pub returns : goal.returns
returns c bytes samples seed start a b is also =
    let same = one_table bytes is.plant also.plant is.rows also.rows is.table also.table in
    is.text_is
    ∙ ap (λ (p : Description). trace_text p is.rows (point_of start) seed samples) same.0
    ∙ ap (λ (rows : List (Option Row)). trace_text also.plant rows (point_of start) seed samples) same.1
    ∙ sym also.text_is
