-- The step from one sample to the next.
use Rattle.std.proofs.Common.{◌≡◌, ℕ, zero, suc, ◌+◌, ◌-◌, ◌*◌, ◌<◌, ◌≤◌, List, ◌++◌, Option, Some, length, map, take, replicate, sym, ap, subst, ◌∙◌, arith}
use Rattle.std.specs.Prelude.{ℤ, pos}
use Rattle.std.proofs.lemmas.List.{take-append-le}
use Rattle.fixed_expr.specs.Value.{value_of}
use Rattle.game_core.specs.declared.game.Row.{Row}
use Rattle.grid_quantiser.specs.Cells.{cell_of, point_of}
use Rattle.plant_record.specs.Description.{Description, axes_of, vector_of, vectors_of}
use Rattle.plant_record.specs.Limits.{IsWithinLimits}
use Rattle.plant_record.proofs.lemmas.SoundPlants.{sound}
use Rattle.plant_record.specs.Steps.{IsNoise, step_of, StepStaysInRange}
use Rattle.successor_box.specs.Deviations.{HasNoOverflow}
use Rattle.successor_box.proofs.Steps.{step_stays}
use Rattle.controller_table.specs.Tables.{TableModel, RowsFit}
use Rattle.controller_table.specs.Choice.{row_at}
use Rattle.controller_table.proofs.OneRow.{row_fits as fits}
use Rattle.loop_sim.specs.Noise.{generator, noises_at, noises_from}
use Rattle.loop_sim.specs.Trace.{trace_lines}
use Rattle.loop_sim.specs.inside.Stages.{lines_on}
use Rattle.loop_sim.proofs.Draws.{noise_count, noises_later, noises_lie}
use Rattle.controller_table.proofs.RowsAtStates.{in_cell}

-- the row at a state fits the plant
pub row_fits : (p : Description) (rows : List (Option Row)) (x : List ℤ) (row : Row) → RowsFit p rows → row_at p rows x ≡ Some row → row.input < vectors_of p.inputs
row_fits p rows x row fit e = (fits p rows fit (cell_of (axes_of p) x) row (in_cell p rows x row e).1).input

-- the noises that are drawn keep the step in the range
pub stays : (p : Description) (rows : List (Option Row)) (x w : List ℤ) (row : Row) (before : ℕ) → IsWithinLimits p → RowsFit p rows → HasNoOverflow p → row_at p rows x ≡ Some row → w ≡ point_of (noises_from p.noises before 0)
    → StepStaysInRange p x row.input w
stays p rows x w row before limits fit overflow e drawn =
    let noises : List ℤ = noises_from p.noises before 0 in
    step_stays p row.input x w (sound p limits.plant) overflow (row_fits p rows x row fit e) (in_cell p rows x row e).0 (subst (IsNoise p.noises) (sym drawn) (noises_lie p.noises (replicate (6 - length noises) (pos 0)) before 0 limits.plant.noises))

-- what lies past the noises is not looked at
same_step : (p : Description) (x w past : List ℤ) (u : ℕ) → length p.noises ≤ length w → step_of p x u (w ++ past) ≡ step_of p x u w
same_step p x w past u long = ap (λ (front : List ℤ). map (λ e. value_of e (take (length p.states) x ++ vector_of p.inputs u ++ front)) p.equations) (take-append-le (length p.noises) w past long)

-- the step under the noises that are drawn is that under the noises of the sample
pub drawn_step : (p : Description) (x w : List ℤ) (u seed t before : ℕ) → before ≡ generator seed (t * length p.noises) → w ≡ point_of (noises_from p.noises before 0) → step_of p x u w ≡ step_of p x u (noises_at p seed t)
drawn_step p x w u seed t before state drawn =
    let noises : List ℤ = noises_from p.noises before 0 in
    let here : t * length p.noises + 0 ≡ t * length p.noises = omega arith in
    ap (step_of p x u) drawn
    ∙ same_step p x noises (replicate (6 - length noises) (pos 0)) u (omega (arith, noise_count p.noises before 0))
    ∙ ap (step_of p x u) (ap (λ (s : ℕ). noises_from p.noises s 0) state ∙ noises_later p.noises seed (t * length p.noises) 0 ∙ ap (noises_from p.noises seed) here)

-- where a sample may follow, the lines go on with it
pub lines_go_on : (t : TableModel) (seed left time : ℕ) (x y : List ℤ) (row : Row) → 0 < left → y ≡ point_of (step_of t.plant x row.input (noises_at t.plant seed time)) → trace_lines t.plant t.rows seed (left - 1) (time + 1) y ≡ lines_on t seed left time x row
lines_go_on t seed zero time x y row some next = absurd (omega (arith, some))
lines_go_on t seed (suc left) time x y row some next =
    let fewer : suc left - 1 ≡ left = omega arith in
    let later : time + 1 ≡ suc time = omega arith in
    ap (λ (n : ℕ). trace_lines t.plant t.rows seed n (time + 1) y) fewer ∙ ap (λ (n : ℕ). trace_lines t.plant t.rows seed left n y) later ∙ ap (trace_lines t.plant t.rows seed left (suc time)) next
