use Rattle.std.proofs.Common.{◌≡◌, ℕ, ◌^◌, ◌<◌, length, false, true, ap, subst, ◌∙◌, add-one, arith}
use Rattle.plant_record.specs.Description.{Description}
use Rattle.plant_record.specs.Plants.{IsPlant}
use Rattle.plant_refine.specs.Trajectories.{ArrivesFirst}
use Rattle.plant_refine.specs.inside.Descents.{LeadDown}
use Rattle.controller_table.proofs.OneRow.{rank_below_cells}
use Rattle.controller_table.proofs.RowsAtStates.{in_cell}
use Rattle.plant_refine.proofs.InBoxes.{gets}
use Rattle.plant_refine.proofs.Arriving.{begins, goes_on, comes_in, some_rank}
use Rattle.plant_refine.proofs.Down.{lead_down}
use Rattle.plant_refine.proofs.driven.drive.Goals as goal
use Rattle.plant_refine.proofs.driven.drive.Goals.{After-every_table_fits}

down : (c : After-every_table_fits) → LeadDown c.args.p.now c.args.t.now.rows
down c = lead_down c.args.p.now c.args.t.now.rows (subst IsPlant c.requires.plant c.every_table_fits.ensures.limits.plant) c.requires.right

-- the rank at the start is a number of 32 bits
rank_fits : (c : After-every_table_fits) → c.requires.start.0.rank < 2 ^ 32
rank_fits c =
    let start = c.requires.start in
    let fits = c.every_table_fits.ensures in
    let goal_is = ap (λ (p : Description). p.goal) c.requires.plant ∙ c.requires.goal in
    let below = rank_below_cells c.args.t.now.plant c.args.t.now.rows fits.rows _ start.0 (in_cell c.args.p.now c.args.t.now.rows c.args.x.now start.0 start.1).1 goal_is in
    omega (arith, below, fits.limits.cells)

pub loop-sample-init : goal.loop-sample-init
loop-sample-init c =
    let lead = down (goal.at.loop-sample-init c).After-every_table_fits in
    begins lead c.args.x.now c.args.noises.now c.requires.start.0 c.requires.start.1 c.state_point-at.result c.state_point-at.ensures

pub overflow_cast-result : goal.overflow_cast-result
overflow_cast-result c = let start = c.requires.start in omega (arith, c.loop-sample.invariant.falls start.0 start.1, rank_fits (goal.at.overflow_cast-result c).After-every_table_fits)

pub returns-then-lies_in_target-clause-arrives : goal.returns-then-lies_in_target-clause-arrives
returns-then-lies_in_target-clause-arrives c =
    let lead = down (goal.at.returns-then-lies_in_target-clause-arrives c).After-every_table_fits in
    comes_in lead c.args.x.now c.args.noises.now c.loop-sample.sample c.loop-sample.at c.loop-sample.invariant (c.if-lies_in_target.ensures.0 (let same : true ≡ true = cc in same))

pub returns-then-lies_in_target-clause-bound : goal.returns-then-lies_in_target-clause-bound
returns-then-lies_in_target-clause-bound c = λ row has. omega (arith, c.loop-sample.invariant.falls row has)

pub next_state-at-requires-clause-row : goal.next_state-at-requires-clause-row
next_state-at-requires-clause-row c =
    let lead = down (goal.at.next_state-at-requires-clause-row c).After-every_table_fits in
    let h = c.loop-sample.invariant in
    (h.row, h.has, some_rank lead c.args.x.now c.args.noises.now c.loop-sample.at h.row h.has (λ met. let false-true : false ≡ true = c.if-lies_in_target.ensures.1 met in cc))

pub loop-sample-preserved : goal.loop-sample-preserved
loop-sample-preserved c =
    let lead = down (goal.at.loop-sample-preserved c).After-every_table_fits in
    let lt : c.loop-sample.sample < length c.args.noises.now = omega arith in
    rw add-one (goes_on lead c.args.x.now c.args.noises.now c.loop-sample.sample c.loop-sample.at _ c.next_state-at.result c.loop-sample.invariant (gets c.args.noises.now c.loop-sample.sample _ lt) c.next_state-at.ensures.moves c.next_state-at.ensures.lower (λ met. let false-true : false ≡ true = c.if-lies_in_target.ensures.1 met in cc))

pub overflow_cast-result-2 : goal.overflow_cast-result-2
overflow_cast-result-2 c = let start = c.requires.start in omega (arith, c.loop-sample.invariant.falls start.0 start.1, rank_fits (goal.at.overflow_cast-result-2 c).After-every_table_fits)

pub returns-clause-arrives : goal.returns-clause-arrives
returns-clause-arrives c =
    let lead = down (goal.at.returns-clause-arrives c).After-every_table_fits in
    let start = c.requires.start in
    let h = c.loop-sample.invariant in
    let falls = h.falls start.0 start.1 in
    let end : c.loop-sample.sample ≡ length c.args.noises.now = omega arith in
    let none : h.row.rank ≡ 0 = omega (arith, falls, end, start.2) in
    subst (λ (n : ℕ). ArrivesFirst c.args.p.now c.args.t.now.rows c.args.x.now c.args.noises.now n c.loop-sample.at) end
    (comes_in lead c.args.x.now c.args.noises.now c.loop-sample.sample c.loop-sample.at h (lead.arrived c.loop-sample.at h.row h.has none))

pub returns-clause-bound : goal.returns-clause-bound
returns-clause-bound c = λ row has. omega (arith, c.loop-sample.invariant.falls row has)
