-- Each pair of a demo plant has at most nine successors.
use Rattle.std.proofs.Common.{◌≡◌, ℕ, ◌+◌, ◌*◌, ◌/◌, ◌%◌, ◌<◌, ◌≤◌, List, [], length, get_or, arith, refl, ap, ◌∙◌, ⊎_elim}
use Rattle.std.proofs.lemmas.Bool.{cases_lt}
use Rattle.std.proofs.lemmas.List.{get_or_default}
use Rattle.std.proofs.lemmas.List.Sums.{sum_by-le}
use Rattle.fixed_expr.specs.Value.{value_of}
use Rattle.grid_quantiser.specs.Axes.{cells_of}
use Rattle.plant_record.specs.Description.{axes_of, count_of, vectors_of}
use Rattle.successor_box.specs.SuccessorBoxes.{IsEnabledAt, AreSuccessors, central_values}
use Rattle.pair_box.specs.PlantBoxes.{pairs_of_plant, pair_of_plant}
use Rattle.plant_game.specs.Abstraction.{AreEdges}
use Rattle.demo_plants.specs.Demo.{demo_plant_of, position, position_step, speed_step}
use Rattle.demo_plants.specs.Laws.{DemoPlantsHaveFewEdges}
use Rattle.demo_plants.proofs.Sizes.{within_limits}
use Rattle.demo_plants.proofs.FewSuccessors.{few_cells}

few_where_enabled : (n c u : ℕ) (cells : List ℕ) → AreSuccessors (demo_plant_of n) c u cells → IsEnabledAt (demo_plant_of n) c u → length cells ≤ 9
unfolding demo_plant_of
few_where_enabled n c u cells are enabled =
    few_cells (count_of (position n)) (value_of position_step (central_values (demo_plant_of n) c u)) (value_of speed_step (central_values (demo_plant_of n) c u)) enabled cells (are.enabled enabled)

few_successors : (n c u : ℕ) (cells : List ℕ) → AreSuccessors (demo_plant_of n) c u cells → length cells ≤ 9
few_successors n c u cells are =
    ⊎_elim
    (λ many. let none : cells ≡ [] = are.disabled (λ enabled. let few = few_where_enabled n c u cells are enabled in omega (arith, few, many)) in omega (arith, ap length none))
    (λ few. few)
    (cases_lt 9 (length cells))

five : (n : ℕ) → vectors_of (demo_plant_of n).inputs ≡ 5
unfolding demo_plant_of
five n = refl

pairs_are : (n : ℕ) → pairs_of_plant (demo_plant_of n) ≡ cells_of (axes_of (demo_plant_of n)) * 5
unfolding demo_plant_of
pairs_are n = refl

inputs_are_five : (n c u : ℕ) → pair_of_plant (demo_plant_of n) c u ≡ c * 5 + u
unfolding demo_plant_of
inputs_are_five n c u = refl

each_list : (n m : ℕ) (edges : AreEdges (demo_plant_of n) m) (i : ℕ) (d : List ℕ) → i < length edges.lists → length (get_or edges.lists i d) ≤ 9
each_list n m edges i d lt =
    let c : ℕ = i / 5 in
    let u : ℕ = i % 5 in
    let here : pair_of_plant (demo_plant_of n) c u ≡ i = omega (arith, inputs_are_five n c u) in
    let cell : c < cells_of (axes_of (demo_plant_of n)) = omega (arith, edges.one_each, pairs_are n) in
    let input : u < vectors_of (demo_plant_of n).inputs = omega (arith, five n) in
    let few = few_successors n c u (get_or edges.lists (pair_of_plant (demo_plant_of n) c u) []) (edges.each c u cell input) in
    let same : get_or edges.lists (pair_of_plant (demo_plant_of n) c u) [] ≡ get_or edges.lists i d = ap (λ (k : ℕ). get_or edges.lists k []) here ∙ get_or_default edges.lists i [] d lt in
    omega (arith, few, ap length same)

pub few_edges : DemoPlantsHaveFewEdges
few_edges n m size edges =
    let le = sum_by-le length 9 edges.lists (each_list n m edges) in
    omega (arith, le, edges.total, edges.one_each, (within_limits n size).pairs)
