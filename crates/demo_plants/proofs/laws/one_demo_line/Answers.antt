use Rattle.std.proofs.Common.{◌≡◌, ℕ, List, Option, refl, ap, sym, subst, ◌∙◌}
use Rattle.game_core.specs.declared.game.Row.{Row}
use Rattle.plant_game.proofs.EdgeCounts.{one_edge_count}
use Rattle.plant_game.proofs.OneSolution.{one_plant_solution}
use Rattle.plant_record.specs.Description.{Description}
use Rattle.command_line.specs.Command.{IsDemoNumber}
use Rattle.demo_plants.specs.Demo.{demo_plant_of, demo_text, demo_line, IsSummaryOf}
use Rattle.demo_plants.proofs.Sizes.{within_limits}
use Rattle.demo_plants.proofs.ReadBack.{reads_back}
use Rattle.demo_plants.proofs.laws.one_demo_line.Goals as goal

one_summary : (n : ℕ) (text other : List ℕ) → IsDemoNumber n → IsSummaryOf n (demo_plant_of n) text → IsSummaryOf n (demo_plant_of n) other → text ≡ other
one_summary n text other size is also =
    let plant = (within_limits n size).limits.plant in
    let same_rows : is.rows ≡ also.rows = one_plant_solution (demo_plant_of n) is.rows also.rows plant is.solution also.solution in
    let same_edges : is.edges ≡ also.edges = one_edge_count (demo_plant_of n) is.edges also.edges plant is.counted also.counted in
    is.line ∙ ap (λ (rows : List (Option Row)). demo_line n (demo_plant_of n) rows is.edges) same_rows ∙ ap (λ (edges : ℕ). demo_line n (demo_plant_of n) also.rows edges) same_edges ∙ sym also.line

pub returns : goal.returns
returns c n text other size is also =
    one_summary n text other size
    (subst (λ (p : Description). IsSummaryOf n p text) (reads_back n size (demo_text n) refl is.0 is.1) is.2)
    (subst (λ (p : Description). IsSummaryOf n p other) (reads_back n size (demo_text n) refl also.0 also.1) also.2)
