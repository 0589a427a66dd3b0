use Rattle.std.proofs.Common.{◌≡◌, ℕ, ◌*◌, List, ◌++◌, codes, refl, ◌∙◌}
use Rattle.std.specs.Prelude.{sum_by, length}
use Rattle.std.specs.Fmt.{decimal}
use Rattle.game_core.specs.Game.{Game}
use Rattle.game_core.specs.Solution.{IsReachSolution}
use Rattle.plant_game.specs.PlantSolution.{Solves}
use Rattle.plant_game.proofs.EdgeCounts.{games_count_their_edges}
use Rattle.demo_plants.specs.Demo.{demo_plant_of}
use Rattle.demo_plants.proofs.summary.demo_line.Goals as goal

-- a line with these numbers
abbrev line_with : ℕ → ℕ → ℕ → ℕ → ℕ → ℕ → List ℕ
line_with n cells pairs edges won rank =
    codes "demo " ++ decimal n ++ codes " cells " ++ decimal cells ++ codes " pairs " ++ decimal pairs ++ codes " edges " ++ decimal edges ++ codes " won " ++ decimal won ++ codes " rank " ++ decimal rank ++ codes "\n"

with_numbers : (n : ℕ) {c c' p p' e e' w w' r r' : ℕ} → c ≡ c' → p ≡ p' → e ≡ e' → w ≡ w' → r ≡ r' → line_with n c p e w r ≡ line_with n c' p' e' w' r'
with_numbers n ec ep ee ew er = cc

products : {a a' b b' : ℕ} → a ≡ a' → b ≡ b' → a * b ≡ a' * b'
products ea eb = cc

goal_is : (n : ℕ) (game : Game) (rows : _) → IsReachSolution game rows → Solves (demo_plant_of n).goal game rows
unfolding demo_plant_of
goal_is n game rows solved = solved

pub returns : goal.returns
returns g c = record {
  rows = c.args.answer.now;
  edges = sum_by length (g.G.Graph.game c.args.game.now).successors;
  solution = record { game = g.G.Graph.game c.args.game.now; abstraction = c.requires.game; solution = goal_is c.args.n (g.G.Graph.game c.args.game.now) c.args.answer.now c.requires.solved };
  counted = games_count_their_edges (demo_plant_of c.args.n) (g.G.Graph.game c.args.game.now) c.requires.game;
  line =
      let pushed : c.extend_from_slice.new.self.items ≡ line_with c.args.n c.cells.result (c.cells-2.result * c.inputs.result) c.count_edges.result c.row_count.result c.greatest_rank.result =
      rw (c.in_ok-extend_from_slice.ensures.items, c.in_ok-push_part-6.ensures, c.in_ok-push_part-5.ensures, c.in_ok-push_part-4.ensures, c.in_ok-push_part-3.ensures, c.in_ok-push_part-2.ensures, c.in_ok-push_part.ensures, c.new-text.ensures.items)
      refl in
      let cells = c.cells.ensures ∙ c.requires.game.cells in
      let pairs = products (c.cells-2.ensures ∙ c.requires.game.cells) (c.inputs.ensures ∙ c.requires.game.inputs) in
      pushed ∙ with_numbers c.args.n cells pairs c.count_edges.ensures c.row_count.ensures c.greatest_rank.ensures;
}
