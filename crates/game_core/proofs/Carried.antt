-- Strategies under other marks and to other ends.
use Rattle.std.proofs.Common.{◌≡◌, ◌≢◌, ℕ, ◌<◌, List, [], ◌∷◌, length, All}
use Rattle.std.proofs.lemmas.List.Elements.{All-head, All-tail}
use Rattle.game_core.specs.declared.game.Mark.{Mark}
use Rattle.game_core.specs.declared.game.Mark.TheVariants.{Obstacle}
use Rattle.game_core.specs.Game.{Game, IsGame, mark_of, pair_of, successors_of, with_marks}
use Rattle.game_core.specs.Strategy.{Tree, Leaf, Apply, Trees, NoTrees, AndTree, LeadsTo, LeadEachTo}
use Rattle.game_core.proofs.Rows.{successors_below}

pub remarked_game : (g : Game) (marks : List Mark) → length marks ≡ g.cells → IsGame g → IsGame (with_marks g marks)
remarked_game g marks n a = record { one_mark_each = n; one_list_each = a.one_list_each; rising = a.rising; within = a.within }

-- a strategy leads to other ends under other marks, where these have no more obstacles
mutual
  pub carried : (g : Game) (from to : List Mark) (E F : ℕ → Type 0) → IsGame g → ((s : ℕ) → s < g.cells → E s → F s) → ((s : ℕ) → s < g.cells → mark_of (with_marks g from) s ≢ Obstacle → mark_of (with_marks g to) s ≢ Obstacle)
      → (t : Tree) (c : ℕ) → c < g.cells → LeadsTo E (with_marks g from) t c → LeadsTo F (with_marks g to) t c
  carried g from to E F a ends clear Leaf c lt l = ends c lt l
  carried g from to E F a ends clear (Apply u next) c lt l = (
    clear c lt l.0,
    l.1,
    carried_each g from to E F a ends clear next (successors_of g c u) (successors_below g a (pair_of g c u)) l.2,
  )

  pub carried_each : (g : Game) (from to : List Mark) (E F : ℕ → Type 0) → IsGame g → ((s : ℕ) → s < g.cells → E s → F s) → ((s : ℕ) → s < g.cells → mark_of (with_marks g from) s ≢ Obstacle → mark_of (with_marks g to) s ≢ Obstacle)
      → (next : Trees) (cells : List ℕ) → All (λ s. s < g.cells) cells → LeadEachTo E (with_marks g from) next cells → LeadEachTo F (with_marks g to) next cells
  carried_each g from to E F a ends clear NoTrees cells lt l = l
  carried_each g from to E F a ends clear (AndTree t rest) [] lt l = absurd l
  carried_each g from to E F a ends clear (AndTree t rest) (c ∷ cells) lt l = (
    carried g from to E F a ends clear t c (All-head (λ s. s < g.cells) c cells lt) l.0,
    carried_each g from to E F a ends clear rest cells (All-tail (λ s. s < g.cells) c cells lt) l.1,
  )

-- to more ends in the same game
pub weaker : (g : Game) (E F : ℕ → Type 0) → IsGame g → ((s : ℕ) → s < g.cells → E s → F s) → (t : Tree) (c : ℕ) → c < g.cells → LeadsTo E g t c → LeadsTo F g t c
weaker g E F a ends t c lt l = carried g g.marks g.marks E F a ends (λ s ls clear. clear) t c lt l
