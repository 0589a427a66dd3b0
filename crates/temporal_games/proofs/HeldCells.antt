-- A cell is held exactly where it is kept once all but goals are obstacles.
use Rattle.std.proofs.Common.{◌≡◌, ◌≢◌, ℕ, zero, suc, ◌<◌, get_or, All, arith, refl, sym, ◌∙◌, ap}
use Rattle.std.proofs.lemmas.List.FromFn.{get_or-map-range_with_len}
use Rattle.game_core.specs.declared.game.Mark.{Mark}
use Rattle.game_core.specs.declared.game.Mark.TheVariants.{Goal, Obstacle, Plain}
use Rattle.game_core.specs.Game.{Game, IsGame, mark_of, pair_of, successors_of}
use Rattle.game_core.specs.Strategy.{Leaf, Apply}
use Rattle.game_core.specs.Keep.{HasKeepTree, IsKept}
use Rattle.game_core.proofs.Keep.{keep_trees_for, each_has_tree}
use Rattle.game_core.proofs.Rows.{successors_below}
use Rattle.temporal_games.specs.Held.{KeepsToGoalsFor, IsHeld}
use Rattle.temporal_games.specs.inside.StayMarks.{hold_mark, goals_alone}

goal_if_clear : (m : Mark) → hold_mark m ≢ Obstacle → m ≡ Goal
goal_if_clear Goal clear = refl
goal_if_clear Obstacle clear = absurd (clear refl)
goal_if_clear Plain clear = absurd (clear refl)

module _ (g : Game) (a : IsGame g) where
  mark_alone : (c : ℕ) → c < g.cells → mark_of (goals_alone g) c ≡ hold_mark (mark_of g c)
  mark_alone c lt = get_or-map-range_with_len (λ c. hold_mark (mark_of g c)) 0 g.cells c c Plain lt (omega arith)

  clear_is_goal : (c : ℕ) → c < g.cells → mark_of (goals_alone g) c ≢ Obstacle → mark_of g c ≡ Goal
  clear_is_goal c lt clear = goal_if_clear (mark_of g c) (λ o. clear (mark_alone c lt ∙ o))

  goal_is_clear : (c : ℕ) → c < g.cells → mark_of g c ≡ Goal → mark_of (goals_alone g) c ≢ Obstacle
  goal_is_clear c lt m o = let e : Plain ≡ Obstacle = sym (ap hold_mark m) ∙ sym (mark_alone c lt) ∙ o in cc

  holds_if_keeps : (d c : ℕ) → c < g.cells → HasKeepTree (goals_alone g) d c → KeepsToGoalsFor g d c
  holds_if_keeps zero c lt (Leaf, s) = clear_is_goal c lt s
  holds_if_keeps zero c lt (Apply u next, s) = absurd s
  holds_if_keeps (suc d) c lt (Leaf, s) = absurd s
  holds_if_keeps (suc d) c lt (Apply u next, s) =
      let each = each_has_tree (goals_alone g) d next (successors_of g c u) s.2 in (
        clear_is_goal c lt s.0,
        (u, s.1, λ i e li. holds_if_keeps d (get_or (successors_of g c u) i e) (successors_below g a (pair_of g c u) i e li) (each i e li)),
      )

  keeps_if_holds : (d c : ℕ) → c < g.cells → KeepsToGoalsFor g d c → HasKeepTree (goals_alone g) d c
  keeps_if_holds zero c lt h = (Leaf, goal_is_clear c lt h)
  keeps_if_holds (suc d) c lt h =
      let u = h.1.0 in
      let each : All (HasKeepTree (goals_alone g) d) (successors_of g c u) =
      λ i e li. keeps_if_holds d (get_or (successors_of g c u) i e) (successors_below g a (pair_of g c u) i e li) (h.1.2 i e li) in
      let trees = keep_trees_for (goals_alone g) d (successors_of g c u) each in
      (Apply u trees.0, (goal_is_clear c lt h.0, h.1.1, trees.1))

  pub held_if_kept : (c : ℕ) → c < g.cells → IsKept (goals_alone g) c → IsHeld g c
  held_if_kept c lt kept = λ d. holds_if_keeps d c lt (kept d)

  pub kept_if_held : (c : ℕ) → c < g.cells → IsHeld g c → IsKept (goals_alone g) c
  kept_if_held c lt held = λ d. keeps_if_holds d c lt (held d)
