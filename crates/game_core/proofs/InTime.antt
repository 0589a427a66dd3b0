-- Each cell of a keep game is kept, or has fallen by a round below the number of cells: a round in which no cell
-- falls is the last one.
use Rattle.std.proofs.Common.{inl, inr, ◌≡◌, ◌≢◌, ◌⊎◌, ℕ, zero, suc, ◌<◌, ◌≤◌, Bool, true, false, ◌||◌, ◌==◌, length, get_or, All, count_by, arith, refl, sym, ◌∙◌, ap, eq-eqb}
use Rattle.std.specs.List.{list_any, range_with_len}
use Rattle.std.proofs.lemmas.Bool.{cases_lt, or_parts}
use Rattle.std.proofs.lemmas.List.FromFn.{length-range_with_len, get_or-range_with_len}
use Rattle.game_core.specs.declared.game.Mark.{Mark}
use Rattle.game_core.specs.declared.game.Mark.TheVariants.{Goal, Obstacle, Plain}
use Rattle.game_core.specs.Game.{Game, IsGame, IsEnabled, mark_of, pair_of, successors_of}
use Rattle.game_core.specs.Keep.{HasKeepTree, IsKept}
use Rattle.game_core.specs.Fallen.{is_obstacle, is_useless, is_helpless, has_fallen, KeptOrFallsInTime, DeepKeepTreesKeep}
use Rattle.base.proofs.Counts.{none_of, not_every, alike_from_counts, below_end, count_every, none_from_count}
use Rattle.game_core.proofs.Keep.{IsClosed, closed_is_kept, less_deep, no_keep_tree}
use Rattle.game_core.proofs.Rows.{successors_below}

-- an input of a cell that isn't helpless leads to cells alone that don't pass the test
helpful : (g : Game) (test : ℕ → Bool) (c : ℕ) → is_helpless g test c ≡ false → (u : ℕ) × IsEnabled g c u × All (λ s. test s ≡ false) (successors_of g c u)
helpful g test c e =
    let found = not_every (is_useless g test c) (range_with_len 0 g.inputs) e in
    let u = found.1 in
    let len = length-range_with_len 0 g.inputs in
    let at = get_or-range_with_len 0 g.inputs found.0 u (let lt = found.2 in omega arith) in
    let useful = or_parts (length (successors_of g c u) == 0) (list_any test (successors_of g c u)) found.4 in
    (u, (omega arith, λ none. let z : (length (successors_of g c u) == 0) ≡ true = eq-eqb (length (successors_of g c u)) 0 (ap length none) in let f = useful.0 in cc), none_of test (successors_of g c u) useful.1)

no_obstacle_if : (m : Mark) → is_obstacle m ≡ false → m ≢ Obstacle
no_obstacle_if Goal f e = cc
no_obstacle_if Obstacle f e = cc
no_obstacle_if Plain f e = cc

no_obstacle_stands : (g : Game) (d c : ℕ) → has_fallen g d c ≡ false → mark_of g c ≢ Obstacle
no_obstacle_stands g zero c f = no_obstacle_if (mark_of g c) (or_parts (is_obstacle (mark_of g c)) (is_helpless g (λ s. false) c) f).0
no_obstacle_stands g (suc d) c f = no_obstacle_stands g d c (or_parts (has_fallen g d c) (is_helpless g (has_fallen g d) c) f).0

-- a cell still stands after round d
abbrev Stands : Game → ℕ → ℕ → Type 0
Stands g d c = has_fallen g d c ≡ false

abbrev fallen_by : Game → ℕ → ℕ
fallen_by g d = count_by (has_fallen g d) (range_with_len 0 g.cells)

fallen_once : (a b : Bool) → a ≡ true → (a || b) ≡ true
fallen_once true b e = refl
fallen_once false b e = absurd (cc)

-- after a round in which no cell falls, those that stand are a closed set
next_round : (g : Game) (d : ℕ) → IsClosed g (Stands g d) ⊎ (fallen_by g d < fallen_by g (suc d))
next_round g d =
    elim (cases_lt (fallen_by g d) (fallen_by g (suc d))) [
      | inl lt ↦ inr lt
      | inr ge ↦
          let alike = alike_from_counts (has_fallen g d) (has_fallen g (suc d)) (λ c. fallen_once (has_fallen g d c) (is_helpless g (has_fallen g d) c)) (range_with_len 0 g.cells) ge in
          inl (λ c lt stands.
          let same = below_end (λ c. has_fallen g d c ≡ has_fallen g (suc d) c) g.cells c lt alike in
          let still = or_parts (has_fallen g d c) (is_helpless g (has_fallen g d) c) (sym same ∙ stands) in
          (no_obstacle_stands g d c stands, helpful g (has_fallen g d) c still.1))
    ]

first_round : (g : Game) → IsGame g → IsClosed g (Stands g 0) ⊎ (0 < fallen_by g 0)
first_round g a =
    elim (cases_lt 0 (fallen_by g 0)) [
      | inl lt ↦ inr lt
      | inr ge ↦
          let none = none_from_count (has_fallen g 0) (range_with_len 0 g.cells) (omega arith) in
          inl (λ c lt stands.
          let input = helpful g (λ s. false) c (or_parts (is_obstacle (mark_of g c)) (is_helpless g (λ s. false) c) stands).1 in
          (no_obstacle_stands g 0 c stands, (input.0, input.1, λ i d li. below_end (Stands g 0) g.cells (get_or (successors_of g c input.0) i d) (successors_below g a (pair_of g c input.0) i d li) none)))
    ]

rounds : (g : Game) → IsGame g → (n : ℕ) → ((d : ℕ) × (d ≤ n) × IsClosed g (Stands g d)) ⊎ (n < fallen_by g n)
rounds g a zero =
    elim (first_round g a) [
      | inl closed ↦ inl (0, omega arith, closed)
      | inr lt ↦ inr lt
    ]
rounds g a (suc n) =
    elim (rounds g a n) [
      | inl (d, le, closed) ↦ inl (d, omega arith, closed)
      | inr lt ↦
          elim (next_round g n) [
            | inl closed ↦ inl (n, omega arith, closed)
            | inr more ↦ inr (omega arith)
          ]
    ]

pub kept_or_falls_in_time : KeptOrFallsInTime
kept_or_falls_in_time g a c lt = by_cells g.cells refl
  where
    fell : (d : ℕ) → d < g.cells → has_fallen g d c ≡ true → IsKept g c ⊎ ((d : ℕ) × (d ≤ g.cells) × (HasKeepTree g d c → ⊥))
    fell d le e = inr (suc d, omega arith, no_keep_tree g d c e)

    by_test : (d : ℕ) → d < g.cells → IsClosed g (Stands g d) → (b : Bool) → has_fallen g d c ≡ b → IsKept g c ⊎ ((d : ℕ) × (d ≤ g.cells) × (HasKeepTree g d c → ⊥))
    by_test d le closed true e = fell d le e
    by_test d le closed false e = inl (closed_is_kept g a (Stands g d) closed c lt e)

    by_cells : (n : ℕ) → g.cells ≡ n → IsKept g c ⊎ ((d : ℕ) × (d ≤ g.cells) × (HasKeepTree g d c → ⊥))
    by_cells zero e = absurd (omega arith)
    by_cells (suc n) e =
        elim (rounds g a n) [
          | inl (d, le, closed) ↦ by_test d (omega arith) closed (has_fallen g d c) refl
          | inr many ↦
              let all = count_every (range_with_len 0 g.cells) in
              let len = length-range_with_len 0 g.cells in
              let alike = alike_from_counts (has_fallen g n) (λ c. true) (λ c e. refl) (range_with_len 0 g.cells) (omega arith) in
              fell n (omega arith) (below_end (λ c. has_fallen g n c ≡ true) g.cells c lt alike)
        ]

-- the keep tree of a cell that isn't kept could be cut to a depth at which there is none
pub deep_keep_trees_keep : DeepKeepTreesKeep
deep_keep_trees_keep g a c n lt deep tree =
    elim (kept_or_falls_in_time g a c lt) [
      | inl kept ↦ kept
      | inr (d, le, none) ↦ absurd (none (less_deep g d n c (omega arith) tree))
    ]
