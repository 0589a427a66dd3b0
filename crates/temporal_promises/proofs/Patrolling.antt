-- What the rows of the solution of patrol promise in their game; and its text visits the targets in turn, by
-- induction on the noises.
use Rattle.std.proofs.Common.{inl, inr, ◌≡◌, ◌⊎◌, ℕ, zero, suc, ◌<◌, ◌≤◌, List, [], ◌∷◌, length, Option, Some, None, Contains, refl, ap, subst, arith, ◌-◌}
use Rattle.game_core.specs.declared.game.Row.{Row}
use Rattle.game_core.specs.Game.{Game, IsGame, successors_of}
use Rattle.game_core.specs.Strategy.{Tree, Leaf, Apply, Trees, NoTrees, AndTree, LeadsTo, LeadEachTo, depth_of, greatest_depth}
use Rattle.game_core.specs.Solution.{row_of, HasRow, HasRowBelow}
use Rattle.game_core.proofs.Rows.{below_from_row}
use Rattle.turn_rows.specs.Rows.{rows_for}
use Rattle.turn_rows.specs.Targets.{next_turn, IsInTarget}
use Rattle.turn_rows.proofs.NextTurns.{next_below}
use Rattle.temporal_games.specs.Visits.{VisitsOn, IsArrival}
use Rattle.temporal_games.specs.Patrol.{IsReachedLaterBy, IsPatrolRow, IsPatrol}
use Rattle.temporal_games.proofs.PatrolRowLaws.{later_reachers_have_rows, targets_are_told}
use Rattle.std.specs.Prelude.{ℤ}
use Rattle.std.specs.List.{AllByRecursion}
use Rattle.std.proofs.lemmas.List.Elements.{recursion_from_All}
use Rattle.grid_quantiser.specs.Cells.{IsInDomain, cell_of}
use Rattle.plant_record.specs.Description.{Description, axes_of}
use Rattle.plant_record.specs.States.{IsClear}
use Rattle.plant_record.specs.Steps.{step_of, IsNoise}
use Rattle.plant_game.specs.Abstraction.{IsGameOf}
use Rattle.plant_game.specs.Refinement.{IsRefinement}
use Rattle.controller_table.specs.declared.text_kind.TextKind.TheVariants.{Patrol}
use Rattle.controller_table.specs.Choice.{HasRowAt}
use Rattle.controller_table.proofs.RowsAtStates.{in_cell, row_stands}
use Rattle.controller_table.proofs.TextRows.{turn_of_row, row_told}
use Rattle.temporal_texts.specs.PatrolText.{IsPatrolText, HasPatrolRow, IsArrivalIn}
use Rattle.plant_game.proofs.GameLaws.{refines, clear_at, lands}
use Rattle.temporal_texts.specs.Patrols.{LandsWell, Goes, Patrols}

-- the subtree for one of the cells
tree_at : (g : Game) (End : ℕ → Type 0) (next : Trees) (cells : List ℕ) (s : ℕ) → LeadEachTo End g next cells → Contains cells s → (t : Tree) × LeadsTo End g t s × (depth_of t ≤ greatest_depth next)
tree_at g End NoTrees cells s l (k, lt, e) = absurd (let none : length cells ≡ 0 = ap (λ (xs : List ℕ). length xs) l in omega (arith, none, lt))
tree_at g End (AndTree t rest) [] s l has = absurd l
tree_at g End (AndTree t rest) (c ∷ cells) s l (zero, lt, e) = (t, subst (LeadsTo End g t) e l.0, omega arith)
tree_at g End (AndTree t rest) (c ∷ cells) s l (suc k, lt, e) =
    let found = tree_at g End rest cells s l.1 (k, omega (arith, lt), e) in
    let deep = found.2 in
    (found.0, found.1, omega (arith, deep))

module _ {g : Game} {In : ℕ → ℕ → Type 0} {turns : ℕ} {rows : List (List (Option Row))} (solution : IsPatrol g In turns rows) (j : ℕ) (lj : j < turns) where
  -- where the visits can go on from a cell it has a row
  row_at : (i c : ℕ) → i < turns → c < g.cells → VisitsOn g In turns i c → HasRow (rows_for rows i) c
  row_at i c li lt on = by_row (row_of (rows_for rows i) c) refl (solution.each i c li lt)
    where
      by_row : (o : Option Row) → row_of (rows_for rows i) c ≡ o → IsPatrolRow g In turns i c o → HasRow (rows_for rows i) c
      by_row None e none = absurd (none on)
      by_row (Some row) e is = (row, e)

  module _ (c : ℕ) (row : Row) (is : row_of (rows_for rows j) c ≡ Some row) where
    pub cell_below : c < g.cells
    cell_below = omega (arith, below_from_row (rows_for rows j) c row is, solution.one_row_each j lj)

    pub reached_by : IsReachedLaterBy (IsArrival g In turns j) g c row
    reached_by = (subst (IsPatrolRow g In turns j c) is (solution.each j c lj cell_below)).1

    pub some_rank : 1 ≤ row.rank
    some_rank = let deep = reached_by.reached.2 in omega (arith, deep)

    -- each cell after its input has a row of a lower rank, or lies in the target and has a row for the next turn
    pub leads_on : IsGame g → (d : ℕ) → d < g.cells → Contains (successors_of g c row.input) d → HasRowBelow (rows_for rows j) row.rank d ⊎ (In j d × HasRow (rows_for rows (next_turn turns j)) d)
    leads_on game d lt among = from_tree sub.0 sub.1 low
      where
        sub : (t : Tree) × LeadsTo (IsArrival g In turns j) g t d × (depth_of t ≤ greatest_depth reached_by.reached.0)
        sub = tree_at g (IsArrival g In turns j) reached_by.reached.0 (successors_of g c row.input) d reached_by.reached.1.2 among

        low : suc (depth_of sub.0) ≤ row.rank
        low = let deep = reached_by.reached.2 in let le = sub.2 in omega (arith, deep, le)

        from_tree : (t : Tree) → LeadsTo (IsArrival g In turns j) g t d → suc (depth_of t) ≤ row.rank → HasRowBelow (rows_for rows j) row.rank d ⊎ (In j d × HasRow (rows_for rows (next_turn turns j)) d)
        from_tree Leaf l deep = inr (l.0, row_at (next_turn turns j) d (next_below turns j lj) lt l.1)
        from_tree (Apply v next) l deep =
            let there = later_reachers_have_rows g In turns rows game solution j d v next lj lt l in
            let below = there.below in
            inl (record { row = there.row; is = there.is; below = omega (arith, below, deep) })

record Keeps (bytes : List ℕ) (p : Description) (g : Game) (rows : List (List (Option Row))) : Type 0 where
  table : IsPatrolText bytes p rows
  abstraction : IsGameOf p g
  refined : IsRefinement p g
  solution : IsPatrol g (IsInTarget p) (length p.targets) rows

module _ {bytes : List ℕ} {p : Description} {g : Game} {rows : List (List (Option Row))} (k : Keeps bytes p g rows) where
  abbrev turns : ℕ
  turns = length p.targets

  has_row : (j : ℕ) (x : List ℤ) (row : Row) → IsInDomain (axes_of p) x → row_of (rows_for rows j) (cell_of (axes_of p) x) ≡ Some row → HasPatrolRow bytes j x row
  has_row j x row inside is = record { plant = p; turns = rows; text = k.table; has = row_stands p (rows_for rows j) x row inside is }

  row_from : (j : ℕ) (x : List ℤ) (row : Row) → HasPatrolRow bytes j x row → HasRowAt p (rows_for rows j) x row
  row_from j x row has = (row_told Patrol bytes p rows k.table j x row has).1

  -- a state is an arrival or it is none
  arrival : (j : ℕ) (y : List ℤ) → j < turns → IsInDomain (axes_of p) y → cell_of (axes_of p) y < g.cells
      → ((row : Row) × IsArrivalIn bytes p j y row × (row_of (rows_for rows (next_turn turns j)) (cell_of (axes_of p) y) ≡ Some row)) ⊎ ((row : Row) → IsArrivalIn bytes p j y row → ⊥)
  arrival j y lj inside lt =
      elim (targets_are_told p g k.table.limits.plant k.abstraction j (cell_of (axes_of p) y) lj lt) [
        | inr out ↦ inr (λ row is. out is.target)
        | inl target ↦ by_row target (row_of (rows_for rows (next_turn turns j)) (cell_of (axes_of p) y)) refl
      ]
    where
      by_row : IsInTarget p j (cell_of (axes_of p) y) → (o : Option Row) → row_of (rows_for rows (next_turn turns j)) (cell_of (axes_of p) y) ≡ o
          → ((row : Row) × IsArrivalIn bytes p j y row × (row_of (rows_for rows (next_turn turns j)) (cell_of (axes_of p) y) ≡ Some row)) ⊎ ((row : Row) → IsArrivalIn bytes p j y row → ⊥)
      by_row target None e = inr (λ row is. let f = (in_cell p (rows_for rows (next_turn turns j)) y row (row_from (next_turn turns j) y row is.next)).1 in cc)
      by_row target (Some row) e = inl (row, record { target = target; next = has_row (next_turn turns j) y row inside e }, e)

  clear_of : (j : ℕ) (x : List ℤ) (row : Row) → j < turns → IsInDomain (axes_of p) x → row_of (rows_for rows j) (cell_of (axes_of p) x) ≡ Some row → IsClear p x
  clear_of j x row lj inside is = clear_at p g k.abstraction k.refined x inside (cell_below k.solution j lj (cell_of (axes_of p) x) row is) (reached_by k.solution j lj (cell_of (axes_of p) x) row is).reached.1.0

  goes : (ws : List (List ℤ)) (j : ℕ) (x : List ℤ) (row : Row) (n : ℕ) → j < turns → IsInDomain (axes_of p) x → row_of (rows_for rows j) (cell_of (axes_of p) x) ≡ Some row → row.rank ≤ n → AllByRecursion (IsNoise p.noises) ws → Goes p bytes j x n ws
  goes [] j x row n lj inside is le noises = (clear_of j x row lj inside is, (row, has_row j x row inside is, le))
  goes (w ∷ ws) j x row n lj inside is le noises = (clear_of j x row lj inside is, (row, has_row j x row inside is, le, well (λ i r m li there e low'. goes ws i (step_of p x row.input w) r m li there e low' noises.1)))
    where
      c : ℕ
      c = cell_of (axes_of p) x

      y : List ℤ
      y = step_of p x row.input w

      s : ℕ
      s = cell_of (axes_of p) y

      landed : IsInDomain (axes_of p) y × Contains (successors_of g c row.input) s × (s < g.cells)
      landed = lands p g k.abstraction k.refined x w row.input inside (cell_below k.solution j lj c row is) (reached_by k.solution j lj c row is).reached.1.1 noises.0

      well : ((i : ℕ) (r : Row) (m : ℕ) → i < turns → IsInDomain (axes_of p) y → row_of (rows_for rows i) s ≡ Some r → r.rank ≤ m → Goes p bytes i y m ws) → LandsWell p bytes j y n (λ i m. Goes p bytes i y m ws)
      well goes_on =
          elim (arrival j y lj landed.0 landed.2) [
            | inl found ↦ inl (found.0, found.1, found.1.target.2 y (landed.0, refl), goes_on (next_turn turns j) found.0 found.0.rank (next_below turns j lj) landed.0 found.2 (omega arith))
            | inr out ↦ elim (leads_on k.solution j lj c row is k.abstraction.game s landed.2 landed.1) [
              | inl lower ↦
                  let less = lower.below in
                  let some = some_rank k.solution j lj s lower.row lower.is in
                  inr (out, omega (arith, less, some, le), goes_on j lower.row (n - 1) lj landed.0 lower.is (omega (arith, less, le)))
              | inr there ↦ absurd (out there.1.0 (record { target = there.0; next = has_row (next_turn turns j) y there.1.0 landed.0 there.1.1 }))
            ]
          ]

-- and patrols the targets
pub patrol_text_patrols : (bytes : List ℕ) (p : Description) (g : Game) (rows : List (List (Option Row))) → IsPatrolText bytes p rows → IsGameOf p g → IsPatrol g (IsInTarget p) (length p.targets) rows → Patrols p bytes
patrol_text_patrols bytes p g rows table abstraction solution j x row ws has noises =
    let k : Keeps bytes p g rows = record {
      table = table;
      abstraction = abstraction;
      refined = refines p g table.limits.plant abstraction;
      solution = solution;
    } in
    let row_at = row_from k j x row has in
    let at = in_cell p (rows_for rows j) x row row_at in
    goes k ws j x row row.rank (turn_of_row Patrol bytes p rows table j x row row_at) at.0 at.1 (omega arith) (recursion_from_All (IsNoise p.noises) ws noises)
