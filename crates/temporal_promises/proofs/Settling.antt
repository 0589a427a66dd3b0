-- What the rows of the solution of reach and stay promise in their game; and its text settles its plant, by
-- induction on the noises.
use Rattle.std.proofs.Common.{◌≡◌, ◌≢◌, ℕ, ◌-◌, ◌<◌, ◌≤◌, List, Option, Some, None, Contains, refl, subst, arith, [], ◌∷◌}
use Rattle.std.proofs.lemmas.List.Elements.{All-contains, recursion_from_All}
use Rattle.game_core.specs.declared.game.Row.{Row}
use Rattle.game_core.specs.declared.game.Mark.TheVariants.{Goal, Obstacle}
use Rattle.game_core.specs.Game.{Game, mark_of, successors_of}
use Rattle.game_core.specs.Strategy.{Tree, Leaf, Apply, LeadsTo, depth_of, IsRankTo}
use Rattle.game_core.specs.Solution.{row_of}
use Rattle.game_core.proofs.Rows.{below_cells}
use Rattle.temporal_games.specs.Held.{IsHeld}
use Rattle.temporal_games.specs.Stay.{IsStayedBy, IsStayRow, IsStaySolution}
use Rattle.std.specs.Prelude.{ℤ}
use Rattle.std.specs.List.{AllByRecursion}
use Rattle.grid_quantiser.specs.Cells.{IsInDomain, cell_of}
use Rattle.plant_record.specs.Description.{Description, axes_of}
use Rattle.plant_record.specs.Steps.{step_of, IsNoise}
use Rattle.plant_game.specs.Abstraction.{IsGameOf}
use Rattle.plant_game.specs.Refinement.{IsRefinement}
use Rattle.controller_table.specs.declared.text_kind.TextKind.TheVariants.{Stay}
use Rattle.controller_table.proofs.RowsAtStates.{in_cell, row_stands}
use Rattle.controller_table.proofs.TextRows.{row_told}
use Rattle.temporal_texts.specs.StayText.{IsStayText, HasStayRow}
use Rattle.temporal_texts.specs.Settles.{IsUnderWay, Holds, Settles}
use Rattle.plant_game.proofs.GameLaws.{refines, clear_at, in_target, lands}

clear_from : (g : Game) (c : ℕ) (t : Tree) → LeadsTo (IsHeld g) g t c → mark_of g c ≢ Obstacle
clear_from g c Leaf l e = let goal : mark_of g c ≡ Goal = l 0 in cc
clear_from g c (Apply u next) l e = l.0 e

goal_from : (g : Game) (c : ℕ) (t : Tree) → LeadsTo (IsHeld g) g t c → depth_of t ≡ 0 → mark_of g c ≡ Goal
goal_from g c Leaf l e = l 0
goal_from g c (Apply u next) l e = absurd (omega arith)

module _ {g : Game} {rows : List (Option Row)} (solution : IsStaySolution g rows) where
  -- a cell of a rank has a row of this rank
  ranked : (c n : ℕ) → c < g.cells → IsRankTo (IsHeld g) g c n → (row : Row) × (row_of rows c ≡ Some row) × (row.rank ≡ n)
  ranked c n lt rank = by_row (row_of rows c) refl (solution.each c lt)
    where
      by_row : (o : Option Row) → row_of rows c ≡ o → IsStayRow g c o → (row : Row) × (row_of rows c ≡ Some row) × (row.rank ≡ n)
      by_row None e none = absurd (none rank.reached.0 rank.reached.1)
      by_row (Some row) e is =
          let le = is.rank.least rank.reached.0 rank.reached.1 in
          let ge = rank.least is.rank.reached.0 is.rank.reached.1 in
          let deep = is.rank.reached.2 in
          let as_deep = rank.reached.2 in
          (row, e, omega (arith, le, ge, deep, as_deep))

  module _ (c : ℕ) (row : Row) (is : row_of rows c ≡ Some row) where
    pub cell_below : c < g.cells
    cell_below = below_cells rows g.cells c row solution.one_each is

    pub stayed : IsStayedBy g c row
    stayed = subst (IsStayRow g c) is (solution.each c cell_below)

    pub clear_of : mark_of g c ≢ Obstacle
    clear_of = let tree = stayed.rank.reached in clear_from g c tree.0 tree.1

    pub goal_of : row.rank ≡ 0 → mark_of g c ≡ Goal
    goal_of none = let tree = stayed.rank.reached in let deep = tree.2 in goal_from g c tree.0 tree.1 (omega (arith, deep, none))

    -- each cell after its input has a row of a lower rank, or of rank 0
    pub leads_lower : (d : ℕ) → d < g.cells → Contains (successors_of g c row.input) d → (next : Row) × (row_of rows d ≡ Some next) × (next.rank ≤ row.rank - 1)
    leads_lower d lt among =
        let low = All-contains (λ s. (rank : ℕ) × (rank ≤ row.rank - 1) × IsRankTo (IsHeld g) g s rank) (successors_of g c row.input) d stayed.leads.1 among in
        let next = ranked d low.0 lt low.2 in
        let le = low.1 in
        let same = next.2 in
        (next.0, next.1, omega (arith, le, same))

-- the rows of a text and what they keep
record Keeps (bytes : List ℕ) (p : Description) (g : Game) (rows : List (Option Row)) : Type 0 where
  table : IsStayText bytes p rows
  abstraction : IsGameOf p g
  refined : IsRefinement p g
  solution : IsStaySolution g rows

module _ {bytes : List ℕ} {p : Description} {g : Game} {rows : List (Option Row)} (k : Keeps bytes p g rows) where
  has_row : (x : List ℤ) (row : Row) → IsInDomain (axes_of p) x → row_of rows (cell_of (axes_of p) x) ≡ Some row → HasStayRow bytes x row
  has_row x row inside is = record { plant = p; turns = rows ∷ []; text = k.table; has = row_stands p rows x row inside is }

  here : (x : List ℤ) (row : Row) (n : ℕ) → IsInDomain (axes_of p) x → row_of rows (cell_of (axes_of p) x) ≡ Some row → row.rank ≤ n → IsUnderWay p bytes x n
  here x row n inside is le =
      let c : ℕ = cell_of (axes_of p) x in
      let lt = cell_below k.solution c row is in (
        clear_at p g k.abstraction k.refined x inside lt (clear_of k.solution c row is),
        (row, has_row x row inside is),
        λ none. in_target p g k.abstraction k.refined x inside lt (goal_of k.solution c row is (omega (arith, le, none))),
      )

  holds : (ws : List (List ℤ)) (x : List ℤ) (row : Row) (n : ℕ) → IsInDomain (axes_of p) x → row_of rows (cell_of (axes_of p) x) ≡ Some row → row.rank ≤ n → AllByRecursion (IsNoise p.noises) ws → Holds p bytes x n ws
  holds [] x row n inside is le noises = here x row n inside is le
  holds (w ∷ ws) x row n inside is le noises =
      let c : ℕ = cell_of (axes_of p) x in
      let y : List ℤ = step_of p x row.input w in
      let next = lands p g k.abstraction k.refined x w row.input inside (cell_below k.solution c row is) (stayed k.solution c row is).leads.0 noises.0 in
      let there = leads_lower k.solution c row is (cell_of (axes_of p) y) next.2 next.1 in
      let low = there.2 in (
        here x row n inside is le,
        (row, has_row x row inside is, holds ws y there.0 (n - 1) next.0 there.1 (omega (arith, low, le)) noises.1),
      )

-- and settles the plant
pub stay_text_settles : (bytes : List ℕ) (p : Description) (g : Game) (rows : List (Option Row)) → IsStayText bytes p rows → IsGameOf p g → IsStaySolution g rows → Settles p bytes
stay_text_settles bytes p g rows table abstraction solution x row ws has noises =
    let at = in_cell p rows x row (row_told Stay bytes p (rows ∷ []) table 0 x row has).1 in
    holds (record { table = table; abstraction = abstraction; refined = refines p g table.limits.plant abstraction; solution = solution }) ws x row row.rank at.0 at.1 (omega arith) (recursion_from_All (IsNoise p.noises) ws noises)
