-- The rank of a row is less than the number of cells: each rank below it is that of another row.
use Rattle.std.proofs.Common.{◌≡◌, ◌≢◌, ◌⊎◌, inl, inr, ℕ, Bool, true, false, zero, suc, ◌<◌, ◌≤◌, eqb, List, [], ◌∷◌, length, Option, Some, All, refl, sym, ap, ◌∙◌, arith, rules}
use Rattle.std.specs.List.{AllPairs}
use Rattle.std.proofs.lemmas.Bool.{eqb-true, eqb-false}
use Rattle.std.proofs.lemmas.List.Elements.{All-head, All-tail, All-nil, All-cons, All-weaker}
use Rattle.std.proofs.lemmas.List.Kept.{AllPairs-cons}
use Rattle.game_core.specs.declared.game.Row.{Row}
use Rattle.game_core.specs.Game.{Game, IsGame, IsEnabled, successors_of}
use Rattle.game_core.specs.Strategy.{Apply, IsRank}
use Rattle.game_core.specs.Solution.{row_of, HasRowBelow, IsReachSolution}
use Rattle.game_core.proofs.Rows.{below_from_row}
use Rattle.game_core.proofs.Trees.{WinsWithin, trees_for}
use Rattle.game_core.proofs.Promises.{row_at, no_obstacle, leads_to_goals}
use Rattle.base.proofs.Times.{length_of_distinct_below}

-- a cell whose row has rank k
pub record HasRowOf (rows : List (Option Row)) (k c : ℕ) : Type 0 where
  pub input : ℕ
  pub is : row_of rows c ≡ Some (record { rank = k; input = input })

-- one of the cells has a row of rank k, or all have lesser ones
one_of : (rows : List (Option Row)) (k : ℕ) (cells : List ℕ) → All (HasRowBelow rows (suc k)) cells → ((s : ℕ) × HasRowOf rows k s) ⊎ All (HasRowBelow rows k) cells
one_of rows k [] h = inr (All-nil (HasRowBelow rows k))
one_of rows k (s ∷ cells) h =
    let here = All-head (HasRowBelow rows (suc k)) s cells h in
    by_rank here (one_of rows k cells (All-tail (HasRowBelow rows (suc k)) s cells h)) (eqb here.row.rank k) refl
  where
    by_rank : (here : HasRowBelow rows (suc k) s) → ((s : ℕ) × HasRowOf rows k s) ⊎ All (HasRowBelow rows k) cells → (b : Bool) → eqb here.row.rank k ≡ b → ((s : ℕ) × HasRowOf rows k s) ⊎ All (HasRowBelow rows k) (s ∷ cells)
    by_rank here more true e = inl (s, record { input = here.row.input; is = here.is ∙ ap (λ (r : ℕ). Some (record { rank = r; input = here.row.input })) (eqb-true here.row.rank k e) })
    by_rank here (inl found) false e = inl found
    by_rank here (inr rest) false e =
        let other = eqb-false here.row.rank k e in
        let below = here.below in
        inr (All-cons (HasRowBelow rows k) s cells (record { row = here.row; is = here.is; below = omega (arith, other, below) }) rest)

-- not all successors have lesser rows, or the row's rank wouldn't be the least
pub not_all_less : (g : Game) (rows : List (Option Row)) → IsReachSolution g rows → (c k u : ℕ) → IsRank g c (suc k) → IsEnabled g c u → All (HasRowBelow rows k) (successors_of g c u) → ⊥
not_all_less g rows h c zero u r enabled less = enabled.1 (none (successors_of g c u) less)
  where
    none : (cells : List ℕ) → All (HasRowBelow rows 0) cells → cells ≡ []
    none [] all = refl
    none (s ∷ cells) all = let here = All-head (HasRowBelow rows 0) s cells all in let below = here.below in absurd (omega (arith, below))
not_all_less g rows h c (suc k) u r enabled less =
    let each : All (WinsWithin g k) (successors_of g c u) =
    All-weaker (HasRowBelow rows (suc k)) (WinsWithin g k)
    (λ s b.
    let rank = (row_at g rows h s b.row b.is).0 in
    let below = b.below in
    let deep = rank.reached.2 in
    record { tree = rank.reached.0; wins = rank.reached.1; depth = omega (arith, below, deep) })
    (successors_of g c u) less in
    let trees = trees_for g k (successors_of g c u) each in
    let deep = trees.depth in
    let least = r.least (Apply u trees.trees) (no_obstacle g c r.reached.0 r.reached.1, enabled, trees.wins) in
    omega (arith, deep, least)

-- some cell has a row of the rank before
before : (g : Game) (rows : List (Option Row)) → IsGame g → IsReachSolution g rows → (c k : ℕ) → HasRowOf rows (suc k) c → (s : ℕ) × HasRowOf rows k s
before g rows a h c k row =
    let led = (leads_to_goals g rows a h).descends c k row.input row.is in
    elim (one_of rows k (successors_of g c row.input) led.1) [
      | inl found ↦ found
      | inr less ↦ absurd (not_all_less g rows h c k row.input (row_at g rows h c _ row.is).0 led.0 less)
    ]

-- cells with rows of all ranks from k down to 0
record IsChain (rows : List (Option Row)) (k : ℕ) (cells : List ℕ) : Type 0 where
  count : length cells ≡ suc k
  ranks : All (HasRowBelow rows (suc k)) cells
  apart : AllPairs (λ a b. a ≢ b) cells

pub below_of : (rows : List (Option Row)) (k c : ℕ) → HasRowOf rows k c → HasRowBelow rows (suc k) c
below_of rows k c row = record { row = record { rank = k; input = row.input }; is = row.is; below = omega arith }

pub differs : (rows : List (Option Row)) (k c d : ℕ) → HasRowOf rows k c → HasRowBelow rows k d → c ≢ d
differs rows k c d row other e =
    let same : Some (record { rank = k; input = row.input }) ≡ Some other.row = sym row.is ∙ ap (row_of rows) e ∙ other.is in
    let rank : k ≡ other.row.rank = rank_of (record { rank = k; input = row.input }) other.row same in
    let below = other.below in
    omega (arith, rank, below)
  where
    rank_of : (a b : Row) → Some a ≡ Some b → a.rank ≡ b.rank
    rank_of a b same = let e : a ≡ b = cc in ap (λ (r : Row). r.rank) e

chain : (g : Game) (rows : List (Option Row)) → IsGame g → IsReachSolution g rows → (k c : ℕ) → HasRowOf rows k c → (cells : List ℕ) × IsChain rows k cells
chain g rows a h zero c row = (
  c ∷ [],
  record {
    count = refl;
    ranks = All-cons (HasRowBelow rows 1) c [] (below_of rows 0 c row) (All-nil (HasRowBelow rows 1));
    apart = AllPairs-cons (λ a b. a ≢ b) c [] (All-nil (λ b. c ≢ b)) (search rules);
  },
)
chain g rows a h (suc k) c row =
    let next = before g rows a h c k row in
    let more = chain g rows a h k next.0 next.1 in
    let m = more.1 in (
      c ∷ more.0,
      record {
        count = ap suc m.count;
        ranks = All-cons (HasRowBelow rows (suc (suc k))) c more.0 (below_of rows (suc k) c row)
            (All-weaker (HasRowBelow rows (suc k)) (HasRowBelow rows (suc (suc k))) (λ s b. let below = b.below in record { row = b.row; is = b.is; below = omega (arith, below) }) more.0 m.ranks);
        apart = AllPairs-cons (λ a b. a ≢ b) c more.0 (All-weaker (HasRowBelow rows (suc k)) (λ b. c ≢ b) (λ s b. differs rows (suc k) c s row b) more.0 m.ranks) m.apart;
      },
    )

-- the rank of a row is less than the number of cells
pub rank_below : (g : Game) (rows : List (Option Row)) → IsGame g → IsReachSolution g rows → (c : ℕ) (row : Row) → row_of rows c ≡ Some row → row.rank < g.cells
rank_below g rows a h c row e =
    let found = chain g rows a h row.rank c (record { input = row.input; is = e }) in
    let cells = found.0 in
    let within : All (λ s. s < g.cells) cells =
    All-weaker (HasRowBelow rows (suc row.rank)) (λ s. s < g.cells) (λ s b. let lt = below_from_row rows s b.row b.is in let n = h.one_each in omega (arith, lt, n)) cells found.1.ranks in
    let few : length cells ≤ g.cells =
    length_of_distinct_below g.cells cells found.1.apart within in
    let count = found.1.count in
    omega (arith, few, count)
