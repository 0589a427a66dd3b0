-- A plant has one number of edges, since each pair has one list of successors.
use Rattle.std.proofs.Common.{◌≡◌, ℕ, zero, suc, ◌+◌, ◌*◌, ◌/◌, ◌%◌, ◌<◌, ◌≤◌, List, [], ◌∷◌, length, get_or, Contains, arith, refl, sym, ap, ap₂, subst, ◌∙◌}
use Rattle.std.specs.Prelude.{sum_by, slice_index_or, AllPairs}
use Rattle.std.proofs.lemmas.List.Kept.{AllPairs-from_increasing}
use Rattle.std.proofs.lemmas.List.{ext_get_or}
use Rattle.grid_quantiser.specs.CellBoxes.{AreCellsMeeting}
use Rattle.plant_record.specs.Description.{Description, axes_of, vectors_of}
use Rattle.plant_record.specs.Soundness.{IsSound}
use Rattle.grid_quantiser.specs.Axes.{cells_of}
use Rattle.game_core.specs.Game.{Game}
use Rattle.successor_box.specs.SuccessorBoxes.{IsEnabledAt, AreSuccessors, low_corner, high_corner}
use Rattle.successor_box.proofs.Enabled.{enabled_exactly}
use Rattle.plant_record.proofs.lemmas.SoundPlants as plants
use Rattle.plant_game.specs.Abstraction.{IsGameOf}
use Rattle.pair_box.specs.PlantBoxes.{pairs_of_plant, pair_of_plant}
use Rattle.plant_game.specs.Laws.{OneEdgeCount, GamesCountTheirEdges}
use Rattle.plant_game.proofs.GameLaws.{pair_split}

-- ---- rising lists

abbrev Rises : List ℕ → Type 0
Rises xs = AllPairs (λ x y. x < y) xs

rising_tail : (x : ℕ) (xs : List ℕ) → Rises (x ∷ xs) → Rises xs
rising_tail x xs rising = λ i j d lt below. rising (suc i) (suc j) d (omega (arith, lt)) (omega (arith, below))

least_first : (x c : ℕ) (xs : List ℕ) → Rises (x ∷ xs) → Contains xs c → x < c
least_first x c xs rising h = omega (arith, rising 0 (suc h.0) c (omega arith) (omega (arith, h.1)), h.2)

above_first : (x c : ℕ) (xs : List ℕ) → Rises (x ∷ xs) → Contains (x ∷ xs) c → x ≤ c
above_first x c xs rising (zero, lt, e) = omega (arith, e)
above_first x c xs rising (suc k, lt, e) = omega (arith, least_first x c xs rising (k, omega (arith, lt), e))

in_tail : (x c : ℕ) (xs : List ℕ) → x < c → Contains (x ∷ xs) c → Contains xs c
in_tail x c xs lt (zero, below, e) = absurd (omega (arith, lt, e))
in_tail x c xs lt (suc k, below, e) = (k, omega (arith, below), e)

same_rising : (xs ys : List ℕ) → Rises xs → Rises ys → ((c : ℕ) → Contains xs c → Contains ys c) → ((c : ℕ) → Contains ys c → Contains xs c) → xs ≡ ys
same_rising [] [] hx hy to from = refl
same_rising [] (y ∷ ys) hx hy to from = absurd (omega (arith, (from y (0, omega arith, refl)).1))
same_rising (x ∷ xs) [] hx hy to from = absurd (omega (arith, (to x (0, omega arith, refl)).1))
same_rising (x ∷ xs) (y ∷ ys) hx hy to from =
    let head : x ≡ y = omega (arith, above_first y x ys hy (to x (0, omega arith, refl)), above_first x y xs hx (from y (0, omega arith, refl))) in
    ap₂ (λ (z : ℕ) (zs : List ℕ). z ∷ zs) head (same_rising xs ys (rising_tail x xs hx) (rising_tail y ys hy)
    (λ c h. in_tail y c ys (omega (arith, least_first x c xs hx h, head)) (to c (suc h.0, omega (arith, h.1), h.2)))
    (λ c h. in_tail x c xs (omega (arith, least_first y c ys hy h, head)) (from c (suc h.0, omega (arith, h.1), h.2))))

-- ---- one list for each pair

module _ (p : Description) (sound : IsSound p) where
  meet_the_same : (c u : ℕ) (xs ys : List ℕ) → AreCellsMeeting (axes_of p) (low_corner p c u) (high_corner p c u) xs → AreCellsMeeting (axes_of p) (low_corner p c u) (high_corner p c u) ys → xs ≡ ys
  meet_the_same c u xs ys f g = same_rising xs ys (AllPairs-from_increasing xs f.rising) (AllPairs-from_increasing ys g.rising) (λ d h. (g.exactly d).1 ((f.exactly d).0 h)) (λ d h. (f.exactly d).1 ((g.exactly d).0 h))

  where_enabled : (c u : ℕ) (xs ys : List ℕ) → AreSuccessors p c u xs → AreSuccessors p c u ys → IsEnabledAt p c u → xs ≡ ys
  where_enabled c u xs ys f g at = meet_the_same c u xs ys (f.enabled at) (g.enabled at)

  one_list : (c u : ℕ) (xs ys : List ℕ) → AreSuccessors p c u xs → AreSuccessors p c u ys → xs ≡ ys
  one_list c u [] [] f g = refl
  one_list c u (x ∷ xs) ys f g = where_enabled c u (x ∷ xs) ys f g ((enabled_exactly p c u (x ∷ xs) sound f).0 (λ e. cc))
  one_list c u [] (y ∷ ys) f g = where_enabled c u [] (y ∷ ys) f g ((enabled_exactly p c u (y ∷ ys) sound g).0 (λ e. cc))

-- the lists of all pairs
abbrev pub AreLists : Description → List (List ℕ) → Type 0
AreLists p lists = (c u : ℕ) → c < cells_of (axes_of p) → u < vectors_of p.inputs → AreSuccessors p c u (slice_index_or lists (pair_of_plant p c u) [])

pub one_lists : (p : Description) → IsSound p → (f g : List (List ℕ)) → length f ≡ pairs_of_plant p → length g ≡ pairs_of_plant p → AreLists p f → AreLists p g → f ≡ g
one_lists p sound f g long as_long lists others =
    ext_get_or [] f g (long ∙ sym as_long) (λ pair lt.
    let c : ℕ = pair / vectors_of p.inputs in
    let u : ℕ = pair % vectors_of p.inputs in
    let parts = pair_split pair (cells_of (axes_of p)) (vectors_of p.inputs) (omega (arith, lt, long)) in
    subst (λ (q : ℕ). slice_index_or f q [] ≡ slice_index_or g q []) parts.2 (one_list p sound c u _ _ (lists c u parts.0 parts.1) (others c u parts.0 parts.1)))

pub one_edge_count : OneEdgeCount
one_edge_count p m n plant f g =
    f.total ∙ ap (sum_by length) (one_lists p (plants.sound p plant) f.lists g.lists f.one_each g.one_each f.each g.each) ∙ sym g.total

-- the lists of a plant's game
pub one_list_each : (p : Description) (g : Game) → IsGameOf p g → length g.successors ≡ pairs_of_plant p
one_list_each p g h = h.game.one_list_each ∙ ap (λ (n : ℕ). n * g.inputs) h.cells ∙ ap (λ (n : ℕ). cells_of (axes_of p) * n) h.inputs

pub game_lists : (p : Description) (g : Game) → IsGameOf p g → AreLists p g.successors
game_lists p g h c u cell input =
    subst (λ (n : ℕ). AreSuccessors p c u (slice_index_or g.successors (c * n + u) [])) h.inputs (h.successors c u (subst (λ (n : ℕ). c < n) (sym h.cells) cell) (subst (λ (n : ℕ). u < n) (sym h.inputs) input))

pub games_count_their_edges : GamesCountTheirEdges
games_count_their_edges p g h = record {
  lists = g.successors;
  one_each = one_list_each p g h;
  each = game_lists p g h;
  total = refl;
}
