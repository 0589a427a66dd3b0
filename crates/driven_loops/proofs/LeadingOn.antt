-- Rows that lead on: an input that a row applies may be applied, and a state that lies in its box is one from which the text goes on.
use Rattle.std.proofs.Common.{◌≡◌, ◌≢◌, ℕ, suc, ◌<◌, List, [], ◌∷◌, length, Option, Some, Contains, sym, ap, subst, ◌∙◌, arith}
use Rattle.std.specs.Prelude.{ℤ}
use Rattle.std.proofs.lemmas.Option.{same_Some}
use Rattle.game_core.specs.declared.game.Row.{Row}
use Rattle.game_core.specs.declared.game.Mark.TheVariants.{Goal, Obstacle}
use Rattle.game_core.specs.Game.{Game, IsEnabled, mark_of, successors_of}
use Rattle.game_core.specs.Solution.{row_of}
use Rattle.grid_quantiser.specs.Cells.{cell_of}
use Rattle.grid_quantiser.proofs.Domain.{cell_below}
use Rattle.plant_record.specs.declared.aims.GoalKind.{GoalKind}
use Rattle.plant_record.specs.Description.{Description, axes_of, vector_of, vectors_of}
use Rattle.plant_record.specs.Plants.{IsPlant}
use Rattle.plant_record.specs.States.{LiesInSome, IsClear}
use Rattle.plant_record.proofs.lemmas.SoundPlants.{sound}
use Rattle.successor_box.specs.SuccessorBoxes.{IsEnabledAt}
use Rattle.plant_game.specs.Abstraction.{IsGameOf}
use Rattle.plant_game.proofs.GameLaws as games
use Rattle.controller_table.specs.Choice.{HasRowAt}
use Rattle.controller_table.specs.declared.text_kind.TextKind.{TextKind}
use Rattle.controller_table.specs.declared.text_kind.TextKind.TheVariants.{Table}
use Rattle.controller_table.proofs.Applied.{own_input}
use Rattle.controller_table.proofs.RowsAtStates.{in_cell, row_stands}
use Rattle.text_control.specs.Texts.{TextModel, due_rows}
use Rattle.text_control.specs.Control.{applied_as, IsRank}
use Rattle.text_control.specs.Loops.{Answers}
use Rattle.text_control.specs.Followed.{FollowedSample, IsInItsBox}
use Rattle.text_control.proofs.Answering.{chosen}
use Rattle.driven_loops.specs.Followed.{IsFollowedLoop}
use Rattle.driven_loops.proofs.ItsBox.{enabled_in, in_successor}

-- a row applies no input but its own
applied_input : (kind : TextKind) (goal : GoalKind) (row : Row) (u : ℕ) → applied_as kind goal row ≡ Some u → row.input ≡ u
applied_input (Table version) goal row u applies = own_input goal row u applies
applied_input kind goal row u applies = same_Some row.input u applies

-- each input that a row applies at a state is one of the vectors, and has its box within the domain
abbrev pub AppliesEnabled : TextModel → Type 0
AppliesEnabled t = (x : List ℤ) (row : Row) (u : ℕ) → HasRowAt t.plant (due_rows t) x row → applied_as t.kind t.plant.goal row ≡ Some u → (u < vectors_of t.plant.inputs) × IsEnabledAt t.plant (cell_of (axes_of t.plant) x) u

-- What the rows of a text keep in the game of its plant, where to each rank of a row there are cells that may come next.
pub record LeadOn (t : TextModel) (Next : ℕ → ℕ → Type 0) : Type 0 where
  pub plant : IsPlant t.plant
  pub game : Game
  pub abstraction : IsGameOf t.plant game
  pub below : (c : ℕ) (row : Row) → row_of (due_rows t) c ≡ Some row → c < game.cells
  pub clear : (c : ℕ) (row : Row) → row_of (due_rows t) c ≡ Some row → mark_of game c ≢ Obstacle
  pub enabled : (c : ℕ) (row : Row) → row_of (due_rows t) c ≡ Some row → applied_as t.kind t.plant.goal row ≡ Some row.input → IsEnabled game c row.input
  pub leads : (c : ℕ) (row : Row) → row_of (due_rows t) c ≡ Some row → applied_as t.kind t.plant.goal row ≡ Some row.input → (d : ℕ) → d < game.cells → Contains (successors_of game c row.input) d → Next row.rank d

-- ---- one sample

module _ {t : TextModel} {Next : ℕ → ℕ → Type 0} (h : LeadOn t Next) where
  abbrev p : Description
  p = t.plant

  abbrev HasRow : List ℤ → Row → Type 0
  HasRow x row = HasRowAt p (due_rows t) x row

  pub clear_at : (x : List ℤ) (row : Row) → HasRow x row → IsClear p x
  clear_at x row has =
      let c : ℕ = cell_of (axes_of p) x in
      let at = in_cell p (due_rows t) x row has in
      games.clear_at p h.game h.abstraction (games.refines p h.game h.plant h.abstraction) x at.0 (h.below c row at.1) (h.clear c row at.1)

  pub in_target : (x : List ℤ) (row : Row) → HasRow x row → mark_of h.game (cell_of (axes_of p) x) ≡ Goal → LiesInSome p p.targets x
  in_target x row has =
      let at = in_cell p (due_rows t) x row has in
      games.in_target p h.game h.abstraction (games.refines p h.game h.plant h.abstraction) x at.0 (h.below (cell_of (axes_of p) x) row at.1)

  own : (row : Row) (u : ℕ) → applied_as t.kind p.goal row ≡ Some u → applied_as t.kind p.goal row ≡ Some row.input
  own row u applies = applies ∙ ap Some (sym (applied_input t.kind p.goal row u applies))

  pub applies_enabled : AppliesEnabled t
  applies_enabled x row u has applies =
      let c : ℕ = cell_of (axes_of p) x in
      let is = (in_cell p (due_rows t) x row has).1 in
      subst (λ (v : ℕ). (v < vectors_of p.inputs) × IsEnabledAt p c v) (applied_input t.kind p.goal row u applies)
      (enabled_in p h.game c row.input h.plant h.abstraction (h.below c row is) (h.enabled c row is (own row u applies)))

  -- a cell of the box is one that may come next
  pub next_cell : (s : FollowedSample) (x : List ℤ) (row : Row) → HasRow x row → s.state ≡ x → Answers t x s.values → IsInItsBox p s → Next row.rank (cell_of (axes_of p) s.next)
  next_cell s x row has at answer b =
      let c : ℕ = cell_of (axes_of p) s.state in
      let d : ℕ = cell_of (axes_of p) s.next in
      let by = chosen t x s.values answer in
      let is = (in_cell p (due_rows t) s.state by.row (subst (λ (z : List ℤ). HasRow z by.row) (sym at) by.has)).1 in
      let applies = own by.row by.input by.applies in
      let are : s.values ≡ vector_of p.inputs by.row.input = by.are ∙ ap (vector_of p.inputs) (sym (applied_input t.kind p.goal by.row by.input by.applies)) in
      let among = in_successor p h.game s by.row.input h.plant h.abstraction (h.below c by.row is) (h.enabled c by.row is applies) are b in
      let lt : d < h.game.cells = omega (arith, cell_below (axes_of p) s.next (sound p h.plant).axes.each b.inside, h.abstraction.cells) in
      subst (λ (r : Row). Next r.rank d) (same_Some by.row row (sym by.has ∙ has)) (h.leads c by.row is applies d lt among)

-- ---- loops of one turn

-- the cell has a row whose rank is one of those that may come one sample after a rank
abbrev pub HasNext : List (Option Row) → (ℕ → ℕ → ℕ → Type 0) → ℕ → ℕ → Type 0
HasNext rows After rank d = (next : Row) × (row_of rows d ≡ Some next) × After 1 rank next.rank

-- Where a loop ends: the state's cell has a row, of a rank that may come so many samples after one.
pub record IsLed (t : TextModel) (After : ℕ → ℕ → ℕ → Type 0) (samples rank : ℕ) (y : List ℤ) : Type 0 where
  pub row : Row
  pub has : HasRowAt t.plant (due_rows t) y row
  pub after : After samples rank row.rank

module _ {t : TextModel} {After : ℕ → ℕ → ℕ → Type 0} (h : LeadOn t (HasNext (due_rows t) After)) (none : (r : ℕ) → After 0 r r) (more : (n r k m : ℕ) → After 1 r k → After n k m → After (suc n) r m) where
  leads_from : (samples : List FollowedSample) (x y : List ℤ) (row : Row) → HasRowAt t.plant (due_rows t) x row → IsFollowedLoop t x samples y → IsLed t After (length samples) row.rank y
  leads_from [] x y row has loop = record { row = row; has = subst (λ (z : List ℤ). HasRowAt t.plant (due_rows t) z row) (sym loop) has; after = none row.rank }
  leads_from (s ∷ samples) x y row has loop =
      let next = next_cell h s x row has loop.0 loop.1 loop.2 in
      let rest = leads_from samples s.next y next.0 (row_stands t.plant (due_rows t) s.next next.0 loop.2.inside next.1) loop.3 in
      record { row = rest.row; has = rest.has; after = more (length samples) row.rank next.0.rank rest.row.rank next.2 rest.after }

  pub led : (x y : List ℤ) (k : ℕ) (samples : List FollowedSample) → IsRank t x k → IsFollowedLoop t x samples y → IsLed t After (length samples) k y
  led x y k samples rank loop = subst (λ (r : ℕ). IsLed t After (length samples) r y) (sym rank.0.is) (leads_from samples x y rank.0.row rank.0.has loop)
