use Rattle.std.proofs.Common.{◌≡◌, ◌+◌, ◌-◌, ◌*◌, ◌/◌, ◌<◌, ℕ, List, length, get_or, refl, ap, sym, subst, ◌∙◌, arith}
use Rattle.std.specs.Prelude.{Option}
use Rattle.std.proofs.lemmas.List.{get_or_read}
use Rattle.game_core.specs.declared.game.Row.{Row}
use Rattle.text_control.specs.inside.RowWords.{row_in, decoded_rows, words_up_to}
use Rattle.text_control.specs.inside.WordPositions.{IsLastUpTo, IsNarrowed, ArePositions}
use Rattle.text_control.proofs.Told.{as_many, row_at_cell, found_at, in_order, between_positions}
use Rattle.text_control.proofs.packed_rows.PackedRows.row.Goals as goal

-- the cell is one of so many
within : (words : List ℕ) (cells c : ℕ) (rows : List (Option Row)) → decoded_rows words cells ≡ rows → c < length rows → c < cells
within words cells c rows view lt = let long = ap (λ (l : List (Option Row)). length l) view in omega (arith, long, lt, as_many words cells)

-- what stands among the positions
position_at : (words : List ℕ) (cells : ℕ) (positions : List ℕ) (b position : ℕ) → ArePositions words cells positions → b < length positions → position ≡ get_or positions b position → IsLastUpTo words (b * 64) position
position_at words cells positions b position are lt is = subst (IsLastUpTo words (b * 64)) (sym (get_or_read positions b position lt is 0)) (are.each b lt)

pub index-requires : goal.index-requires
index-requires c =
    let inside = c.self.inside in
    let more = c.self.invariant.1.enough c.args.cell (within inside.words.items inside.cells c.args.cell c.args.self.now c.self.view_is c.requires) in
    omega (arith, more, inside.positions.ok.0)

pub index-requires-2 : goal.index-requires-2
index-requires-2 c =
    let inside = c.self.inside in
    let more = c.self.invariant.1.enough c.args.cell (within inside.words.items inside.cells c.args.cell c.args.self.now c.self.view_is c.requires) in
    omega (arith, more, inside.positions.ok.0)

pub overflow_sub-last : goal.overflow_sub-last
overflow_sub-last c =
    let inside = c.self.inside in
    let words = inside.words.items in
    let positions = inside.positions.items in
    let cell : ℕ = c.args.cell in
    let more = c.self.invariant.1.enough cell (within words inside.cells cell c.args.self.now c.self.view_is c.requires) in
    in_order words cell (cell / 64) c.index.result.now c.index-2.result.now (position_at words inside.cells positions (cell / 64) c.index.result.now c.self.invariant.1 (omega (arith, more)) c.index.ensures)
    (position_at words inside.cells positions (cell / 64 + 1) c.index-2.result.now c.self.invariant.1 more c.index-2.ensures)

pub search-requires-clause-among : goal.search-requires-clause-among
search-requires-clause-among c =
    let inside = c.self.inside in
    let words = inside.words.items in
    let positions = inside.positions.items in
    let cell : ℕ = c.args.cell in
    let more = c.self.invariant.1.enough cell (within words inside.cells cell c.args.self.now c.self.view_is c.requires) in
    subst (λ (ws : List ℕ). IsNarrowed ws cell c.index.result.now (c.index-2.result.now - c.index.result.now + 1)) (sym c.deref.ensures.value)
    (between_positions words cell (cell / 64) c.index.result.now c.index-2.result.now
    (position_at words inside.cells positions (cell / 64) c.index.result.now c.self.invariant.1 (omega (arith, more)) c.index.ensures)
    (position_at words inside.cells positions (cell / 64 + 1) c.index-2.result.now c.self.invariant.1 more c.index-2.ensures) refl)

pub returns : goal.returns
returns c =
    let inside = c.self.inside in
    let words = inside.words.items in
    let cell : ℕ = c.args.cell in
    let position : ℕ = c.search.result in
    let lt : cell < inside.cells = within words inside.cells cell c.args.self.now c.self.view_is c.requires in
    let last : IsLastUpTo words cell position = subst (λ (ws : List ℕ). IsLastUpTo ws cell position) c.deref.ensures.value c.search.ensures in
    let is : position + 1 ≡ words_up_to words cell = found_at words cell c.self.invariant.0.rising position last in
    let before : position ≡ words_up_to words cell - 1 = omega (arith, is) in
    rw (sym c.self.view_is)
    (c.row_in.ensures
    ∙ ap row_in (get_or_read words position c.index-3.result.now last.within c.index-3.ensures 0)
    ∙ ap (λ (n : ℕ). row_in (get_or words n 0)) before
    ∙ sym (row_at_cell words inside.cells cell lt))
