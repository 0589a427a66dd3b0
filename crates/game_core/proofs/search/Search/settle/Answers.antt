use Rattle.std.proofs.Common.{◌≡◌, ℕ, ◌<◌, List, Option, Some, None, is_some, length, set, count_by, arith, ap, ap₂, ◌∙◌, length-set}
use Rattle.std.proofs.lemmas.List.{take_more_set}
use Rattle.std.proofs.lemmas.List.Sums.{count_by-le-length}
use Rattle.game_core.proofs.Rows.{count_first}
use Rattle.game_core.specs.declared.game.Row.{Row}
use Rattle.game_core.specs.Solution.{row_of}
use Rattle.game_core.specs.inside.Search.{SearchProgress, with_row}
use Rattle.game_core.proofs.search.Search.settle.Goals as goal

-- a cell without a row leaves a position in the queue
has_position : (rows : List (Option Row)) (order : List ℕ) (found c : ℕ) (row : Row) → length order ≡ length rows → found ≡ count_by is_some rows → c < length rows → row_of rows c ≡ None → found < length order
has_position rows order found c row positions counted lt none =
    let more = count_first rows c row lt none in
    let le = count_by-le-length is_some (set rows c (Some row)) in
    let same = length-set rows c (Some row) in
    omega arith

pub index_mut-requires : goal.index_mut-requires
index_mut-requires c =
    let s = c.self.inside in
    let view : length s.answer ≡ length c.args.self.now.rows = ap (λ (p : SearchProgress). length p.rows) c.self.view_is in
    let lt : c.args.c < length s.answer = omega arith in
    let none : row_of s.answer c.args.c ≡ None = ap (λ (p : SearchProgress). row_of p.rows c.args.c) c.self.view_is ∙ c.requires.first in
    let position = has_position s.answer s.order.items s.found c.args.c c.args.row c.self.invariant.one_position_each c.self.invariant.counted lt none in
    omega arith

abbrev with_rows : List ℕ → List (Option Row) → List ℕ → SearchProgress
with_rows left rows queue = record { left = left; rows = rows; queue = queue }

pub returns : goal.returns
returns c =
    let s = c.self.inside in
    let view : length s.answer ≡ length c.args.self.now.rows = ap (λ (p : SearchProgress). length p.rows) c.self.view_is in
    let lt : c.args.c < length s.answer = omega arith in
    let none : row_of s.answer c.args.c ≡ None = ap (λ (p : SearchProgress). row_of p.rows c.args.c) c.self.view_is ∙ c.requires.first in
    let position = has_position s.answer s.order.items s.found c.args.c c.args.row c.self.invariant.one_position_each c.self.invariant.counted lt none in
    ap₂ (with_rows s.left.items) c.set.ensures (take_more_set s.order.items s.found c.args.c position)
    ∙ ap (with_row c.args.c c.args.row) c.self.view_is
