use Rattle.std.proofs.Common.{◌≡◌, ℕ, ◌<◌, List, [], ◌∷◌, ◌++◌, length, take, get_or, Some, All, arith, sym, ap, ◌∙◌, subst, take_all}
use Rattle.std.proofs.lemmas.List.{take_more}
use Rattle.std.proofs.lemmas.List.Elements.{All-more}
use Rattle.game_core.specs.Game.{successors_at}
use Rattle.game_core.specs.Solution.{row_of, rank_in, rank_at, greatest_rank, HasRow}
use Rattle.temporal_games.proofs.BestRows.{greatest_push}
use Rattle.temporal_games.proofs.best_row.rank_after.Goals as goal

pub loop-at-preserved : goal.loop-at-preserved
loop-at-preserved g c =
    let cells = successors_at (g.G.Graph.game c.args.g.now) c.args.pair in
    let rows = c.args.answer.now in
    let lt : c.loop-at.at < length cells = (let t = c.loop-at-test.true in let e = c.fan-fan.ensures in omega arith) in
    let is : row_of rows (get_or cells c.loop-at.at 0) ≡ Some c.in_ok-row.row = ap (row_of rows) (sym c.successor.ensures) ∙ sym c.in_ok-row.ensures in
    let rank : rank_at rows (get_or cells c.loop-at.at 0) ≡ c.in_ok-row.row.rank = ap rank_in is in
    let push = greatest_push rows (take c.loop-at.at cells) (get_or cells c.loop-at.at 0) in
    let was = c.loop-at.invariant.greatest in
    let more = c.max-greatest.ensures in
    record {
      ranked = All-more (HasRow rows) cells c.loop-at.at 0 lt c.loop-at.invariant.ranked (c.in_ok-row.row, is);
      greatest = ap (greatest_rank rows) (take_more cells c.loop-at.at 0 lt) ∙ (let e : greatest_rank rows (take c.loop-at.at cells ++ get_or cells c.loop-at.at 0 ∷ []) ≡ c.max-greatest.result = grind arith in e);
    }

pub returns : goal.returns
returns g c =
    let cells = successors_at (g.G.Graph.game c.args.g.now) c.args.pair in
    let rows = c.args.answer.now in
    let all : take c.loop-at.at cells ≡ cells = take_all c.loop-at.at cells (let t = c.loop-at-test.false in let e = c.fan-fan.ensures in omega arith) in (
      λ none. c.if-fan-eq0.false (c.fan-fan.ensures ∙ ap (λ (xs : List ℕ). length xs) none),
      subst (All (HasRow rows)) all c.loop-at.invariant.ranked,
      ap (greatest_rank rows) (sym all) ∙ c.loop-at.invariant.greatest,
    )
