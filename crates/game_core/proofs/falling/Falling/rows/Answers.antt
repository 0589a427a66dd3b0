use Rattle.std.proofs.Common.{ℕ, ◌+◌, ◌<◌, Bool, List, Option, None, length, set, arith, ap, sym, subst, ◌∙◌, below_more}
use Rattle.std.proofs.lemmas.List.{length-set, get_or-set_same, get_or-set_other}
use Rattle.game_core.specs.declared.game.Row.{Row}
use Rattle.game_core.specs.Game.{Game}
use Rattle.game_core.specs.Solution.{row_of}
use Rattle.game_core.specs.inside.Falling.{IsFirstSafe}
use Rattle.game_core.proofs.falling.Falling.rows.Goals as goal

-- one row more
rows_more : (game : Game) (safe : List Bool) (rows : List (Option Row)) (at : ℕ) (row : Option Row) → at < length rows → ((k : ℕ) → k < at → IsFirstSafe game safe k (row_of rows k)) → IsFirstSafe game safe at row
    → (k : ℕ) → k < at + 1 → IsFirstSafe game safe k (row_of (set rows at row) k)
rows_more game safe rows at row there so_far here =
    below_more (λ k. IsFirstSafe game safe k (row_of (set rows at row) k)) at
    (λ k before. subst (IsFirstSafe game safe k) (sym (get_or-set_other rows at k row None (λ e. absurd (omega arith)))) (so_far k before))
    (subst (IsFirstSafe game safe at) (sym (get_or-set_same rows at row None there)) here)

pub loop-c-preserved : goal.loop-c-preserved
loop-c-preserved g c =
    let rows = c.loop-c.answer in
    let at = c.loop-c.c in
    let row = c.first_safe.result in
    let one_each = c.loop-c.invariant.one_each in
    record {
      one_each = ap length c.set.ensures ∙ length-set rows at row ∙ one_each;
      so_far = subst (λ (now : List (Option Row)). (k : ℕ) → k < at + 1 → IsFirstSafe (g.G.Graph.game c.args.g.now) c.args.self.now.safe k (row_of now k)) (sym c.set.ensures)
          (rows_more (g.G.Graph.game c.args.g.now) c.args.self.now.safe rows at row (omega arith) c.loop-c.invariant.so_far c.first_safe.ensures);
    }
