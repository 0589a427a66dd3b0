use Rattle.std.proofs.Common.{ℕ, ◌+◌, ◌<◌, List, length, set, Option, None, sym, ◌∙◌, ap, subst, arith, refl, length-set, below_more, get_or-set_same, get_or-set_other}
use Rattle.cell_counters.specs.BoardModels.{RootModel}
use Rattle.game_core.specs.declared.game.Row.{Row}
use Rattle.game_core.specs.Solution.{row_of}
use Rattle.board_rounds.specs.Rules.{IsAtEnd}
use Rattle.board_rounds.proofs.solving.read_rows.Goals as goal

pub loop-c-init : goal.loop-c-init
loop-c-init g c = record { same = refl; one_each = c.requires.answer; so_far = λ k lt. absurd (omega arith) }

pub row-row-requires-clause-root : goal.row-row-requires-clause-root
row-row-requires-clause-root g c = (ap (λ (r : RootModel). r.board) c.loop-c.invariant.same ∙ c.requires.root.0, ap (λ (r : RootModel). r.out) c.loop-c.invariant.same ∙ c.requires.root.1)

pub row-row-requires-clause-end : goal.row-row-requires-clause-end
row-row-requires-clause-end g c =
    let rule = c.args.rule.now in
    subst (λ (r : RootModel). IsAtEnd (g.L.Rule.game rule).cells (g.L.Rule.holds_before rule) r.accounts) (sym c.loop-c.invariant.same) c.requires.end

pub loop-c-preserved : goal.loop-c-preserved
loop-c-preserved g c =
    let rule = c.args.rule.now in
    let accounts = c.args.root.now.accounts in
    let tells = g.L.Rule.tells rule accounts in
    let n = c.loop-c.c in
    let before = c.loop-c.invariant in
    let old = c.loop-c.answer in
    let row = c.row-row.result in
    let at : n < length old = (let m = before.one_each in omega arith) in
    let told = subst (λ (r : RootModel). g.L.Rule.tells rule r.accounts n row) before.same c.row-row.ensures.row in
    record {
      same = c.row-row.ensures.root ∙ before.same;
      one_each = ap length c.set.ensures ∙ (length-set old n row ∙ before.one_each);
      so_far = subst (λ (l : List (Option Row)). (k : ℕ) → k < n + 1 → tells k (row_of l k)) (sym c.set.ensures)
          (below_more (λ k. tells k (row_of (set old n row) k)) n
          (λ k h. subst (tells k) (sym (get_or-set_other old n k row None (λ e. absurd (omega arith)))) (before.so_far k h))
          (subst (tells n) (sym (get_or-set_same old n row None at)) told));
    }

pub returns-clause-root : goal.returns-clause-root
returns-clause-root g c = c.loop-c.invariant.same

pub returns-clause-rows : goal.returns-clause-rows
returns-clause-rows g c =
    record { one_each = c.loop-c.invariant.one_each; each = λ k lt. c.loop-c.invariant.so_far k (omega arith) }
