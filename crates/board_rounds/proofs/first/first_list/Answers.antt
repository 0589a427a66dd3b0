use Rattle.std.proofs.Common.{◌≡◌, ℕ, ◌+◌, ◌++◌, ◌∷◌, [], Bool, true, false, List, cond, filter, length, sym, ◌∙◌, ap, ap₂, arith, refl}
use Rattle.std.proofs.lemmas.List.{append-nil}
use Rattle.std.specs.List.{range_with_len}
use Rattle.board_rounds.proofs.first.first_list.Goals as goal
use Rattle.board_rounds.proofs.first.first_list.Goals.{then-is_first, else-is_first}
use Rattle.base.proofs.Ranges.{filter-range_more}

pub loop-c-init : goal.loop-c-init
loop-c-init g c = record { same = refl; cells = c.requires.none; few = omega (arith, c.args.list.now.ok.0, ap length c.requires.none); capacity = refl }

pub is_first-requires-clause-root : goal.is_first-requires-clause-root
is_first-requires-clause-root g c = c.loop-c.invariant.same ∙ c.requires.root

pub loop-c-preserved : goal.loop-c-preserved
loop-c-preserved g c =
    let first = g.L.Rule.first c.args.rule.now in
    let before = c.loop-c.invariant in
    let n = c.loop-c.c in
    let few = before.few in
    let cells : (b : Bool) → c.is_first.result ≡ b → c.loop-c.list.items ++ cond b (n ∷ []) [] ≡ filter first (range_with_len 0 (n + 1)) =
    λ b is. ap₂ (λ (l : List ℕ) (b : Bool). l ++ cond b (n ∷ []) []) before.cells (sym is ∙ c.is_first.ensures.first) ∙ sym (filter-range_more first n) in
    let same = c.is_first.ensures.root ∙ before.same in
    elim c.if-is_first.branch [
      | then-is_first w ↦ rw w.list-is (record {
        same = same;
        cells = w.push_reserved.ensures.items ∙ cells true w.if-is_first.true;
        few = omega (arith, w.push_reserved.ensures.len);
        capacity = w.push_reserved.ensures.capacity ∙ before.capacity;
      })
      | else-is_first w ↦ rw w.list-is (record {
        same = same;
        cells = sym (append-nil c.loop-c.list.items) ∙ cells false w.if-is_first.false;
        few = omega arith;
        capacity = before.capacity;
      })
    ]

pub returns-clause-list : goal.returns-clause-list
returns-clause-list g c =
    let game = g.L.Rule.game c.args.rule.now in
    let same : c.loop-c.c ≡ game.cells = omega arith in
    c.loop-c.invariant.cells ∙ ap (λ (n : ℕ). filter (g.L.Rule.first c.args.rule.now) (range_with_len 0 n)) same
