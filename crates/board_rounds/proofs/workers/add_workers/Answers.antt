use Rattle.std.proofs.Common.{ℕ, ◌+◌, All, length, refl, sym, ◌∙◌, ap, subst, arith}
use Rattle.std.proofs.lemmas.List.Elements.{All-nil, All-push}
use Rattle.cell_counters.specs.BoardModels.{RootModel, with_hand_out}
use Rattle.board_rounds.specs.Crew.{IsFresh}
use Rattle.board_rounds.proofs.workers.add_workers.Goals as goal

pub loop-worker-init : goal.loop-worker-init
loop-worker-init c = record {
  same = ap (λ (n : ℕ). record c.args.root.now { out = n }) {x = c.args.root.now.out} {y = c.args.root.now.out + 0} (omega arith);
  many = omega (arith, c.args.members.now.ok.0, ap length c.requires.none);
  fresh = subst (All (IsFresh c.args.board.now)) (sym c.requires.none) (All-nil (IsFresh c.args.board.now));
  capacity = refl;
}

pub hand-requires-clause-root : goal.hand-requires-clause-root
hand-requires-clause-root c = ap (λ (r : RootModel). r.board) c.loop-worker.invariant.same ∙ c.requires.root

pub hand-requires-clause-few : goal.hand-requires-clause-few
hand-requires-clause-few c = let e = ap (λ (r : RootModel). r.out) c.loop-worker.invariant.same in omega arith

pub loop-worker-preserved : goal.loop-worker-preserved
loop-worker-preserved c =
    let before = c.loop-worker.invariant in
    let out = c.args.root.now.out in
    let i = c.loop-worker._worker in
    record {
      same = c.hand.ensures.root ∙ (ap with_hand_out before.same ∙ ap (λ (n : ℕ). record c.args.root.now { out = n }) {x = out + i + 1} {y = out + (i + 1)} (omega arith));
      many = (let e = c.push_reserved.ensures.len in omega arith);
      fresh =
          subst (All (IsFresh c.args.board.now)) (sym c.push_reserved.ensures.items)
          (All-push (IsFresh c.args.board.now) c.loop-worker.members.items c.new.result before.fresh (c.new.ensures.hand ∙ (c.new-worker.ensures ∙ c.hand.ensures.hand)));
      capacity = c.push_reserved.ensures.capacity ∙ before.capacity;
    }

pub returns-clause-root : goal.returns-clause-root
returns-clause-root c =
    let out = c.args.root.now.out in
    c.loop-worker.invariant.same ∙ ap (λ (n : ℕ). record c.args.root.now { out = n }) {x = out + c.loop-worker._worker} {y = out + c.args.count} (omega arith)
