use Rattle.std.proofs.Common.{◌≡◌, ap, sym, ◌∙◌, arith, rules}
use Rattle.cell_counters.specs.declared.rule.Setup.{Setup}
use Rattle.cell_counters.specs.BoardModels.{BoardModel, RootModel}
use Rattle.cell_counters.specs.inside.BoardProtocol.{tail_of}
use Rattle.cell_counters.proofs.Roots.{look_allowed, setup_is, tail_is}
use Rattle.cell_counters.proofs.board.Board.logged.Goals as goal

pub load-requires : goal.load-requires
load-requires c =
    let slots : c.args.self.now.slots ≡ c.self.inside.slots = ap (λ (b : BoardModel). b.slots) (sym c.self.view_is) ∙ sym c.self.invariant.log in
    (search rules, omega (arith, slots), look_allowed _ _ _ _ _ c.root.invariant.first (setup_is _ _ _ _ (ap (λ (r : RootModel). r.board) c.root.view_is ∙ c.requires.root ∙ sym c.self.view_is)) c.root.invariant.idle)

pub overflow_cast-result : goal.overflow_cast-result
overflow_cast-result c =
    let slots : c.args.self.now.slots ≡ c.self.inside.slots = ap (λ (b : BoardModel). b.slots) (sym c.self.view_is) ∙ sym c.self.invariant.log in
    let began = setup_is _ _ _ _ (ap (λ (r : RootModel). r.board) c.root.view_is ∙ c.requires.root ∙ sym c.self.view_is) in
    let none_out : c.root.inside.out ≡ 0 = ap (λ (r : RootModel). r.out) c.root.view_is ∙ c.requires.settled in
    let told = c.load.ensures.2.explained (omega (arith, c.root.invariant.made)) in
    let tail = ap tail_of began ∙ tail_is _ _ _ _ _ c.self.invariant in
    let small = told.cell (omega (arith, tail)) (omega (arith, tail, slots, ap (λ (n : Setup). n.slots) began, c.self.invariant.log)) in
    search rules
