use Rattle.std.proofs.Common.{ℕ, ◌≡◌, ◌<◌, Some, subst, sym}
use Rattle.game_core.specs.declared.game.Row.{Row}
use Rattle.game_core.specs.Solution.{row_of}
use Rattle.table_check.specs.inside.Below.{NoneLeadsBelow}
use Rattle.table_check.proofs.Unwinnable.{unwinnable_by_bound}
use Rattle.table_check.proofs.judge.RowJudge.is_unwinnable.Goals as goal

pub returns : goal.returns
returns g c =
    let rows = c.args.self.now.rows.now in
    let game = g.G.Forward.game c.args.g.now in
    let cells = c.cells.result in
    let bound : (s : ℕ) (row : Row) → row_of rows s ≡ Some row → row.rank < cells = λ s row e. subst (λ n. row.rank < n) (sym c.cells.ensures) (c.requires.judged.ranks s row e) in
    let both = unwinnable_by_bound game rows cells bound c.args.c in
    let none = c.none_leads_below.ensures in (
      λ e. both.0 (subst (λ n. NoneLeadsBelow game rows c.args.c 0 n cells) c.inputs.ensures (none.0 e)),
      λ lost. none.1 (subst (λ n. NoneLeadsBelow game rows c.args.c 0 n cells) (sym c.inputs.ensures) (both.1 lost)),
    )
