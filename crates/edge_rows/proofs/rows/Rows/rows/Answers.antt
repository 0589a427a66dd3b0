use Rattle.std.proofs.Common.{arith}
use Rattle.edge_rows.proofs.Laid.{count, few}
use Rattle.edge_rows.proofs.rows.Rows.rows.Goals as goal

pub overflow_cast-result : goal.overflow_cast-result
overflow_cast-result c =
    record {
      fits = omega (arith, c.len.ensures, c.self.inside.starts.ok.0, count c.self.inside c.self.invariant c.args.self.now c.self.view_is, few c.self.inside c.self.invariant c.args.self.now c.self.view_is);
    }

pub returns : goal.returns
returns c = omega (arith, c.len.ensures, c.self.inside.starts.ok.0, count c.self.inside c.self.invariant c.args.self.now c.self.view_is)
