use Rattle.std.proofs.Common.{◌≡◌, take, sum}
use Rattle.edge_rows.specs.inside.Layout.{starts_from}
use Rattle.edge_rows.proofs.fill.starts_of.Given as goal

abbrev pub invariant-loop-length : goal.invariant-loop-length
invariant-loop-length l = (l.end ≡ sum (take l.length-index l.lengths)) × (l.starts.items ≡ starts_from 0 (take l.length-index l.lengths))
