use Rattle.std.proofs.Common.{◌≡◌, ◌+◌, ◌^◌, ◌<◌, ◌++◌, length, map, take, drop}
use Rattle.edge_rows.specs.inside.Slices.{AreFree, contents_with}
use Rattle.edge_rows.proofs.fill.write_each.Given as goal

-- the slots so far are written, and those after them come next
abbrev pub invariant-loop-end : goal.invariant-loop-end
invariant-loop-end l = record {
  small : length l.block < 2 ^ 32;
  free : AreFree l.block (drop l.end-index l.end-items) l.value;
  block : contents_with l.fn.block l.fn.ends l.value ≡ contents_with l.block (drop l.end-index l.end-items) l.value;
  ends : map (λ end. end + 1) l.fn.ends ≡ take l.end-index l.end-items ++ map (λ end. end + 1) (drop l.end-index l.end-items);
}
