use Rattle.std.proofs.Common.{◌≡◌, ◌+◌, ◌-◌, ◌++◌, length, take, drop, refl, ap, ◌∙◌, arith}
use borrow.Rule.Slice.PartMut.{post_of}
use Rattle.std.specs.Vec.{with_items}
use Rattle.edge_rows.specs.Rows.{Filling, with_value_each}
use Rattle.edge_rows.specs.inside.Slices.{contents_with}
use Rattle.edge_rows.specs.inside.FillFields.{IsFilledAs}
use Rattle.edge_rows.proofs.Fillings.{shown, kept, run_listed, run_free, run_lies, block_small}
use Rattle.edge_rows.proofs.RunsLaid.{items_after}
use Rattle.edge_rows.proofs.fill.RowFill.put_each.Goals as goal

pub slice_bounds-write_each-end : goal.slice_bounds-write_each-end
slice_bounds-write_each-end c =
    omega (arith, ap length c.deref_mut.ensures.value, run_listed c.self.inside c.self.invariant c.args.self.now c.self.view_is c.args.first c.args.count c.args.value c.requires.within c.requires.room)

pub write_each-requires-clause-free : goal.write_each-requires-clause-free
write_each-requires-clause-free c =
    run_free c.self.inside c.self.invariant c.args.self.now c.self.view_is c.args.first c.args.count c.args.value c.requires.within c.requires.room
    c.deref_mut.result.now (c.args.first + c.args.count - c.args.first) c.deref_mut.ensures.value (omega arith)

pub write_each-requires-clause-small : goal.write_each-requires-clause-small
write_each-requires-clause-small c =
    block_small c.self.inside c.self.invariant c.args.self.now c.self.view_is c.args.first c.args.count c.args.value c.requires.within c.requires.room

after : (c : goal.After-self-1)
    → IsFilledAs (record {
      block = c.write_each.new.block;
      starts = c.self.inside.starts;
      ends = with_items c.self.inside.ends (take c.args.first c.deref_mut.result.now ++ (c.write_each.new.ends ++ post_of c.args.first (c.args.first + c.args.count - c.args.first) c.deref_mut.result.now));
    })
    (record { rows = with_value_each c.args.self.now.rows c.args.first c.args.count c.args.value; lengths = c.args.self.now.lengths })
after c =
    let ends = c.self.inside.ends in
    let now = c.deref_mut.result.now in
    let k = c.args.first + c.args.count - c.args.first in
    let count : k ≡ c.args.count = omega arith in
    let many : ends.len ≡ length ends.items = omega (arith, ends.ok.0) in
    run_lies c.self.inside c.self.invariant c.args.self.now c.self.view_is c.args.first c.args.count c.args.value c.requires.within c.requires.room _
    (c.write_each.ensures.block ∙ (λ i. contents_with c.self.inside.block (take (count i) (drop c.args.first (c.deref_mut.ensures.value i))) c.args.value))
    refl
    (items_after (λ end. end + 1) ends.items now c.write_each.new.ends c.args.first c.args.count k ends.len c.deref_mut.ensures.value count c.write_each.ensures.ends many)

pub invariant_of-self : goal.invariant_of-self
invariant_of-self c = kept _ _ (after c)

pub returns-clause-rows : goal.returns-clause-rows
returns-clause-rows c = ap (λ (w : Filling). w.rows) (shown _ _ (after c))
