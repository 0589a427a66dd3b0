use Rattle.std.proofs.Common.{◌≡◌, suc, length, take, get_or, replicate, sum, None, ap, ◌∙◌, arith, length-take}
use Rattle.std.proofs.lemmas.List.{get_or_default, take_all}
use Rattle.edge_rows.specs.Rows.{Filling, empty_rows}
use Rattle.edge_rows.specs.inside.FillFields.{IsFilledAs}
use Rattle.edge_rows.proofs.Laid.{length-starts, start_at, fits-unfilled, laid-unfilled, ends-unfilled}
use Rattle.edge_rows.proofs.Fillings.{shown, kept}
use Rattle.edge_rows.proofs.fill.RowFill.new.Goals as goal
use Rattle.edge_rows.proofs.fill.RowFill.new.Goals.{In_ok-block}

pub slice_bounds-to_vec-end : goal.slice_bounds-to_vec-end
slice_bounds-to_vec-end c =
    let ns = c.args.lengths.now in
    omega (arith, length-take (length ns) c.deref.result.now, ap length (c.deref.ensures.value ∙ c.in_ok-starts.ensures), length-starts 0 ns)

pub index-slots-requires : goal.index-slots-requires
index-slots-requires c = omega (arith, c.in_ok-starts.starts.ok.0, ap length c.in_ok-starts.ensures, length-starts 0 c.args.lengths.now)

fresh : (c : In_ok-block) → IsFilledAs (record { block = c.in_ok-block.block; starts = c.in_ok-starts.starts; ends = c.in_ok-ends.ends })
    (record { rows = empty_rows c.args.lengths.now; lengths = c.args.lengths.now })
fresh c =
    let ns = c.args.lengths.now in let all = c.in_ok-starts.starts.items in
    let count : length all ≡ suc (length ns) = omega (arith, ap length c.in_ok-starts.ensures, length-starts 0 ns) in
    let last : c.index-slots.result.now ≡ sum ns =
    c.index-slots.ensures ∙ get_or_default all (length ns) _ 0 (omega (arith, count)) ∙ ap (λ l. get_or l (length ns) 0) c.in_ok-starts.ensures
    ∙ (omega (arith, start_at 0 ns (length ns) (omega arith), ap sum (take_all (length ns) ns (omega arith)))) in
    record {
      within = record { fits = fits-unfilled ns; small = (c.requires.rows, c.requires.slots) };
      slots = c.in_ok-block.ensures.empty ∙ ap (λ k. replicate k None) last ∙ laid-unfilled ns;
      starts = c.in_ok-starts.ensures;
      ends = c.in_ok-ends.ensures.items_if_clones_equal (λ x y e. e) ∙ ap (take (length ns)) (c.deref.ensures.value ∙ c.in_ok-starts.ensures) ∙ ends-unfilled 0 ns;
    }

pub invariant_of-result : goal.invariant_of-result
invariant_of-result c = kept _ _ (fresh c)

pub returns-clause-rows : goal.returns-clause-rows
returns-clause-rows c = ap (λ (f : Filling). f.rows) (shown _ _ (fresh c))

pub returns-clause-lengths : goal.returns-clause-lengths
returns-clause-lengths c = ap (λ (f : Filling). f.lengths) (shown _ _ (fresh c))
