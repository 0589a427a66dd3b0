use Rattle.std.proofs.Common.{◌≡◌, ℕ, ◌+◌, ◌-◌, ◌*◌, ◌<◌, ◌≤◌, min, List, ◌++◌, All, Option, length, take, drop, ap, subst, ◌∙◌, arith}
use Rattle.grid_quantiser.specs.declared.boxes.CellBox.{CellBox}
use Rattle.plant_record.specs.Description.{Description, axes_of, vectors_of}
use Rattle.plant_record.proofs.lemmas.SoundPlants.{sound}
use Rattle.pair_boxes.specs.Finders.{plant_of}
use Rattle.source_lists.specs.KnownShapes.{edges_known}
use Rattle.game_parts.specs.inside.GameParts.{HaveFirst}
use Rattle.plant_game.specs.BoxGame.{IsBox, edges_of}
use Rattle.game_parts.proofs.PartFindings.{not_some, not_none, both_fit, finding_more}
use Rattle.game_parts.proofs.PartGames.{ordered_from}
use Rattle.game_parts.proofs.PartSteps.{cut_long, read_back, room_left}
use Rattle.game_parts.proofs.part_search.find_in.Goals as goal
use Rattle.game_parts.proofs.part_search.find_in.Goals.{After-find}

-- the boxes that were found are those of the next cells
module _ (g : _) (c : After-find g) where
  abbrev p : Description
  p = plant_of c.args.finder.now

  abbrev done : ℕ
  done = c.loop-done.done

  abbrev end : ℕ
  end = c.min-end.result

  axes_are : c.grid.result.now ≡ axes_of p
  axes_are = c.grid.ensures ∙ ap axes_of c.plant.ensures

  ends : end ≡ min c.args.to (done + c.cells_at_a_time-size.result)
  ends = omega (arith, c.min-end.ensures)

  long : length c.find.new.boxes ≡ (end - done) * vectors_of p.inputs
  long =
      let count : c.vectors-inputs.result ≡ vectors_of p.inputs = rw c.plant-2.ensures at c.vectors-inputs.ensures.count in
      c.find.ensures.long
      ∙ ap length c.deref_mut.ensures.value
      ∙ ap length c.truncate.ensures.items
      ∙ cut_long (vectors_of p.inputs) c.cells_at_a_time-size.result done c.args.to end ((end - done) * c.vectors-inputs.result) c.loop-done.boxes.items (c.loop-done.invariant.fits c.loop-done-test.true) ends (ap (λ (n : ℕ). (end - done) * n) count)

  kept : take c.truncate.new.self.len (c.find.new.boxes ++ drop (length c.find.new.boxes) c.truncate.new.self.items) ≡ c.find.new.boxes
  kept = read_back c.truncate.new.self.items c.find.new.boxes c.truncate.new.self.len (c.find.ensures.long ∙ ap length c.deref_mut.ensures.value) (omega (arith, c.truncate.new.self.ok.0))

  in_order : All (IsBox (axes_of p)) c.find.new.boxes
  in_order = ordered_from p done (end - done) c.find.new.boxes long c.find.ensures.each

  low : done ≤ end
  low = omega (arith, ends, c.loop-done-test.true)

  high : end ≤ c.args.to
  high = omega (arith, ends)

  fit : (edges_known c.loop-done.known) + edges_of (axes_of p) c.find.new.boxes < 18446744073709551616
  fit =
      both_fit p c.args.marks.now (g.J.CellJudge.is_right c.args.judge.now) c.args.from done end c.loop-done.invariant.low low (edges_known c.loop-done.known) c.loop-done.first c.loop-done.invariant.found c.find.new.boxes long c.find.ensures.each
      c.args.finder.now.sampled.within (omega (arith, high, c.requires.cells))

pub find-requires-clause-cells : goal.find-requires-clause-cells
find-requires-clause-cells g c =
    let p = plant_of c.args.finder.now in
    let v = vectors_of p.inputs in
    let done = c.loop-done.done in
    let end = c.min-end.result in
    let size = c.cells_at_a_time-size.result in
    let ends : end ≡ min c.args.to (done + size) = omega (arith, c.min-end.ensures) in
    let count : c.vectors-inputs.result ≡ v = rw c.plant-2.ensures at c.vectors-inputs.ensures.count in
    let long : length c.deref_mut.result.now ≡ (end - done) * v =
    ap length c.deref_mut.ensures.value ∙ ap length c.truncate.ensures.items ∙ cut_long v size done c.args.to end ((end - done) * c.vectors-inputs.result) c.loop-done.boxes.items (c.loop-done.invariant.fits c.loop-done-test.true) ends (ap (λ (n : ℕ). (end - done) * n) count)
    in
    (end - done, long, omega (arith, ends, c.requires.cells, c.loop-done-test.true))

pub add-requires-clause-grid : goal.add-requires-clause-grid
add-requires-clause-grid g c =
    let at = (goal.at.add-requires-clause-grid g c).After-find in
    rw (axes_are g at) (sound (p g at) c.args.finder.now.sampled.within.plant).axes

pub add-requires-clause-ordered : goal.add-requires-clause-ordered
add-requires-clause-ordered g c =
    let at = (goal.at.add-requires-clause-ordered g c).After-find in
    rw (axes_are g at, c.deref.ensures.value, kept g at) (in_order g at)

pub add-requires-clause-fits : goal.add-requires-clause-fits
add-requires-clause-fits g c =
    let at = (goal.at.add-requires-clause-fits g c).After-find in
    rw (axes_are g at, c.deref.ensures.value, kept g at) (fit g at)

pub first_by_boxes-first-requires-clause-each : goal.first_by_boxes-first-requires-clause-each
first_by_boxes-first-requires-clause-each g c =
    let at = (goal.at.first_by_boxes-first-requires-clause-each g c).After-find in
    rw (c.deref-then-is_none.ensures.value, kept g at) c.find.ensures.each

pub loop-done-preserved-then-is_none : goal.loop-done-preserved-then-is_none
loop-done-preserved-then-is_none g c =
    let at = (goal.at.loop-done-preserved-then-is_none g c).After-find in
    let Right = g.J.CellJudge.is_right c.args.judge.now in
    let first = c.loop-done.first in
    let added = c.in_ok-add.ensures in
    let seen = c.deref.ensures.value ∙ kept g at in
    let seen_then = c.deref-then-is_none.ensures.value ∙ kept g at in
    let total : (edges_known c.add.new.self) ≡ (edges_known c.loop-done.known) + edges_of (axes_of (p g at)) c.find.new.boxes = rw (axes_are g at, seen) at added.edges in
    record {
      low = omega (arith, c.loop-done.invariant.low, low g at);
      high = high g at;
      fits = λ more. omega (arith, ap length (kept g at), long g at, room_left (vectors_of (p g at).inputs) c.cells_at_a_time-size.result c.loop-done.done c.args.to c.min-end.result (ends g at) more);
      knows = rw (axes_are g at) at added.known;
      found =
          finding_more (p g at) c.args.marks.now Right c.args.from c.loop-done.done c.min-end.result c.loop-done.invariant.low (low g at) (edges_known c.loop-done.known) first c.loop-done.invariant.found c.find.new.boxes (long g at) c.find.ensures.each
          (edges_known c.add.new.self) total c.first_by_boxes-first.result (λ w is. absurd (not_some first c.is_none.result w c.is_none.ensures c.if-is_none.true is))
          (λ none few. subst (λ (boxes : List (Option CellBox)). HaveFirst (p g at) c.args.marks.now Right c.loop-done.done c.min-end.result boxes c.first_by_boxes-first.result) seen_then (c.first_by_boxes-first.ensures few));
    }

pub loop-done-preserved : goal.loop-done-preserved
loop-done-preserved g c =
    let at = (goal.at.loop-done-preserved g c).After-find in
    let Right = g.J.CellJudge.is_right c.args.judge.now in
    let first = c.loop-done.first in
    let added = c.in_ok-add.ensures in
    let seen = c.deref.ensures.value ∙ kept g at in
    let total : (edges_known c.add.new.self) ≡ (edges_known c.loop-done.known) + edges_of (axes_of (p g at)) c.find.new.boxes = rw (axes_are g at, seen) at added.edges in
    record {
      low = omega (arith, c.loop-done.invariant.low, low g at);
      high = high g at;
      fits = λ more. omega (arith, ap length (kept g at), long g at, room_left (vectors_of (p g at).inputs) c.cells_at_a_time-size.result c.loop-done.done c.args.to c.min-end.result (ends g at) more);
      knows = rw (axes_are g at) at added.known;
      found =
          finding_more (p g at) c.args.marks.now Right c.args.from c.loop-done.done c.min-end.result c.loop-done.invariant.low (low g at) (edges_known c.loop-done.known) first c.loop-done.invariant.found c.find.new.boxes (long g at) c.find.ensures.each
          (edges_known c.add.new.self) total first (λ w is. is) (λ none few. absurd (not_none first c.is_none.result c.is_none.ensures c.if-is_none.false none));
    }
