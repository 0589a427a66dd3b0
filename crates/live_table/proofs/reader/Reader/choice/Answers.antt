use Rattle.std.proofs.Common.{refl, sym}
use Rattle.left_right.specs.Sides.{view as known}
use Rattle.live_table.proofs.Covering.{covers_same, covers_less, covers_found}
use Rattle.live_table.proofs.reader.Reader.choice.Goals as goal

pub invariant_of-self-2 : goal.invariant_of-self-2
invariant_of-self-2 c =
    let before = c.self.inside in let k = c.in_ok-answer.ensures in let found = c.in_ok-answer.prefix in
    let w = known c.replace_with.new.dest.place in
    let told = covers_found (known before.copies.place) w before.told found c.self.invariant.1 k.0 k.1 in
    let mine = covers_same w found k.1 in
    (mine, covers_less w before.told found mine told.0 told.1)

pub returns : goal.returns
returns c =
    let before = c.self.inside in let k = c.in_ok-answer.ensures in let found = c.in_ok-answer.prefix in
    let v = known before.copies.place in let w = known c.replace_with.new.dest.place in
    let seen = covers_found v w before.seen found c.self.invariant.0 k.0 k.1 in
    let told = covers_found v w before.told found c.self.invariant.1 k.0 k.1 in
    rw (← c.self.view_is) (record {
      answer = record { goes_on_from_seen = seen.1; goes_on_from_told = told.1; counts = k.2; chooses = k.3 };
      same = (refl, sym seen.0);
    })
