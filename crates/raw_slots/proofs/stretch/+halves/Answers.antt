use Rattle.std.proofs.Common.{◌≡◌, ◌+◌, ◌-◌, ◌*◌, ◌/◌, length, take, drop, refl, subst, arith}
use Rattle.std.proofs.lemmas.List.{length-take, take-append-drop}
use Rattle.std.proofs.lemmas.Result.{IfOk-weaker}
use Rattle.raw_slots.specs.inside.Chunks.{AreFilled}
use Rattle.raw_slots.proofs.FilledParts.{halves, both_filled, joined}
use Rattle.raw_slots.proofs.stretch.+halves.Goals as goal

pub Stretch::fill-invariant_of-front : goal.Stretch::fill-invariant_of-front
Stretch::fill-invariant_of-front g t c =
    record { empty = (halves c.args.making.size c.requires.accepts.0 c.args.self c.split-front.result.0 c.split-front.result.1 c.requires.accepts.1 c.if-self-eq1.false c.split-front.ensures.front.1 c.split-front.ensures.back).front_empty }

pub Stretch::fill-invariant_of-back : goal.Stretch::fill-invariant_of-back
Stretch::fill-invariant_of-back g t c =
    record { empty = (halves c.args.making.size c.requires.accepts.0 c.args.self c.split-front.result.0 c.split-front.result.1 c.requires.accepts.1 c.if-self-eq1.false c.split-front.ensures.front.1 c.split-front.ensures.back).back_empty }

pub Stretch::fill-fill_both-requires-clause-accepts : goal.Stretch::fill-fill_both-requires-clause-accepts
Stretch::fill-fill_both-requires-clause-accepts g t c κs within =
    let cut = halves c.args.making.size c.requires.accepts.0 c.args.self c.split-front.result.0 c.split-front.result.1 c.requires.accepts.1 c.if-self-eq1.false c.split-front.ensures.front.1 c.split-front.ensures.back in (c.requires.accepts.0, cut.low, c.requires.accepts.2)

pub Stretch::fill-fill_both-requires-clause-accepts_next : goal.Stretch::fill-fill_both-requires-clause-accepts_next
Stretch::fill-fill_both-requires-clause-accepts_next g t c κs within =
    let cut = halves c.args.making.size c.requires.accepts.0 c.args.self c.split-front.result.0 c.split-front.result.1 c.requires.accepts.1 c.if-self-eq1.false c.split-front.ensures.front.1 c.split-front.ensures.back in (c.requires.accepts.0, cut.high, c.requires.accepts.2)

pub Stretch::fill-returns-clause-filled : goal.Stretch::fill-returns-clause-filled
Stretch::fill-returns-clause-filled g t c =
    let cut = halves c.args.making.size c.requires.accepts.0 c.args.self c.split-front.result.0 c.split-front.result.1 c.requires.accepts.1 c.if-self-eq1.false c.split-front.ensures.front.1 c.split-front.ensures.back in
    let all = c.fill_both.result.0 in let front = c.split-front.result.0 in
    let half = c.args.self.count / 2 in let mid = half * c.args.making.size in
    let long : length (take front.len all.slots.contents) ≡ mid = omega (arith, length-take front.len all.slots.contents, all.whole.1, c.fill_both.ensures.address.1, cut.cut) in
    IfOk-weaker c.fill_both.result.1 _ _
    (λ _ both.
    subst (AreFilled g.F.Fn c.args.making c.args.self) (take-append-drop front.len all.slots.contents)
    (both_filled g.F.Fn c.args.making c.args.self.start c.args.self.at c.args.self.count half (c.args.self.at + mid) (c.args.self.count - half) (take front.len all.slots.contents) (drop front.len all.slots.contents) cut.some cut.fewer refl long refl both.0 both.1))
    c.fill_both.ensures.filled

pub Stretch::fill_both-returns-then-depth-eq0-clause-filled : goal.Stretch::fill_both-returns-then-depth-eq0-clause-filled
Stretch::fill_both-returns-then-depth-eq0-clause-filled g t c =
    joined c.fill-front.result c.fill-back.result c.join.result c.and.result c.args.self.part.len (AreFilled g.F.Fn c.args.making c.args.self) (AreFilled g.F.Fn c.args.making c.args.next)
    c.join.ensures.contents c.fill-front.ensures.address.1 c.and.ensures c.fill-front.ensures.filled c.fill-back.ensures.filled

pub Stretch::fill_both-returns-clause-filled : goal.Stretch::fill_both-returns-clause-filled
Stretch::fill_both-returns-clause-filled g t c =
    let made = c.join-front.ensures in
    joined c.join-front.result.0 c.join-front.result.1 c.join-2.result c.and-2.result c.args.self.part.len (AreFilled g.F.Fn c.args.making c.args.self) (AreFilled g.F.Fn c.args.making c.args.next)
    c.join-2.ensures.contents made.first.0.1 c.and-2.ensures made.first.1 made.second.1
