use Rattle.std.proofs.Common.{◌≡◌, ◌∙◌, length, drop, replicate, refl, ap, arith}
use Rattle.std.proofs.lemmas.List.{take_at}
use Rattle.raw_slots.proofs.Stretches.{is_chunk}
use Rattle.raw_slots.proofs.FilledParts.{one_call, cleared}
use Rattle.raw_slots.proofs.stretch.Stretch.make_chunk.Goals as goal

pub call_on-requires : goal.call_on-requires
call_on-requires g c = λ p is.
    let before = cleared c.args.self.now.part.len c.in_ok-chunk.chunk.len c.args.self.now.start c.in_ok-chunk.chunk.items c.resize.new.self.items c.in_ok-chunk.ensures.items c.in_ok-chunk.ensures.len c.in_ok-resize.ensures.items in
    c.requires.accepts.2 c.args.self.now.at p (is_chunk c.args.making.size c.requires.accepts.0 c.args.self.now.at c.args.self.now.count c.args.self.now.part.len c.requires.accepts.1 c.args.self.now.start p.now c.requires.one (is ∙ c.deref_mut.ensures.value ∙ before))

pub returns-clause-made : goal.returns-clause-made
returns-clause-made g c =
    let found = c.call_on.new.chunk in
    let before = cleared c.args.self.now.part.len c.in_ok-chunk.chunk.len c.args.self.now.start c.in_ok-chunk.chunk.items c.resize.new.self.items c.in_ok-chunk.ensures.items c.in_ok-chunk.ensures.len c.in_ok-resize.ensures.items in
    let len : length found ≡ c.resize.new.self.len = omega (arith, c.deref_mut.ensures.len, c.call_on.auto.chunk) in
    let many : c.args.self.now.part.len ≡ length found = omega (arith, len, c.in_ok-resize.ensures.len) in
    rw (take_at found (drop (length found) c.resize.new.self.items) c.resize.new.self.len len) (
      found,
      refl,
      λ total all s stands.
          one_call g.F.Fn c.args.making c.args.self.now.start c.args.self.now.at c.args.self.now.count total c.deref_mut.result.now found all c.requires.one s
          (c.deref_mut.ensures.value ∙ before ∙ ap (λ n. replicate n c.args.self.now.start) many) c.call_on.ensures stands,
    )
