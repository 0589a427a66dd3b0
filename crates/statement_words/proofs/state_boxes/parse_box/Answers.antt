use Rattle.std.proofs.Common.{◌≡◌, [], subst, arith}
use Rattle.line_words.specs.Words.{words_of}
use Rattle.statement_words.specs.LineReaders.{SpellsBox, StartsWithEnds}
use Rattle.line_words.proofs.lemmas.RefusalsPassOn.{exits_in_place}
use Rattle.line_words.proofs.lemmas.NumberWords.{whole}
use Rattle.statement_words.proofs.lemmas.BoxEnds.{AreRead, none_read, one_read_more, all_read, next_ends, no_more_ends}
use Rattle.statement_words.proofs.state_boxes.parse_box.Goals as goal

pub loop-i-init : goal.loop-i-init
loop-i-init c = none_read (words_of c.args.bytes.now)

pub returns-in_err-least : goal.returns-in_err-least
returns-in_err-least c =
    exits_in_place (λ b. b) (SpellsBox c.args.states (words_of c.args.bytes.now)) (StartsWithEnds (words_of c.loop-i.rest.now)) c.in_err-least.field-0.0 _ c.from_residual.ensures.1 c.in_err-least.ensures
    (next_ends c.loop-i.i c.args.states c.loop-i.low c.loop-i.high (words_of c.args.bytes.now) (words_of c.loop-i.rest.now) c.loop-i.invariant c.loop-i-test.true)

pub loop-i-preserved : goal.loop-i-preserved
loop-i-preserved c =
    let ends = c.in_ok-least.ensures in
    rw (whole c.in_ok-least.least ends.0.0, whole c.in_ok-least.greatest ends.0.1)
    (one_read_more c.loop-i.i c.loop-i.low c.loop-i.high (words_of c.args.bytes.now) (words_of c.loop-i.rest.now) (words_of c.in_ok-least.after.now) c.in_ok-least.least c.in_ok-least.greatest (omega (arith, c.requires)) c.loop-i.invariant ends)

pub returns-in_err-expect_end : goal.returns-in_err-expect_end
returns-in_err-expect_end c =
    exits_in_place (λ b. b) (SpellsBox c.args.states (words_of c.args.bytes.now)) (λ (_ : Unit {0}). words_of c.loop-i.rest.now ≡ []) c.in_err-expect_end.field-0.0 _ c.from_residual-in_err-expect_end.ensures.1 c.in_err-expect_end.ensures
    (λ b h. (tt, no_more_ends c.loop-i.i c.args.states c.loop-i.low c.loop-i.high (words_of c.args.bytes.now) (words_of c.loop-i.rest.now) c.loop-i.invariant (omega arith) b h))

pub returns : goal.returns
returns c =
    let ended : c.loop-i.i ≡ c.args.states = omega arith in
    all_read c.args.states c.loop-i.low c.loop-i.high (words_of c.args.bytes.now) (words_of c.loop-i.rest.now)
    (subst (λ i. AreRead i c.loop-i.low c.loop-i.high (words_of c.args.bytes.now) (words_of c.loop-i.rest.now)) ended c.loop-i.invariant) c.in_ok-expect_end.ensures
