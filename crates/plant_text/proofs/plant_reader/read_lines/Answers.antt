use Rattle.std.proofs.Common.{arith, Err, ap}
use Rattle.line_words.specs.Lines.{lines_of}
use Rattle.plant_text.specs.PlantRefusals.{IsRefusedFor}
use Rattle.plant_text.specs.inside.DraftsInMemory.{partial_of}
use Rattle.plant_text.proofs.lemmas.LineGrammar.{at_first_line, at_next_line, refused_here, all_read, ends_early}
use Rattle.plant_text.proofs.lemmas.LineFaults.{told_reason}
use Rattle.plant_text.proofs.plant_reader.read_lines.Goals as goal

pub loop-line-init : goal.loop-line-init
loop-line-init c = at_first_line c.args.bytes.now (partial_of c.new-draft.result) c.new-draft.ensures

pub read_line-requires : goal.read_line-requires
read_line-requires c = c.loop-line.invariant.rules

pub returns-in-Err-clause-refused : goal.returns-in-Err-clause-refused
returns-in-Err-clause-refused c =
    told_reason (IsRefusedFor c.args.bytes.now) c.in-Err.fault c.at_line.result c.loop-line.number c.at_line.ensures.malformed c.at_line.ensures.memory (λ is. (
      c.requires,
      refused_here c.args.bytes.now c.loop-line.rest.now c.loop-line.number (partial_of c.loop-line.draft) c.loop-line.invariant c.in-Some.line.now c.in-Some.after.now c.in-Some.ensures.line (c.in-Err.ensures.refused (ap Err is)),
    ))

pub overflow_add-number : goal.overflow_add-number
overflow_add-number c = (let few = c.loop-line.invariant.few in let numbered = c.loop-line.invariant.numbered in let short = c.requires in let shorter = c.in-Some.ensures.shorter in omega (arith, few, numbered, short, shorter))

pub loop-line-smaller : goal.loop-line-smaller
loop-line-smaller c = c.in-Some.ensures.shorter

pub loop-line-preserved : goal.loop-line-preserved
loop-line-preserved c =
    at_next_line c.args.bytes.now c.loop-line.rest.now c.in-Some.line.now c.in-Some.after.now c.loop-line.number (partial_of c.loop-line.draft) (partial_of c.read_line.new.self) c.loop-line.invariant c.in-Some.ensures.line c.in-Some.ensures.shorter c.in_default-read_line.ensures.read c.in_default-read_line.ensures.rules

pub returns-then-not-has_ended-clause-refused : goal.returns-then-not-has_ended-clause-refused
returns-then-not-has_ended-clause-refused c = λ _. (
  c.requires,
  ends_early c.args.bytes.now c.loop-line.rest.now c.loop-line.number (partial_of c.loop-line.draft) c.loop-line.invariant (ap lines_of c.in_default.ensures.ended) (let e = c.has_ended.ensures in let f = c.if-not-has_ended.true in cc),
)

pub returns-clause-read : goal.returns-clause-read
returns-clause-read c =
    all_read c.args.bytes.now c.loop-line.rest.now c.loop-line.number (partial_of c.loop-line.draft) c.loop-line.invariant (ap lines_of c.in_default.ensures.ended) (let e = c.has_ended.ensures in let f = c.if-not-has_ended.false in cc)

pub returns-clause-rules : goal.returns-clause-rules
returns-clause-rules c = c.loop-line.invariant.rules
