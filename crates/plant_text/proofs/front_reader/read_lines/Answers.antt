use Rattle.std.proofs.Common.{Err, ap, sym, ◌∙◌}
use Rattle.plant_text.specs.CanonicalFronts.{IsFrontRefusedFor}
use Rattle.plant_text.specs.inside.DraftsInMemory.{partial_of}
use Rattle.plant_text.proofs.lemmas.FrontGrammar.{at_first_line, at_next_line, refused_here, no_line_left, read_text, read_way}
use Rattle.plant_text.proofs.lemmas.LineFaults.{told_reason}
use Rattle.plant_text.proofs.front_reader.read_lines.Goals as goal

pub loop-alloc-init : goal.loop-alloc-init
loop-alloc-init c = at_first_line c.args.bytes.now (partial_of c.new-draft.result) c.new-draft.ensures

pub returns-in_default-clause-refused : goal.returns-in_default-clause-refused
returns-in_default-clause-refused c = λ _.
    no_line_left c.args.bytes.now c.loop-alloc.rest.now c.loop-alloc.number (partial_of c.loop-alloc.draft) c.loop-alloc.invariant (sym c.has_ended.ensures ∙ c.loop-alloc-test.true) c.in_default.ensures.endless

pub returns-in-Err-clause-refused : goal.returns-in-Err-clause-refused
returns-in-Err-clause-refused c =
    told_reason (IsFrontRefusedFor c.args.bytes.now) c.in-Err.fault c.at_line.result c.loop-alloc.number c.at_line.ensures.malformed c.at_line.ensures.memory (λ is.
    refused_here c.args.bytes.now c.loop-alloc.rest.now c.loop-alloc.number (partial_of c.loop-alloc.draft) c.loop-alloc.invariant (sym c.has_ended.ensures ∙ c.loop-alloc-test.true) c.in-Some.line.now c.in-Some.after.now c.in-Some.ensures.line
    (c.in-Err.ensures.refused (ap Err is)))

pub loop-alloc-preserved : goal.loop-alloc-preserved
loop-alloc-preserved c =
    at_next_line c.args.bytes.now c.loop-alloc.rest.now c.in-Some.line.now c.in-Some.after.now c.loop-alloc.number (partial_of c.loop-alloc.draft) (partial_of c.read_canonical_line.new.self) c.loop-alloc.invariant c.in-Some.ensures.cut c.in-Some.ensures.shorter
    c.in_default-read_canonical_line.ensures.read c.in_default-read_canonical_line.ensures.rules

pub returns-clause-orderly : goal.returns-clause-orderly
returns-clause-orderly c =
    let up = c.loop-alloc.invariant in
    (read_way c.args.bytes.now c.loop-alloc.rest.now up.pieces (partial_of c.loop-alloc.draft) up.read).orderly

pub returns-clause-text : goal.returns-clause-text
returns-clause-text c =
    let up = c.loop-alloc.invariant in
    read_text c.args.bytes.now c.loop-alloc.rest.now up.pieces (partial_of c.loop-alloc.draft) up.read
