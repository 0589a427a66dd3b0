use Rattle.plant_text.specs.inside.DraftsInMemory.{partial_of}
use Rattle.plant_text.proofs.lemmas.FrontGrammar.{at_front}
use Rattle.plant_text.proofs.front_reader.read_front.Goals as goal

pub returns-in-Ok-clause-read : goal.returns-in-Ok-clause-read
returns-in-Ok-clause-read c =
    let read = c.in_ok-draft.ensures in
    (at_front c.args.bytes.now c.in_ok-draft.length (partial_of c.in_ok-draft.draft) c.in-Ok.plant read.rules read.orderly read.within read.text c.in-Ok.ensures.whole, c.in-Ok.ensures.limits)

pub returns-in-Err-clause-refused : goal.returns-in-Err-clause-refused
returns-in-Err-clause-refused c = λ _.
    let read = c.in_ok-draft.ensures in
    let p = c.in-Err.ensures.exceeded in
    (p.0, c.in_ok-draft.length, at_front c.args.bytes.now c.in_ok-draft.length (partial_of c.in_ok-draft.draft) p.0 read.rules read.orderly read.within read.text p.1, p.2)
