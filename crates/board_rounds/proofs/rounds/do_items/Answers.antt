use Rattle.std.proofs.Common.{◌≡◌, ℕ, ◌++◌, List, length, take, drop, All, IsPermutation, sym, ◌∙◌, subst, arith, take_all}
use Rattle.std.specs.List.{range_with_len}
use Rattle.std.proofs.lemmas.List.{take-append-le}
use Rattle.board_rounds.specs.Crew.{IsFresh, notes_of}
use Rattle.board_rounds.specs.inside.WorkerSteps.{AllAtWork}
use Rattle.board_rounds.proofs.Crews.{notes_swept}
use Rattle.board_rounds.proofs.Here.{here}
use Rattle.board_rounds.proofs.Working.{fresh_have_worked}
use Rattle.board_rounds.proofs.rounds.do_items.Goals as goal

-- a slice of a whole vector writes back to all of it
written : {X : Type 0} (len : ℕ) (now rest : List X) → length now ≡ len → now ≡ take len (now ++ rest)
written len now rest e = sym (take-append-le len now rest (omega arith) ∙ take_all len now (omega arith))

pub work-requires-clause-sound : goal.work-requires-clause-sound
work-requires-clause-sound g c =
    let round_job = c.args.round_job.now in
    λ _ _. fresh_have_worked (g.L.Rule.game round_job.rule.now) (g.L.Rule.fits round_job.rule.now) (g.L.Rule.keeps round_job.rule.now round_job.round) round_job.board.now round_job.list.now
    c.requires.board (((g.met.L.Rule g.world.𝓛 g.world.𝓜 g.world.𝓡 (here g.world)).leads_on round_job.rule.now round_job.board.now c.requires.board).fresh round_job.round) c.as_mut_slice.result.now (subst (All (IsFresh round_job.board.now)) (sym c.as_mut_slice.ensures.value) c.requires.fresh)

pub returns-clause-worked : goal.returns-clause-worked
returns-clause-worked g c =
    let round_job = c.args.round_job.now in
    let now = c.work.new.members in
    subst (AllAtWork (g.L.Rule.game round_job.rule.now) (g.L.Rule.fits round_job.rule.now) (g.L.Rule.keeps round_job.rule.now round_job.round) round_job.board.now round_job.list.now)
    (written c.args.members.now.len now (drop (length now) c.args.members.now.items) (omega (arith, c.work.auto.members, c.as_mut_slice.ensures.len)))
    c.work.ensures.sound

pub returns-clause-swept : goal.returns-clause-swept
returns-clause-swept g c =
    let round_job = c.args.round_job.now in
    let now = c.work.new.members in
    subst (λ l. IsPermutation (range_with_len 0 round_job.items) (notes_of l))
    (written c.args.members.now.len now (drop (length now) c.args.members.now.items) (omega (arith, c.work.auto.members, c.as_mut_slice.ensures.len)))
    (notes_swept round_job.board.now c.as_mut_slice.result.now now round_job.items (subst (All (IsFresh round_job.board.now)) (sym c.as_mut_slice.ensures.value) c.requires.fresh) c.work.ensures.swept)
