-- What C is told makes followed loops.
use Rattle.std.proofs.Common.{inl, inr, ◌≡◌, ℕ, List, [], ◌∷◌, Option, Some, None, refl, subst}
use Rattle.std.specs.Prelude.{ℤ, pos}
use Rattle.plant_record.specs.Description.{Description}
use Rattle.text_control.specs.declared.follow.Follow.{Follow}
use Rattle.text_control.specs.declared.follow.Follow.TheVariants.{Inside, Outside, NoInput, WrongSizes, Overflow}
use Rattle.text_control.specs.declared.control_fault.ControlFault.{ControlFault}
use Rattle.text_control.specs.declared.control_fault.ControlFault.TheVariants.{Malformed, Limit, Memory}
use Rattle.text_control.specs.Texts.{TextModel, IsReadFrom}
use Rattle.text_control.specs.Control.{IsRank}
use Rattle.text_control.specs.Loops.{Answers}
use Rattle.text_control.specs.Followed.{FollowedSample, IsInItsBox, IsSized, IsFollow, follow_number}
use Rattle.text_control.specs.Calls.{fault_number, IsOpened, IsRanked, IsFollowed}
use Rattle.driven_loops.specs.Followed.{IsFollowedLoop, IsFollowedPatrolLoop}
use Rattle.driven_loops.specs.CalledLoops.{IsCalledSample, IsCalledLoop, IsCalledPatrolLoop, CallsAreFollowed}

no_fault : (fault : ControlFault) → pos 0 ≡ fault_number fault → ⊥
no_fault (Malformed line) number = absurd (cc)
no_fault Limit number = absurd (cc)
no_fault Memory number = absurd (cc)

opened : (bytes : List ℕ) (held : Option TextModel) (line : ℕ) → IsOpened bytes held (pos 0) line → (t : TextModel) × (held ≡ Some t) × IsReadFrom bytes t
opened bytes None line is = absurd (no_fault is.fault is.number)
opened bytes (Some t) line is = (t, refl, is.2)

ranked : (t : TextModel) (x : List ℤ) (k : ℕ) → IsRanked (Some t) x k (pos 1) → IsRank t x k
ranked t x k told = elim told [
  | inl one ↦ one.2
  | inr other ↦ elim other [
    | inl none ↦ let number = none.0 in absurd (cc)
    | inr wrong ↦ let number = wrong.0 in absurd (cc)
  ]
]

-- an answer 1 says that the next state lies in its box
inside : (p : Description) (s : FollowedSample) (f : Follow) → pos 1 ≡ follow_number f → IsFollow p s f → IsSized p s × IsInItsBox p s
inside p s Inside number is = (is.0, is.3)
inside p s Outside number is = absurd (cc)
inside p s NoInput number is = absurd (cc)
inside p s WrongSizes number is = absurd (cc)
inside p s Overflow number is = absurd (cc)

told_inside : (t : TextModel) (s : FollowedSample) → IsFollowed (Some t) s.state s.values s.next (pos 1) → IsSized t.plant s × IsInItsBox t.plant s
told_inside t s told = inside t.plant s told.0 told.1 told.2

answers : (t : TextModel) (x : List ℤ) (s : FollowedSample) → s.state ≡ x → IsCalledSample (Some t) s → Answers t x s.values
answers t x s at called = subst (λ (z : List ℤ). Answers t z s.values) at called.0

followed : (t : TextModel) (x y : List ℤ) (samples : List FollowedSample) → IsCalledLoop (Some t) x samples y → IsFollowedLoop t x samples y
followed t x y [] loop = loop
followed t x y (s ∷ samples) loop = (loop.0, answers t x s loop.0 loop.1, (told_inside t s loop.1.1).1, followed t s.next y samples loop.2)

followed_patrol : (t : TextModel) (x y : List ℤ) (samples : List FollowedSample) (last : Option TextModel) → IsCalledPatrolLoop (Some t) x samples last y
    → (u : TextModel) × (last ≡ Some u) × IsFollowedPatrolLoop t x samples u y
followed_patrol t x y [] last loop = (t, loop.0, (refl, loop.1))
followed_patrol t x y (s ∷ samples) last loop =
    let there = loop.2 in
    let visited = there.3 in
    let m : TextModel = visited.0 in
    let rest = followed_patrol m s.next y samples last (subst (λ (held : Option TextModel). IsCalledPatrolLoop held s.next samples last y) visited.1 there.4) in
    let box = told_inside t s loop.1.1 in
    (rest.0, rest.1, (loop.0, answers t x s loop.0 loop.1, box.1, box.0.next_states, (m, there.2, visited.3, rest.2)))

pub calls_are_followed : CallsAreFollowed
calls_are_followed = (opened, ranked, followed, followed_patrol)
