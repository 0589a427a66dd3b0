-- Loops of the answers of texts that were written: each is a followed loop, of which more is known.
use Rattle.std.proofs.Common.{inl, inr, ℕ, zero, suc, List, [], ◌∷◌, map, take, refl, sym, subst, arith}
use Rattle.std.specs.List.{Any}
use Rattle.std.proofs.lemmas.List.{length-map}
use Rattle.text_control.specs.Texts.{TextModel}
use Rattle.text_control.specs.Loops.{LoopSample}
use Rattle.text_control.specs.Visits.{with_turn}
use Rattle.text_control.specs.Laws.{EndsTurn}
use Rattle.text_control.specs.Followed.{FollowedSample}
use Rattle.driven_loops.specs.Followed.{followed_of, FollowedEndsTurn}
use Rattle.driven_loops.specs.Laws.{WrittenTablesEnd, WrittenTablesKeep, WrittenStayTextsSettle, WrittenPatrolTextsGoOn}
use Rattle.driven_loops.proofs.Ending.{followed_tables_end, followed_tables_keep}
use Rattle.driven_loops.proofs.Settling.{followed_stay_texts_settle}
use Rattle.driven_loops.proofs.Patrolling.{followed_patrol_texts_go_on}
use Rattle.driven_loops.proofs.Following.{loops_are_followed}

-- the samples of a loop, as a followed loop's
abbrev seen : TextModel → List LoopSample → List FollowedSample
seen t samples = map (followed_of t.plant) samples

pub written_tables_end : WrittenTablesEnd
written_tables_end p bytes text t spells goal given read =
    let h = followed_tables_end p bytes text t spells goal given read in (
      h.0,
      λ x y k samples rank loop.
          let end = h.1 x y k (seen t samples) rank ((loops_are_followed bytes text t read).0 (inl given) x y samples loop) in
          let rest = end.1 in
          let le = rest.2 in
          (end.0, (rest.0, rest.1, omega (arith, le, length-map samples (followed_of t.plant)), rest.3, rest.4)),
    )

pub written_tables_keep : WrittenTablesKeep
written_tables_keep p bytes text t spells goal given read =
    let h = followed_tables_keep p bytes text t spells goal given read in (
      h.0,
      λ x y k samples rank loop.
          let end = h.1 x y k (seen t samples) rank ((loops_are_followed bytes text t read).0 (inl given) x y samples loop) in
          (end.0, end.1, end.2),
    )

pub written_stay_texts_settle : WrittenStayTextsSettle
written_stay_texts_settle p bytes text t spells given read =
    let h = followed_stay_texts_settle p bytes text t spells given read in (
      h.0,
      λ x y k samples rank loop.
          let end = h.1 x y k (seen t samples) rank ((loops_are_followed bytes text t read).0 (inr given) x y samples loop) in
          let rest = end.3 in
          let low = rest.2 in
          (end.0, end.1, λ le. end.2 (omega (arith, le, length-map samples (followed_of t.plant))), (rest.0, rest.1, omega (arith, low, length-map samples (followed_of t.plant)))),
    )

-- a sample that ends a turn is one of the loop's
ends_turn : (t : TextModel) (n : ℕ) (samples : List LoopSample) → Any (FollowedEndsTurn t) (take n (seen t samples)) → Any (EndsTurn t) (take n samples)
ends_turn t zero [] (i, f, lt, at, is) = absurd (omega (arith, lt))
ends_turn t (suc n) [] (i, f, lt, at, is) = absurd (omega (arith, lt))
ends_turn t zero (s ∷ samples) (i, f, lt, at, is) = absurd (omega (arith, lt))
ends_turn t (suc n) (s ∷ samples) (zero, f, lt, at, is) = (0, s, omega arith, refl, subst (FollowedEndsTurn t) (sym at) is)
ends_turn t (suc n) (s ∷ samples) (suc i, f, lt, at, is) =
    let rest = ends_turn t n samples (i, f, omega (arith, lt), at, is) in
    (suc rest.0, rest.1, omega (arith, rest.2), rest.3, rest.4)

pub written_patrol_texts_go_on : WrittenPatrolTextsGoOn
written_patrol_texts_go_on p bytes text t spells given read =
    let h = followed_patrol_texts_go_on p bytes text t spells given read in (
      h.0,
      λ j x y k samples u rank loop.
          let end = h.1 j x y k (seen t samples) u rank ((loops_are_followed bytes text t read).1 given j x y samples u loop) in
          (end.0, end.1, λ le. ends_turn (with_turn t j) k samples (end.2 (omega (arith, le, length-map samples (followed_of t.plant)))), end.3, end.4),
    )
