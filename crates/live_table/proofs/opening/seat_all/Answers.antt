use Rattle.std.proofs.Common.{◌≡◌, ◌+◌, false, List, [], ◌∷◌, ◌++◌, length, Result, Ok, Err, is_ok, is_err, if◌then◌else◌, All, length-append, ap, sym, subst, ◌∙◌}
use Rattle.std.proofs.lemmas.List.Elements.{All-push}
use Rattle.live_table.specs.Publishes.{Listener, newcomer}
use Rattle.live_table.proofs.opening.seat_all.Goals as goal

-- what a push that succeeds leaves
pushed : {T E A : Type 0} (r : Result T E) (more same now : List A) → now ≡ (if is_ok r then more else same) → is_err r ≡ false → now ≡ more
pushed (Ok x) more same now is ok = is
pushed (Err e) more same now is ok = absurd (cc)

pub loop-preserved : goal.loop-preserved
loop-preserved c =
    let P : Listener → Type 0 = λ r. r ≡ newcomer c.args.publisher.now in
    let all = c.loop.all.items in
    let reader = c.seated-reader.result in
    let more : c.push.new.self.items ≡ all ++ reader ∷ [] = pushed c.push.result (all ++ reader ∷ []) all c.push.new.self.items c.push.ensures.items (sym c.is_err.ensures.value ∙ c.if-is_err.false) in
    let new : P reader = c.seated-reader.ensures ∙ ap newcomer (c.in_ok-tell.ensures.told ∙ c.loop.invariant.0) in (
      c.tell.ensures.same ∙ c.loop.invariant.0,
      ap length more ∙ (length-append all (reader ∷ []) ∙ ap (λ n. n + 1) c.loop.invariant.1),
      subst (All P) (sym more) (All-push P all reader c.loop.invariant.2 new),
    )
