-- A worker that cuts a pair keeps the rule.
use Rattle.std.proofs.Common.{◌≡◌, ℕ, suc, ◌<◌, ◌==◌, Bool, true, false, cond, [], ◌∷◌, ◌++◌, map, All, sym, ◌∙◌, ap, subst}
use Rattle.std.proofs.lemmas.List.{map_push, append-nil}
use Rattle.std.proofs.lemmas.List.Elements.{All-push}
use Rattle.std.proofs.lemmas.List.Sums.{sum_by_push}
use Rattle.cell_counters.specs.declared.account.Cut.{Cut}
use Rattle.cell_counters.specs.BoardModels.{HandModel}
use Rattle.game_core.specs.Counts.{times, one_if}
use Rattle.game_core.specs.Game.{Game, pairs_of}
use Rattle.board_rounds.specs.Rules.{CutsOnce}
use Rattle.reach_avoid.specs.ReachReckoned.{word_and_value, due_offer}
use Rattle.reach_avoid.specs.inside.ReachRounds.{last_cuts, KeepsRule}
use Rattle.reach_avoid.specs.inside.ReachSteps.{Cuts}
use Rattle.reach_avoid.proofs.Added.{last_cuts-append}

module _ (g : Game) (rank pair : ℕ) (was now : HandModel) (c : Cuts g rank pair was now) where
  pub cuts_once : CutsOnce (pairs_of g) pair was now
  cuts_once = record {
    at = c.at;
    notes = c.notes;
    cuts = λ p lt.
        ap (λ l. times p (map (λ (c : Cut). c.counter) l)) c.cuts
        ∙ (ap (times p) (map_push (λ (c : Cut). c.counter) was.account.cuts (record { counter = pair; left = c.left }))
        ∙ sum_by_push (λ n. one_if (n == p)) (map (λ (c : Cut). c.counter) was.account.cuts) pair);
  }

  pub still_kept : pair < pairs_of g → KeepsRule g rank was.account → KeepsRule g rank now.account
  still_kept below h =
      let cut : Cut = record { counter = pair; left = c.left } in
      let cuts = was.account.cuts in
      record {
        no_other_cut = subst (λ l. All (λ (c : Cut). c.counter < pairs_of g) l) (sym c.cuts) (All-push (λ (c : Cut). c.counter < pairs_of g) cuts cut h.no_other_cut below);
        offers = c.offers ∙ (offers_due (c.left == 0) ∙ ap (map (due_offer g (suc rank))) (sym (ap last_cuts c.cuts ∙ last_cuts-append cuts (cut ∷ []))));
        logs = c.logs h.logs;
      }
    where
      offers_due : (b : Bool) → map word_and_value was.account.offers ++ cond b (due_offer g (suc rank) pair ∷ []) [] ≡ map (due_offer g (suc rank)) (last_cuts was.account.cuts ++ map (λ (c : Cut). c.counter) (cond b (record { counter = pair; left = c.left } ∷ []) []))
      offers_due true = ap (λ l. l ++ due_offer g (suc rank) pair ∷ []) h.offers ∙ sym (map_push (due_offer g (suc rank)) (last_cuts was.account.cuts) pair)
      offers_due false = append-nil (map word_and_value was.account.offers) ∙ (h.offers ∙ ap (map (due_offer g (suc rank))) (sym (append-nil (last_cuts was.account.cuts))))
