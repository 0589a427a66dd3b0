-- A worker that does an item of a round.
use Rattle.std.proofs.Common.{◌≡◌, ℕ, ◌+◌, ◌<◌, ◌==◌, List, [], ◌∷◌, ◌++◌, All, sum_by, arith, refl, sym, ◌∙◌, ap, subst}
use Rattle.std.proofs.lemmas.List.Sums.{sum_by_push}
use Rattle.cell_counters.specs.declared.account.Account.{Account}
use Rattle.cell_counters.specs.BoardModels.{BoardModel, HandModel, blank, with_note}
use Rattle.frontier_pool.specs.declared.member.Member.{Member}
use Rattle.game_core.specs.Counts.{one_if, times}
use Rattle.game_core.specs.Game.{Game, pairs_of}
use Rattle.board_rounds.specs.Crew.{IsFresh, counters_of}
use Rattle.board_rounds.specs.Rules.{CutsOnce}
use Rattle.board_rounds.specs.inside.WorkerSteps.{cuts_for, IsAtWork, AllAtWork}

-- a worker that has cut these pairs since it was at work
pub record IsUnderWay (g : Game) (keeps : Account → Type 0) (board : BoardModel) (list : List ℕ) (pairs : List ℕ) (was now : HandModel) : Type 0 where
  pub at : now.board ≡ board
  pub notes : now.account.notes ≡ was.account.notes
  pub cuts : (p : ℕ) → p < pairs_of g → times p (counters_of now.account.cuts) ≡ sum_by (cuts_for g list p) was.account.notes + times p pairs
  pub kept : keeps now.account

module _ (g : Game) (fits : BoardModel → Type 0) (keeps : Account → Type 0) (board : BoardModel) (list : List ℕ) where
  -- new workers are at work in any round
  pub fresh_have_worked : fits board → keeps blank → (members : List (Member HandModel)) → All (IsFresh board) members → AllAtWork g fits keeps board list members
  fresh_have_worked of_game kept members h i d lt = subst (IsAtWork g fits keeps board list) (sym (h i d lt)) (record { of_game = of_game; at = refl; cuts = λ pair lp. refl; kept = kept })

  module _ (was : HandModel) where
    pub sets_out : IsAtWork g fits keeps board list was → IsUnderWay g keeps board list [] was was
    sets_out h = record { at = h.at; notes = refl; cuts = λ p lt. let e = h.cuts p lt in let z : times p [] ≡ 0 = refl in omega arith; kept = h.kept }

    pub goes_on : (pairs : List ℕ) (pair : ℕ) (now next : HandModel) → IsUnderWay g keeps board list pairs was now → CutsOnce (pairs_of g) pair now next → (keeps now.account → keeps next.account) → IsUnderWay g keeps board list (pairs ++ pair ∷ []) was next
    goes_on pairs pair now next h c keep = record {
      at = c.at ∙ h.at;
      notes = c.notes ∙ h.notes;
      cuts = λ p lt. let before = h.cuts p lt in let once = c.cuts p lt in let push = sum_by_push (λ n. one_if (n == p)) pairs pair in omega arith;
      kept = keep h.kept;
    }

    -- the worker has noted the item whose pairs it cut
    pub comes_back : fits board → (pairs : List ℕ) (item : ℕ) (now next : HandModel) → ((a : Account) (item : ℕ) → keeps a → keeps (with_note a item)) → ((pair : ℕ) → pair < pairs_of g → times pair pairs ≡ cuts_for g list pair item)
        → IsUnderWay g keeps board list pairs was now → next ≡ record now { account = with_note now.account item } → IsAtWork g fits keeps board list next
    comes_back of_game pairs item now next noted each h e =
        subst (IsAtWork g fits keeps board list) (sym e) (record {
          of_game = of_game;
          at = h.at;
          cuts = λ p lt.
              let push = sum_by_push (cuts_for g list p) was.account.notes item in
              let notes = ap (λ (l : List ℕ). sum_by (cuts_for g list p) (l ++ item ∷ [])) h.notes in
              omega arith;
          kept = noted now.account item h.kept;
        })
