-- A worker that cuts a pair keeps the rule.
use Rattle.std.proofs.Common.{◌≡◌, ℕ, ◌+◌, ◌/◌, ◌<◌, ◌==◌, Bool, true, false, cond, List, [], ◌∷◌, ◌++◌, arith, sym, ◌∙◌, ap, subst, append_assoc}
use Rattle.std.proofs.lemmas.List.{append-nil}
use Rattle.board_rounds.specs.Crew.{logged_cells, counters_of}
use Rattle.board_rounds.specs.Rules.{CutsOnce}
use Rattle.cell_counters.specs.declared.account.Cut.{Cut}
use Rattle.cell_counters.specs.BoardModels.{HandModel}
use Rattle.game_core.specs.Counts.{times, one_if}
use Rattle.game_core.specs.Game.{Game, pairs_of}
use Rattle.safety_game.specs.inside.KeepRounds.{IsInStep, KeepsRule}
use Rattle.safety_game.specs.inside.KeepSteps.{CutsFirst, CellCutsAfter, Cuts}
use Rattle.safety_game.proofs.InStep.{cut, times_counters, one_counter, in_step-append, quiet_in_step, first_cut_in_step}
use Rattle.base.proofs.Times.{one_if_elsewhere}

-- what a worker did for one pair
pub record HasCut (g : Game) (pair : ℕ) (was now : HandModel) : Type 0 where
  pub more : List Cut
  pub logged : List ℕ
  pub at : now.board ≡ was.board
  pub notes : now.account.notes ≡ was.account.notes
  pub offers : now.account.offers ≡ was.account.offers
  pub cuts : now.account.cuts ≡ was.account.cuts ++ more
  pub logs : logged_cells now.account.logs ≡ logged_cells was.account.logs ++ logged
  pub in_step : IsInStep g more logged
  pub once : (p : ℕ) → p < pairs_of g → times p (counters_of more) ≡ one_if (pair == p)

module _ (g : Game) (some' : 0 < g.inputs) (pair : ℕ) (lt : pair < pairs_of g) (inside : pair / g.inputs < g.cells) where
  -- not the first cut
  quiet : (was between now : HandModel) → CutsFirst g pair was between false → CellCutsAfter g (pair / g.inputs) false between now → HasCut g pair was now
  quiet was between now t same =
      let is : now ≡ record was { account = record was.account { cuts = was.account.cuts ++ cut pair t.left ∷ [] } } = same ∙ t.taken in
      let cuts : now.account.cuts ≡ was.account.cuts ++ cut pair t.left ∷ [] = ap (λ (h : HandModel). h.account.cuts) is in
      record {
        more = cut pair t.left ∷ [];
        logged = [];
        at = ap (λ (h : HandModel). h.board) is;
        notes = ap (λ (h : HandModel). h.account.notes) is;
        offers = ap (λ (h : HandModel). h.account.offers) is;
        cuts = cuts;
        logs = ap (λ (h : HandModel). logged_cells h.account.logs) is ∙ sym (append-nil (logged_cells was.account.logs));
        in_step = quiet_in_step g some' pair t.left lt (sym t.told);
        once = λ p lp. one_counter p pair t.left;
      }

  -- the first cut
  first_cut : (was between now : HandModel) → CutsFirst g pair was between true → CellCutsAfter g (pair / g.inputs) true between now → HasCut g pair was now
  first_cut was between now t h =
      let cell = pair / g.inputs in
      let first = cut pair t.left in
      let second = cut (pairs_of g + cell) h.left in
      let taken : between.account.cuts ≡ was.account.cuts ++ first ∷ [] = ap (λ (w : HandModel). w.account.cuts) t.taken in
      let cuts : now.account.cuts ≡ was.account.cuts ++ first ∷ second ∷ [] =
      h.cuts ∙ (ap (λ l. l ++ second ∷ []) taken ∙ append_assoc was.account.cuts (first ∷ []) (second ∷ [])) in
      record {
        more = first ∷ second ∷ [];
        logged = cond (h.left == 0) (cell ∷ []) [];
        at = h.at ∙ ap (λ (w : HandModel). w.board) t.taken;
        notes = h.notes ∙ ap (λ (w : HandModel). w.account.notes) t.taken;
        offers = h.offers ∙ ap (λ (w : HandModel). w.account.offers) t.taken;
        cuts = cuts;
        logs = h.logs ∙ ap (λ (w : HandModel). logged_cells w.account.logs ++ cond (h.left == 0) (cell ∷ []) []) t.taken;
        in_step = first_cut_in_step g some' pair t.left lt h.left inside (sym t.told);
        once = λ p lp.
            omega (arith, one_if_elsewhere (pairs_of g + cell) p (λ e. absurd (omega arith)));
      }

  pub has_cut : (was now : HandModel) → Cuts g pair was now → HasCut g pair was now
  has_cut was now c = by_first_cut c.first_cut c.takes c.cell_cuts
    where
      by_first_cut : (b : Bool) → CutsFirst g pair was c.between b → CellCutsAfter g (pair / g.inputs) b c.between now → HasCut g pair was now
      by_first_cut true t h = first_cut was c.between now t h
      by_first_cut false t h = quiet was c.between now t h

  pub cuts_once : (was now : HandModel) → Cuts g pair was now → CutsOnce (pairs_of g) pair was now
  cuts_once was now c =
      let one = has_cut was now c in
      record {
        at = one.at;
        notes = one.notes;
        cuts = λ p lp. ap (λ l. times p (counters_of l)) one.cuts ∙ (times_counters p was.account.cuts one.more ∙ ap (λ n. times p (counters_of was.account.cuts) + n) (one.once p lp));
      }

  pub still_kept : (was now : HandModel) → Cuts g pair was now → KeepsRule g was.account → KeepsRule g now.account
  still_kept was now c h =
      let one = has_cut was now c in
      record {
        in_step =
            subst (λ l. IsInStep g l (logged_cells now.account.logs)) (sym one.cuts)
            (subst (IsInStep g (was.account.cuts ++ one.more)) (sym one.logs)
            (in_step-append g was.account.cuts one.more (logged_cells was.account.logs) one.logged h.in_step one.in_step));
        no_offer = one.offers ∙ h.no_offer;
      }
