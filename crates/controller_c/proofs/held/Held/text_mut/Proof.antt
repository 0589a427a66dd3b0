-- `text_mut` lends the text, and the holder follows it.
use Rattle.std.proofs.Common.{◌≡◌, ℕ, List, [], ◌∷◌, refl, sym, subst}
use base.Fraction.{full_share}
use base.Fml.{Fml, GName, ftrue, fsep, flft}
use base.Logic.{ent, sep, never, fst∗}
use contract.Monad.{fact}
use contract.Running.{tables}
use denote.Follow.{follows, lends_Part}
use denote.Memory.{mem, cell_at, part_at, part_of, lone}
use denote.RawPtr.{Ptr, block_ptr, null_ptr, ptr_val, in_a_block}
use denote.Ref.{MutRef, mut_vals, mut_Tells}
use denote.Signature.{plain, mut_ref_to}
use denote.Steps.{nothing, heard, opens}
use denote.Triple.Walked.{Stays, says, stay_dropped, walk_of, ends_at, Goes-spent_ref}
use mir.Raw.{raw as bare}
use mir.Syntax.{named}
use mir.Val.{Val, vptr}
use seplogic.Ra.Ura.{Ura}
use types.ByLocal.{alloc_all, pass_all, free_all, look_at, get, through, sets, sets_last, env}
use types.Kit.{‵, raw, ◌⊛◌, some, later, at_ret, ◌$◌, ◌∵◌, !, qed, done, move, keep, use1, split, split3, join, fsplit, fsplit3, fjoin, fpack, pick, await, rewrite, suffices, frame, group}
use types.Logic.{Logic, sem}
use types.Part.{whole, sub, look_in}
use types.Run.{stop, fld, load, of_opd, addr, first, blocks, exec, returns, enter}
use Rattle.core.proofs.alloc.Shapes.{after}
use Rattle.std.specs.Prelude.{Option, Some, IsSome}
use Rattle.std.proofs.raw_atomic.Walks.{proved}
use Rattle.std_alloc.specs.Box.Ownership.{box_owns}
use Rattle.std_heap.specs.contracts.Global.{the_row as Z}
use Rattle.std_heap.specs.contracts.GlobalAllocator.TheImpl.{ghosts as g}
use Rattle.text_control.specs.Texts.{TextModel}
use Rattle.text_control.specs.contracts.packed_text.PackedText.{the_row as R}
use Rattle.controller_c.specs.Ownership.{held_at}
use Rattle.controller_c.specs.inside.Lending.{holding}
use Rattle.controller_c.proofs.Values.{both}
use Rattle.controller_c.proofs.HeldValues.{held_out, held_in, some_of}
use Rattle.controller_c.specs.contracts.held.Held.{the_row as Row}
use Rattle.controller_c.specs.contracts.held.Held.text_mut as f
use Rattle.controller_c.proofs.held.Held.text_mut.Statement.{statement}
use Rattle.controller_c.proofs.held.Held.text_mut.Code as code

abbrev stayed : Stays f.ended.signature.params f.ended.kept
stayed = (stay_dropped (mut_ref_to (0 ∷ []) tt (plain (λ _. Row))) f.ended.kept.0, tt)

-- all of the holder but its text
abbrev Rest : Row.Denot → Val → (b o rb ro : ℕ) → Fml
Rest h hv b o rb ro = fsep (fsep (g.dealloc_token h.alloc (bare (lone R.mir)) (block_ptr b o)) (Z.own_val h.alloc (hv ∷ []))) (cell_at full_share Row.mir (both (vptr b o) hv ∷ []) rb ro)

module _ {M : Type 1} {𝓤 : Ura M} (𝓛 : Logic 𝓤) where
  back : (h : Row.Denot) (hv : Val) (b o rb ro : ℕ) → h.at ≡ block_ptr b o → (w : R.Denot) → ent 𝓤 (sep 𝓤 (sem 𝓛 ((mem R).own_at w b o)) (sem 𝓛 (Rest h hv b o rb ro))) (sem 𝓛 ((mem Row).own_at (holding h w) rb ro))
  unfolding part_of
  back h hv b o rb ro e w =
      let word = both (ptr_val h.at) hv in
      qed 𝓛 (‵ (part_at R full_share w b o) ∷ ‵ (Rest h hv b o rb ro) ∷ []) ∵ move ! (1 ∷ []) $ fsplit ! $ fsplit ! $ move ! (3 ∷ 0 ∷ []) $ fjoin ! $
      rewrite ! 0 (λ (p : Ptr). ‵ (held_at h.alloc p (Some w))) (sym e) refl $ rewrite ! 2 (λ (p : Ptr). ‵ (cell_at full_share Row.mir (both (ptr_val p) hv ∷ []) rb ro)) (sym e) refl $
      held_in ! (holding h w) hv $ move ! (1 ∷ 0 ∷ []) $ fjoin ! $
      fpack ! (List Val) (λ us. fsep (cell_at full_share Row.mir us rb ro) (Row.own_val (holding h w) us)) (word ∷ []) $ done !

pub text_mut_spec : {M : Type 1} → statement M
text_mut_spec 𝓤 𝓛 𝓜 𝓡 wired =
    let c = f.clauses 𝓛 𝓜.mem 𝓡.returns in let W = walk_of 𝓛 f.ended stayed c in let 𝓣 = tables 𝓤 𝓛.H 𝓜 𝓡 𝓡.env in
    proved 𝓛 f.ended stayed c 𝓜 𝓡 (Goes-spent_ref 𝓛 1 (0 ∷ []) tt (plain (λ _. Row)), tt)
    f.Key.name code.function (code.unfolded 𝓤 𝓛.H 𝓜 𝓡 wired)
    (λ κs. (mut_vals, tt)) (λ κs. (mut_Tells (named 0) κs.0 Row, tt)) (λ κs qs bounds a _ are.
    let κ = κs.0 in let q = qs.0 in let rb = a.0.ref_ptr.0 in let ro = a.0.ref_ptr.1 in let γ = a.0.ghost_name in let h = a.0.now in let vs = mut_vals a.0 in
    let y : W.Ghost = ((κs, qs, bounds, a, (vs, tt)), tt) in
    qed 𝓛 (((‵ (flft κ q) ⊛ ‵ ftrue) ⊛ ‵ ((MutRef (named 0) κ Row).own_val a.0 vs) ⊛ ‵ ftrue) ∷ raw (fact 𝓤 (IsSome h.text)) ∷ []) ∵
    split ! $ split ! $ move ! (2 ∷ []) $ split ! $ keep ! (4 ∷ 0 ∷ 2 ∷ []) $ heard ! (IsSome h.text) (λ some_text. let x = (some_of h.text some_text).0 in let is = (some_of h.text some_text).1 in
    enter ! _ _ _ _ _ $ alloc_all ! (λ l. pass_all ! refl ((tt, tt), tt) $
    fsplit3 ! $ move ! (1 ∷ 2 ∷ 3 ∷ []) $ opens ! tt Row {h = h} rb ro (λ us. move ! (1 ∷ []) $ held_out ! h us (λ hv told fits.
    rewrite ! 0 (λ (t : Option TextModel). ‵ (held_at h.alloc h.at t)) is refl $
    in_a_block ! h.at (λ p. box_owns (g.dealloc_token h.alloc) R p x) (fst∗ 𝓤 (never 𝓤) (sem 𝓛 (g.dealloc_token h.alloc (bare (lone R.mir)) null_ptr))) (λ b o e. fsplit ! $
    rewrite ! 3 (λ (ws : List Val). ‵ (cell_at full_share Row.mir ws rb ro)) (subst (λ (p : Ptr). us ≡ both (ptr_val p) hv ∷ []) e told) refl $
    -- [the text; the right to free it; the allocator; the holder's cell; the open borrow, in three entries]
    first ! $ blocks ! $
    sets ! (of_opd ! (load ! (through ! refl (fld ! refl (stop !))) (look_in ! 3 (sub ! 0 refl (whole !))))) refl (tt, tt) $
    sets ! (of_opd ! (get ! refl)) refl (tt, tt) $
    sets_last ! (addr ! (through ! refl (stop !))) refl (tt, tt) $
    exec ! 𝓣.C 𝓣.Λ (env code.function.locals l) (after 1 code.function.body) (at_ret _ (W.post y)) $
    sets ! (of_opd ! (get ! refl)) refl (tt, tt) $
    move ! (1 ∷ 2 ∷ []) $ fjoin ! $ move ! (0 ∷ 2 ∷ []) $ fjoin ! $ move ! (2 ∷ 3 ∷ 4 ∷ 1 ∷ 0 ∷ []) $ group ! 5 $
    use1 𝓛 (later (some (λ (δ : GName). ‵ ((MutRef (named 0) κ R).own_val (record { ref_ptr = (b, o); ghost_name = δ; now = x }) (vptr b o ∷ [])) ⊛ ‵ (flft κ q) ⊛ ‵ (follows Row R γ δ (holding h)))))
    (lends_Part 𝓛 Row R (holding h) (named 0) κ q rb ro b o γ (sem 𝓛 (Rest h hv b o rb ro)) (back 𝓛 h hv b o rb ro e) (Row.coded.code h) (Row.coded.code h) x) $ await ! tt $ pick ! (λ δ.
    returns ! (look_at ! 0 refl) $ free_all ! refl $ split3 ! $ keep ! (0 ∷ 1 ∷ 2 ∷ []) $
    suffices ! _ (ends_at 𝓛 f.ended stayed c y (vptr b o) (record { ref_ptr = (b, o); ghost_name = δ; now = x }) (tt, tt) (tt, tt)) $
    nothing ! $ nothing ! $ fjoin ! $ join ! $ nothing ! $ move ! (2 ∷ 0 ∷ []) $ join ! $ join ! $ frame ! $ says ! (sym is) $ done !)))))))
