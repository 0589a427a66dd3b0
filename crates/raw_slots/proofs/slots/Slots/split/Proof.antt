-- `split` cuts the slots in two, and makes an owner of each part. Assumes `Logic`.
use mathlib.Core.Path.{◌≡◌, refl, sym, ap, subst, ◌∙◌}
use Prim.Native.Nat.{ℕ, ◌+◌, ◌*◌, ◌<◌, ◌≤◌, ◌^◌}
use native.Mathlib.Omega.{arith}
use mathlib.Core.List.{List, [], ◌∷◌, ◌++◌}
use lib.ListN.{length, take, length-take, length-drop}
use lib.ListN.{drop as drop_l}
use seplogic.Ra.Ura.{Ura}
use mir.Syntax.{Fn, w64}
use mir.MapTy.{inst_fn}
use mir.Val.{Val, vint}
use base.Logic.{SProp, ent, never, id⊢}
use prog.Memory.{Memory}
use prog.Routine.{Routine}
use prog.Wp.{WpFn, Tables}
use types.Logic.{Logic}
use contract.BorrowLft.{◌⊑◌}
use contract.Monad.{Fun, fact}
use contract.Running.{tables, tables_of}
use sound.WpLaws.{WpFn-mono}
use types.Kit.{‵, raw, ◌⊛◌, at_ret, ◌$◌, ◌∵◌, !, qed, move, drop, use0, use1, use3, split, fsplit, fsplit3, fjoin, group, feq_l, flt_i, flt_l, suffices, done}
use types.Part.{whole, sub, agg}
use types.Run.{bin, stop, fld, of_opd, and_then, no_more, first, blocks, exec, size_word, returns, enter}
use types.ByLocal.{alloc_all, pass_all, free_all, look_at, get, get_in, sets, sets_last, is, env}
use denote.Exit.{yes, no}
use denote.Builtin.{usize}
use denote.RattleType.{owns}
use denote.RawPtr.{Ptr, block_ptr, in_a_block}
use denote.Signature.{plain, types_at}
use denote.Steps.{heard, nothing}
use denote.Struct.Tuple.{Tuple}
use denote.Triple.Clauses.{Clauses, Ended, closing}
use denote.Triple.Entry.{alive}
use denote.Triple.Spec.{Meets, triple_of}
use denote.Triple.Table.{entered}
use denote.Triple.Walked.{Stays, stay_dropped, walk_of, ends_at, Goes-dropped, walk_Meets}
use Rattle.core.proofs.alloc.Calls.{Goes-blank}
use Rattle.core.proofs.mem.Param.{El, R, args}
use Rattle.core.proofs.ptr.Rows.{times_below}
use Rattle.core.proofs.slots.Leases.{uncapped}
use Rattle.core.specs.Ptr.{ptr_add}
use Rattle.std_alloc.proofs.VecSteps.Shapes.{after}
use Rattle.std_alloc.proofs.RcSteps.{word, word-Good}
use Rattle.raw_slots.specs.inside.Ownership.{contents, slots_own}
use Rattle.raw_slots.proofs.Memory.{Goes, Ps, Bs, Mark, sz, mark, word_had, word_made, mark_had, mark_made, three_val, three_of, says_three, cut_at}
use Rattle.raw_slots.specs.contracts.slots.Slots.split as F
use Rattle.raw_slots.specs.contracts.slots.Slots.split.Key.{name as #self}
use Rattle.raw_slots.proofs.slots.Slots.split.Statement as stated
use Rattle.raw_slots.proofs.slots.Slots.split.Code as code

module _ (E : El) where
  abbrev function : Fn
  function = inst_fn (args E) code.function

  abbrev ended : Ended
  ended = F.ended E.row

  abbrev stayed : Stays ended.signature.params ended.kept
  stayed = (stay_dropped (plain (λ _. Ps E)) no, (stay_dropped (plain (λ _. Bs E)) no, (stay_dropped (plain (λ _. usize)) yes, tt)))

  module _ {M : Type 1} {𝓤 : Ura M} (𝓛 : Logic 𝓤) (at_mem : Memory → SProp 𝓤) (run : Routine → Fun 𝓤) (𝓣 : Tables 𝓤 𝓛.H) where
    open 𝓛 use {H}

    abbrev held : Clauses 𝓤 ended
    held = F.clauses E.row 𝓛 at_mem run

    walk : Goes 𝓛 𝓣 ended stayed held function
    walk z =
        let self : (Ps E).Denot = z.0.3.0 in let base : (Bs E).Denot = z.0.3.1.0 in let mid : ℕ = z.0.3.1.1.0 in let vss = z.0.4 in let s = sz E in
        let Asked : Type 0 = (base.ptr ≡ self.at) × (mid ≤ length self.contents) in
        let Run : List Val → SProp 𝓤 = λ ws. WpFn 𝓤 H 𝓣.C 𝓣.Λ function ws ((walk_of 𝓛 ended stayed held).post z) in
        qed 𝓛 ((raw (alive 𝓛 ended.signature z.0.0 z.0.1) ⊛ ‵ (owns (types_at ended.signature.params z.0.0) z.0.3 vss)) ∷ (raw (fact 𝓤 (z.0.0.0 ⊑ E.row.lives)) ⊛ raw (fact 𝓤 Asked)) ∷ []) ∵
        move ! (1 ∷ []) $ split ! $ drop ! $ heard ! Asked (λ asked. split ! $ move ! (1 ∷ []) $ fsplit3 ! $ fsplit ! $ mark_had ! E vss.0 (λ e0.
        move ! (1 ∷ []) $ word_had ! base.ptr vss.1.0 (λ e1. move ! (1 ∷ []) $ fsplit ! $ fsplit ! $ feq_l ! (λ e2. flt_l ! (λ fits. drop ! $
        in_a_block ! self.at (λ p. slots_own (R E) p self.contents) (id⊢ 𝓤 (never 𝓤)) (λ b o e. fsplit ! $ flt_l ! (λ small.
        let far : mid * s < 2 ^ 64 = omega (arith, times_below mid (length self.contents) s (2 ^ 63) asked.1 small) in
        let p : Ptr = block_ptr b (mid * s + o) in let us : List Val = mark ∷ word (block_ptr b o) ∷ vint w64 mid ∷ [] in
        let front : (Ps E).Denot = record { mark = self.mark; at = block_ptr b o; contents = take mid self.contents } in
        let next : (Bs E).Denot = record { ptr = p } in
        let back : (Ps E).Denot = record { mark = self.mark; at = p; contents = drop_l mid self.contents } in
        let made : Val = three_val mark (word p) mark in
        suffices ! (Run us) (subst (λ (ws : List Val). ent 𝓤 (Run us) (Run ws)) (sym (λ k. e0 k ++ ((e1 ∙ ap (λ (r : Ptr). word r ∷ []) (asked.0 ∙ e)) k ++ (e2 k ++ [])))) (id⊢ 𝓤 (Run us))) $
        use1 𝓛 (‵ (contents (R E) b o front.contents) ⊛ ‵ (contents (R E) b (mid * s + o) back.contents)) (cut_at E 𝓛 b o self.contents mid asked.1) $ split ! $
        flt_i ! (length front.contents * s) (2 ^ 63) (times_below (length front.contents) (length self.contents) s (2 ^ 63) (omega (arith, length-take mid self.contents)) small) $ fjoin ! $
        use0 𝓛 (‵ ((Mark E).own_val (tt, tt) (mark ∷ []))) (mark_made E 𝓛) $ fjoin ! $ move ! (1 ∷ []) $
        flt_i ! (length back.contents * s) (2 ^ 63) (times_below (length back.contents) (length self.contents) s (2 ^ 63) (omega (arith, length-drop mid self.contents)) small) $ fjoin ! $
        use0 𝓛 (‵ ((Mark E).own_val (tt, tt) (mark ∷ []))) (mark_made E 𝓛) $ fjoin ! $ word_made ! p $ move ! (2 ∷ 0 ∷ 1 ∷ []) $
        use3 𝓛 (‵ ((Tuple (Ps E ∷ Bs E ∷ Ps E ∷ [])).own_val (front, next, back) (made ∷ []))) (three_of 𝓛 (Ps E) (Bs E) (Ps E) front next back mark (word p) mark) $
        enter ! 𝓣.C 𝓣.Λ function us _ $ alloc_all ! (λ l. pass_all ! refl ((tt, (tt, tt)), (word-Good [] (block_ptr b o), ((tt, record { fits = fits }), tt))) $ first ! $ blocks ! $
        sets ! (of_opd ! (get_in ! (fld ! refl (stop !)) (sub ! 0 refl (whole !)))) refl (tt, tt) $ sets ! (of_opd ! (get ! refl)) refl (tt, record { fits = fits }) $
        sets ! (is ! (bin ! (get ! refl) (size_word !) (record { fits = subst (λ (k : ℕ). k < 2 ^ 64) (sym (uncapped mid s far)) far })) (ap (vint w64) (uncapped mid s far))) refl (tt, record { fits = far }) $
        sets_last ! (bin ! (get ! refl) (get ! refl) tt) refl (tt, tt) $ exec ! 𝓣.C 𝓣.Λ (env function.locals l) (after 1 function.body) (at_ret _ ((walk_of 𝓛 ended stayed held).post z)) $
        sets ! (of_opd ! (get ! refl)) refl (tt, tt) $ sets ! (agg ! (and_then ! (get ! refl) (no_more !))) refl (word-Good [] p) $
        sets ! (agg ! (no_more !)) refl (tt, tt) $ sets ! (agg ! (and_then ! (get ! refl) (no_more !))) refl (tt, (tt, tt)) $ sets ! (of_opd ! (get ! refl)) refl (word-Good [] p) $
        sets ! (agg ! (no_more !)) refl (tt, tt) $ sets ! (agg ! (and_then ! (get ! refl) (no_more !))) refl (tt, (tt, tt)) $
        sets ! (agg ! (and_then ! (get ! refl) (and_then ! (get ! refl) (and_then ! (get ! refl) (no_more !))))) refl (tt, ((tt, tt), ((tt, tt), ((tt, tt), tt)))) $
        returns ! (look_at ! 0 refl) $ free_all ! refl $ suffices ! _ (ends_at 𝓛 ended stayed held z made (front, next, back) (tt, (tt, (tt, tt))) (tt, (tt, (tt, tt)))) $
        says_three ! (sym e, refl) (refl, refl) (ap (ptr_add (R E) mid) (sym e)) $ nothing ! $ nothing ! $ fjoin ! $ nothing ! $ fjoin ! $ nothing ! $ fjoin ! $ move ! (2 ∷ []) $ group ! 3 $ done !))))))))

    meets : Meets 𝓛 ended.signature (WpFn 𝓤 H 𝓣.C 𝓣.Λ function) (closing 𝓛 ended held)
    meets =
        walk_Meets 𝓛 ended stayed (Goes-blank 𝓛 1 (plain (λ _. Ps E)) no (λ κs x f. tt), (Goes-dropped 𝓛 1 (plain (λ _. Bs E)) no (λ κs x f. refl), (Goes-dropped 𝓛 1 (plain (λ _. usize)) yes (λ κs x f. refl), tt))) held
        (WpFn 𝓤 H 𝓣.C 𝓣.Λ function) (WpFn-mono 𝓤 H 𝓛.laws 𝓣 function) walk

pub split_spec : {M : Type 1} → stated.statement M
unfolding tables_of
split_spec 𝓤 𝓛 𝓜 𝓡 wired X L =
    let E : El = record { row = X; laws = L } in
    let 𝓣 : Tables 𝓤 𝓛.H = tables_of 𝓤 𝓛.H 𝓜 (tables 𝓤 𝓛.H 𝓜 𝓡 𝓡.env) in
    entered 𝓤 𝓛.H (triple_of 𝓛 (F.signature X) (F.spec X 𝓛 𝓜.mem 𝓡.returns)) 𝓣.C 𝓣.Λ (#self (args E)) (function E) (code.unfolded 𝓤 𝓛.H 𝓜 𝓡 wired (X, tt))
    (meets E 𝓛 𝓜.mem 𝓡.returns 𝓣)
