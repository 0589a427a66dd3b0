-- `join` puts the slots together, and makes their one owner. Assumes `Logic`.
use mathlib.Core.Path.{◌≡◌, refl, sym, ap, subst, ◌∙◌}
use Prim.Native.Nat.{◌+◌, ◌*◌, ◌<◌, ◌^◌}
use mathlib.Core.List.{List, [], ◌∷◌, ◌++◌}
use lib.ListN.{length, length-append}
use seplogic.Ra.Ura.{Ura}
use mir.Syntax.{Fn}
use mir.MapTy.{inst_fn}
use mir.Val.{Val}
use base.Logic.{SProp, ent, never, id⊢}
use prog.Memory.{Memory}
use prog.Routine.{Routine}
use prog.Wp.{WpFn, Tables}
use types.Logic.{Logic}
use contract.BorrowLft.{◌⊑◌}
use contract.Monad.{Fun, fact}
use contract.Running.{tables, tables_of}
use sound.WpLaws.{WpFn-mono}
use types.Kit.{‵, raw, ◌⊛◌, ◌$◌, ◌∵◌, !, qed, move, keep, drop, use0, use2, split, split3, fsplit, fsplit3, fjoin, group, flt_i, rewrite, suffices, done}
use types.Part.{agg}
use types.Run.{and_then, no_more, returns, enter}
use types.ByLocal.{alloc_all, pass_all, free_all, look_at, get, sets}
use denote.Exit.{no}
use denote.RattleType.{owns}
use denote.RawPtr.{Ptr, in_a_block}
use denote.Signature.{plain, types_at}
use denote.Steps.{heard, nothing}
use denote.Triple.Clauses.{Clauses, Ended, closing}
use denote.Triple.Entry.{alive}
use denote.Triple.Spec.{Meets, triple_of}
use denote.Triple.Table.{entered}
use denote.Triple.Walked.{says, Stays, stay_dropped, walk_of, ends_at, walk_Meets}
use Rattle.core.proofs.alloc.Calls.{Goes-blank}
use Rattle.core.proofs.mem.Param.{El, R, args}
use Rattle.core.specs.Ptr.{ptr_add}
use Rattle.std.specs.Vec.Ownership.{FitsInBlock}
use Rattle.raw_slots.specs.inside.Ownership.{contents, slots_own}
use Rattle.raw_slots.proofs.Memory.{Goes, Ps, Mark, sz, mark, mark_had, mark_made, glue}
use Rattle.raw_slots.specs.contracts.slots.Slots.join as F
use Rattle.raw_slots.specs.contracts.slots.Slots.join.Key.{name as #self}
use Rattle.raw_slots.proofs.slots.Slots.join.Statement as stated
use Rattle.raw_slots.proofs.slots.Slots.join.Code as code

module _ (E : El) where
  abbrev function : Fn
  function = inst_fn (args E) code.function

  abbrev ended : Ended
  ended = F.ended E.row

  abbrev stayed : Stays ended.signature.params ended.kept
  stayed = (stay_dropped (plain (λ _. Ps E)) no, (stay_dropped (plain (λ _. Ps E)) no, tt))

  module _ {M : Type 1} {𝓤 : Ura M} (𝓛 : Logic 𝓤) (at_mem : Memory → SProp 𝓤) (run : Routine → Fun 𝓤) (𝓣 : Tables 𝓤 𝓛.H) where
    open 𝓛 use {H}

    abbrev held : Clauses 𝓤 ended
    held = F.clauses E.row 𝓛 at_mem run

    walk : Goes 𝓛 𝓣 ended stayed held function
    walk z =
        let self : (Ps E).Denot = z.0.3.0 in let other : (Ps E).Denot = z.0.3.1.0 in let vss = z.0.4 in let n = length self.contents in let s = sz E in
        let both : (Ps E).Denot = record { mark = self.mark; at = self.at; contents = self.contents ++ other.contents } in
        let Beside : Type 0 = other.at ≡ ptr_add (R E) n self.at in let Fits : Type 0 = FitsInBlock (R E) (n + length other.contents) in
        let Run : List Val → SProp 𝓤 = λ ws. WpFn 𝓤 H 𝓣.C 𝓣.Λ function ws ((walk_of 𝓛 ended stayed held).post z) in let us : List Val = mark ∷ mark ∷ [] in
        qed 𝓛 ((raw (alive 𝓛 ended.signature z.0.0 z.0.1) ⊛ ‵ (owns (types_at ended.signature.params z.0.0) z.0.3 vss)) ∷ (raw (fact 𝓤 (z.0.0.0 ⊑ E.row.lives)) ⊛ raw (fact 𝓤 Beside) ⊛ raw (fact 𝓤 Fits)) ∷ []) ∵
        move ! (1 ∷ []) $ split3 ! $ drop ! $ heard ! Beside (λ beside. heard ! Fits (λ fits. split ! $ move ! (1 ∷ []) $ fsplit3 ! $
        fsplit ! $ mark_had ! E vss.0 (λ e0. move ! (1 ∷ []) $ fsplit ! $ mark_had ! E vss.1.0 (λ e1. keep ! (1 ∷ 0 ∷ 3 ∷ []) $
        suffices ! (Run us) (subst (λ (ws : List Val). ent 𝓤 (Run us) (Run ws)) (sym (λ k. e0 k ++ (e1 k ++ []))) (id⊢ 𝓤 (Run us))) $
        in_a_block ! self.at (λ p. slots_own (R E) p self.contents) (id⊢ 𝓤 (never 𝓤)) (λ b o e. fsplit ! $ drop ! $ move ! (1 ∷ []) $
        rewrite ! 0 (λ (p : Ptr). ‵ (slots_own (R E) p other.contents)) (beside ∙ ap (ptr_add (R E) n) e) refl $ fsplit ! $ drop ! $ move ! (1 ∷ 0 ∷ []) $
        use2 𝓛 (‵ (contents (R E) b o both.contents)) (glue E 𝓛 b self.contents other.contents o (n * s + o) refl) $
        flt_i ! (length both.contents * s) (2 ^ 63) (subst (λ k. k * s < 2 ^ 63) (sym (length-append self.contents other.contents)) fits.0) $ fjoin ! $
        rewrite ! 0 (λ (p : Ptr). ‵ (slots_own (R E) p both.contents)) (sym e) refl $ use0 𝓛 (‵ ((Mark E).own_val (tt, tt) (mark ∷ []))) (mark_made E 𝓛) $ fjoin ! $
        enter ! 𝓣.C 𝓣.Λ function us _ $ alloc_all ! (λ l. pass_all ! refl ((tt, (tt, tt)), ((tt, (tt, tt)), tt)) $
        sets ! (agg ! (no_more !)) refl (tt, tt) $ sets ! (agg ! (and_then ! (get ! refl) (no_more !))) refl (tt, (tt, tt)) $ returns ! (look_at ! 0 refl) $ free_all ! refl $
        suffices ! _ (ends_at 𝓛 ended stayed held z mark both (tt, (tt, tt)) (tt, (tt, tt))) $ says ! (refl, refl) $
        nothing ! $ nothing ! $ fjoin ! $ nothing ! $ fjoin ! $ move ! (2 ∷ []) $ group ! 3 $ done !))))))

    meets : Meets 𝓛 ended.signature (WpFn 𝓤 H 𝓣.C 𝓣.Λ function) (closing 𝓛 ended held)
    meets =
        let goes = Goes-blank 𝓛 1 (plain (λ _. Ps E)) no (λ κs x f. tt) in
        walk_Meets 𝓛 ended stayed (goes, (goes, tt)) held (WpFn 𝓤 H 𝓣.C 𝓣.Λ function) (WpFn-mono 𝓤 H 𝓛.laws 𝓣 function) walk

pub join_spec : {M : Type 1} → stated.statement M
unfolding tables_of
join_spec 𝓤 𝓛 𝓜 𝓡 wired X L =
    let E : El = record { row = X; laws = L } in
    let 𝓣 : Tables 𝓤 𝓛.H = tables_of 𝓤 𝓛.H 𝓜 (tables 𝓤 𝓛.H 𝓜 𝓡 𝓡.env) in
    entered 𝓤 𝓛.H (triple_of 𝓛 (F.signature X) (F.spec X 𝓛 𝓜.mem 𝓡.returns)) 𝓣.C 𝓣.Λ (#self (args E)) (function E) (code.unfolded 𝓤 𝓛.H 𝓜 𝓡 wired (X, tt))
    (meets E 𝓛 𝓜.mem 𝓡.returns 𝓣)
