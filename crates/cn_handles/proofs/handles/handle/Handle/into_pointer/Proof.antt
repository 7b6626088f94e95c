-- `into_pointer` tests the pointer, which is null where the handle has nothing.
use Rattle.cn_handles.proofs.Common.{◌≡◌, List, [], ◌∷◌, ◌++◌, refl, sym, ap, ◌∙◌, subst, lit<, None, Some, Val, vptr, vnil, vcons, SProp, ent, emp, id⊢, ftrue, WpFn, fact, fact_i, tables, ‵, raw, ◌⊛◌, at_ret, ◌$◌, ◌∵◌, !, qed, by, move, keep, use0, use1, split, suffices, fsplit, fjoin, agg, sub, whole, live, stop, fld, lit, of_opd, bin, no_more, and_then, first, branches, exec, returns, enter, alloc_all, pass_all, free_all, look_at, get, get_in, sets, sets_last, env, RattleType, owns, layout, Ptr, block_ptr, null_ptr, ptr_val, tests_null, types_at, type_at, plain, nothing, alive, Stays, stay_dropped, walk_of, Goes-blank, after, Good, Some-of, none_of, and_tt, ghosts, proved_at, leaves}
use Rattle.std.proofs.alloc.Global.TheLaws as heap_laws
use Rattle.cn_handles.proofs.Loosened.{BoxPointer, loose_good, loose_in}
use Rattle.cn_handles.proofs.Values.{both, Z, R, H, handle-good, handle-out, either}
use Rattle.cn_handles.specs.contracts.handles.handle.Handle.into_pointer.{ended, clauses}
use Rattle.cn_handles.specs.contracts.handles.handle.Handle.into_pointer.Key.{name as #self}
use Rattle.cn_handles.proofs.handles.handle.Handle.into_pointer.Statement.{statement}
use Rattle.cn_handles.proofs.handles.handle.Handle.into_pointer.Code as code

pub into_pointer_spec : {M : Type 1} → statement M
into_pointer_spec 𝓤 𝓛 𝓜 𝓡 wired =
    let 𝓣 = tables 𝓤 𝓛.H 𝓜 𝓡 𝓡.env in let En = ended in let c = clauses 𝓛 𝓜.mem 𝓡.returns in let fn = code.function in
    let LZ = heap_laws.the_row_laws in let L : RattleType = BoxPointer R Z LZ ghosts in
    let hs : Stays En.signature.params En.kept = (stay_dropped (plain (λ _. H)) En.kept.0, tt) in
    proved_at 𝓛 En hs c 𝓜 𝓡 (Goes-blank 𝓛 0 (plain (λ _. H)) En.kept.0 (λ κs x f. tt), tt) #self fn (code.unfolded 𝓤 𝓛.H 𝓜 𝓡 wired)
    (λ z are.
    let κs = z.0.0 in let qs = z.0.1 in let v = z.0.3.0 in let a = v.alloc in let Post : Val → SProp 𝓤 = (walk_of 𝓛 En hs c).post z in
    let Run : List Val → SProp 𝓤 = λ ws. WpFn 𝓤 𝓛.H 𝓣.C 𝓣.Λ fn ws Post in let Out : RattleType = type_at En.signature.result κs in
    qed 𝓛 ((raw (alive 𝓛 En.signature κs qs) ⊛ ‵ (owns (types_at En.signature.params κs) z.0.3 z.0.4)) ∷ ‵ ftrue ∷ []) ∵ split ! $ move !
    (1 ∷ []) $ fsplit ! $ handle-out ! v z.0.4.0 (λ h ws fits.
    let w : Val → Val = λ p. both p h in let runs : (p : Ptr) → v.at ≡ p → ent 𝓤 (Run (w (ptr_val p) ∷ [])) (Run (z.0.4.0 ++ [])) =
    λ p e. subst (λ (us : List Val). ent 𝓤 (Run (w (ptr_val p) ∷ [])) (Run us))
    (sym (λ i. (ws ∙ ap (λ (q : Ptr). w (ptr_val q) ∷ []) e) i ++ [])) (id⊢ 𝓤 (Run (w (ptr_val p) ∷ []))) in
    either ! a v.at v.held
    (λ is none. suffices ! (Run (w (ptr_val null_ptr) ∷ [])) (runs null_ptr is) $
    enter ! 𝓣.C 𝓣.Λ fn (w (ptr_val null_ptr) ∷ []) Post $ alloc_all !
    (λ l. pass_all ! refl (handle-good null_ptr h fits, tt) $ let Ev = env fn.locals l in
    sets ! (of_opd ! (get_in ! (fld ! refl (stop !)) (sub ! 0 refl (whole !)))) refl (tt, record { fits = lit< tt }) $ sets !
    (of_opd ! (get_in ! (fld ! refl (stop !)) (sub ! 1 refl (whole !)))) refl fits $
    sets ! (bin ! (get ! refl) (lit ! tt) tt) refl (tt, tt) $ first ! $ branches ! (get ! refl)
    (λ _. sets_last ! (agg ! (and_then ! (lit ! tt) (no_more !))) refl (tt, (record { fits = lit< tt }, tt)) $ exec ! 𝓣.C 𝓣.Λ Ev
    (after 4 fn.body) (at_ret Ev Post) $ sets ! (of_opd ! (get ! refl)) refl (tt, (record { fits = lit< tt }, tt)) $
    use0 𝓛 (‵ (Out.own_val None (live 0 vnil ∷ []))) (none_of 𝓛 L) $ use0 𝓛 (raw (fact 𝓤 (v.held ≡ None)))
    (fact_i 𝓤 (v.held ≡ None) (emp 𝓤) none) $ nothing ! $ nothing ! $ fjoin ! $
    returns ! (look_at ! 0 refl) $ free_all ! refl $ keep ! (4 ∷ 0 ∷ 2 ∷ 1 ∷ []) $ by !
    (leaves 𝓛 En hs c z (live 0 vnil) None (tt, tt) (tt, tt))) (λ wrong. absurd wrong)))
    (λ b o x is some t. let made : Val = both (vptr b o) h in let typed = loose_good R Z LZ ghosts b o h fits in
    let v₁ : Val = live 1 (vcons made vnil) in let d : L.Denot = record { at = block_ptr b o; alloc = a; value = x } in
    let good : Good (layout Out) v₁ = (and_tt _ typed.0, (record { fits = lit< tt }, (typed.1, tt))) in
    suffices ! (Run (w (ptr_val (block_ptr b o)) ∷ [])) (runs (block_ptr b o) is) $
    enter ! 𝓣.C 𝓣.Λ fn (w (ptr_val (block_ptr b o)) ∷ []) Post $ alloc_all !
    (λ l. pass_all ! refl (handle-good (block_ptr b o) h fits, tt) $ let Ev = env fn.locals l in
    sets ! (of_opd ! (get_in ! (fld ! refl (stop !)) (sub ! 0 refl (whole !)))) refl (tt, tt) $ sets !
    (of_opd ! (get_in ! (fld ! refl (stop !)) (sub ! 1 refl (whole !)))) refl fits $
    sets ! (bin ! (get ! refl) (lit ! tt) (tests_null (block_ptr b o) t)) refl (tt, tt) $ first ! $ branches ! (get ! refl)
    (λ wrong. absurd wrong)
    (λ _. sets ! (of_opd ! (get ! refl)) refl (tt, tt) $ sets ! (agg ! (and_then ! (get ! refl) (and_then ! (get ! refl) (no_more !)))) refl
    typed $ sets_last ! (agg ! (and_then ! (lit ! tt) (and_then ! (get ! refl) (no_more !)))) refl good $
    exec ! 𝓣.C 𝓣.Λ Ev (after 4 fn.body) (at_ret Ev Post) $ sets ! (of_opd ! (get ! refl)) refl good $ loose_in R Z LZ ghosts ! b o h a x $
    use1 𝓛 (‵ (Out.own_val (Some d) (v₁ ∷ []))) (Some-of 𝓛 L d made) $ use0 𝓛 (raw (fact 𝓤 (v.held ≡ Some x)))
    (fact_i 𝓤 (v.held ≡ Some x) (emp 𝓤) some) $ nothing ! $ nothing ! $ fjoin ! $
    returns ! (look_at ! 0 refl) $ free_all ! refl $ keep ! (4 ∷ 0 ∷ 2 ∷ 1 ∷ []) $ by !
    (leaves 𝓛 En hs c z v₁ (Some d) (tt, tt) (tt, tt)))))))
