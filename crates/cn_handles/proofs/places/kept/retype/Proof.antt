-- `retype` keeps the pointer: a box of either type lies in the same cells, so nothing in one is nothing in the other.
use Rattle.cn_handles.proofs.Common.{◌≡◌, List, [], ◌∷◌, ◌++◌, refl, sym, subst, Val, vptr, SProp, ent, emp, id⊢, WpFn, fact, fact_i, tables, ‵, raw, ◌⊛◌, ◌$◌, ◌∵◌, !, qed, by, move, keep, use0, use1, split, suffices, rewrite, fsplit, fjoin, agg, sub, whole, stop, fld, of_opd, no_more, and_then, returns, enter, alloc_all, pass_all, free_all, look_at, get, get_in, sets, RattleType, owns, block_ptr, types_at, plain, nothing, heard, alive, Stays, stay_dropped, walk_of, Goes-blank, ghosts, box_owns, proved_at, leaves, Nothing}
use Rattle.std.proofs.alloc.Global.TheLaws as heap_laws
use Rattle.cn_handles.proofs.Loosened.{both, BoxPointer, loose_good, loose_in, loose_out}
use Rattle.cn_handles.proofs.Values.{K, R, Z, lies_alike}
use Rattle.cn_handles.specs.contracts.places.kept.retype.{ended, clauses}
use Rattle.cn_handles.specs.contracts.places.kept.retype.Key.{name as #self}
use Rattle.cn_handles.proofs.places.kept.retype.Statement.{statement}
use Rattle.cn_handles.proofs.places.kept.retype.Code as code

abbrev Same : K.Denot → K.Denot → Type 0
Same x y = x ≡ y

pub retype_spec : {M : Type 1} → statement M
retype_spec 𝓤 𝓛 𝓜 𝓡 wired =
    let 𝓣 = tables 𝓤 𝓛.H 𝓜 𝓡 𝓡.env in let En = ended in let c = clauses 𝓛 𝓜.mem 𝓡.returns in let fn = code.function in
    let LZ = heap_laws.the_row_laws in let L : RattleType = BoxPointer R Z LZ ghosts in
    let hs : Stays En.signature.params En.kept = (stay_dropped (plain (λ _. L)) En.kept.0, tt) in
    proved_at 𝓛 En hs c 𝓜 𝓡 (Goes-blank 𝓛 0 (plain (λ _. L)) En.kept.0 (λ κs x f. tt), tt) #self fn
    (code.unfolded 𝓤 𝓛.H 𝓜 𝓡 wired) (λ z are.
    let κs = z.0.0 in let qs = z.0.1 in let v = z.0.3.0 in let a = v.alloc in
    let Post : Val → SProp 𝓤 = (walk_of 𝓛 En hs c).post z in
    let Run : List Val → SProp 𝓤 = λ ws. WpFn 𝓤 𝓛.H 𝓣.C 𝓣.Λ fn ws Post in
    qed 𝓛 ((raw (alive 𝓛 En.signature κs qs) ⊛ ‵ (owns (types_at En.signature.params κs) z.0.3 z.0.4))
    ∷ raw ((c κs z.0.3).requires z.1) ∷ []) ∵ move ! (1 ∷ []) $ heard ! (v.value ≡ Nothing) (λ nothing_there.
    split ! $ move ! (1 ∷ []) $ fsplit ! $ loose_out R Z LZ ghosts ! v z.0.4.0 (λ b o h e ws fits.
    let w : Val = both (vptr b o) h in let typed = loose_good R Z LZ ghosts b o h fits in
    rewrite ! 0 (λ (x : R.Denot). ‵ (box_owns (ghosts.dealloc_token a) R (block_ptr b o) x)) nothing_there refl $
    use1 𝓛 (‵ (box_owns (ghosts.dealloc_token a) K (block_ptr b o) Nothing)) (lies_alike 𝓛 a b o).0 $
    suffices ! (Run (w ∷ [])) (subst (λ (us : List Val). ent 𝓤 (Run (w ∷ [])) (Run us)) (sym (λ i. ws i ++ [])) (id⊢ 𝓤 (Run (w ∷ [])))) $
    enter ! 𝓣.C 𝓣.Λ fn (w ∷ []) Post $ alloc_all ! (λ l. pass_all ! refl (typed, tt) $
    sets ! (of_opd ! (get_in ! (fld ! refl (stop !)) (sub ! 0 refl (whole !)))) refl (tt, tt) $
    sets ! (of_opd ! (get_in ! (fld ! refl (stop !)) (sub ! 1 refl (whole !)))) refl fits $
    sets ! (of_opd ! (get ! refl)) refl (tt, tt) $
    sets ! (agg ! (and_then ! (get ! refl) (and_then ! (get ! refl) (no_more !)))) refl (loose_good K Z LZ ghosts b o h fits) $
    loose_in K Z LZ ghosts ! b o h a Nothing $
    use0 𝓛 (raw (fact 𝓤 (Same Nothing Nothing))) (fact_i 𝓤 (Same Nothing Nothing) (emp 𝓤) refl) $ nothing ! $ nothing ! $ fjoin ! $
    returns ! (look_at ! 0 refl) $ free_all ! refl $ keep ! (4 ∷ 0 ∷ 2 ∷ 1 ∷ []) $
    by ! (leaves 𝓛 En hs c z w (record { at = block_ptr b o; alloc = a; value = Nothing }) (tt, tt) (tt, tt))))))
