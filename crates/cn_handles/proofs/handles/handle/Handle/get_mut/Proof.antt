-- `get_mut` lends what is in the box, and the handle follows it. Assumes `Logic`.
use Rattle.cn_handles.proofs.Common.{◌≡◌, ℕ, List, [], ◌∷◌, refl, sym, ap, lit<, Option, None, Some, Fn, named, Val, vptr, vnil, vcons, Ura, full_share, Fml, Lft, GName, Share, ftrue, fsep, flft, fres, SProp, ent, sep, emp, Fun, Env, Calls, Loops, Wp, WpFn, after_block, after_seq, at_return, tables, Logic, sem, ‵, ◌⊛◌, some, later, at_ret, any_q, ◌$◌, ◌∵◌, !, qed, done, by, move, keep, use1, split, join, fsplit, fsplit3, fjoin, fpack, use0, split3, feq_i, pick, await, rewrite, group, suffices, frame, agg, sub, whole, look_in, live, stop, fld, addr, load, lit, bin, of_opd, no_more, and_then, first, blocks, branches, exec, returns, enter, alloc_all, pass_all, free_all, look_at, get, through, sets, sets_last, is, env, no, layout, Good, RattleType, owns, mem, cell_at, part_at, part_of, lone, Ptr, block_ptr, null_ptr, ptr_val, tests_null, plain, mut_ref_to, nothing, opens, closes, Clauses, on_entry, says, Stays, stay_dropped, walk_of, ends_at, Goes-spent_ref, after, head, inside, Some-of, none_of, ghosts, proved, box_owns, holds}
use mir.Raw.{raw as bare}
use prog.Memory.{Memory}
use prog.Routine.{Routine}
use types.Kit.{drop}
use denote.Ref.{MutBor, MutRef, mut_vals, mut_Tells}
use denote.Follow.{follows, follows_by, lends_Part}
use Rattle.std.specs.contracts.option.Option as Opt
use Rattle.cn_handles.specs.Lends.{with_held}
use Rattle.cn_handles.proofs.Values.{both, Z, R, H, handle-out, handle-in, either}
use Rattle.cn_handles.specs.contracts.handles.handle.Handle.get_mut.{ended, clauses}
use Rattle.cn_handles.specs.contracts.handles.handle.Handle.get_mut.Key.{name as #self}
use Rattle.cn_handles.proofs.handles.handle.Handle.get_mut.Statement.{statement}
use Rattle.cn_handles.proofs.handles.handle.Handle.get_mut.Code as code

abbrev stayed : Stays ended.signature.params ended.kept
stayed = (stay_dropped (mut_ref_to (0 ∷ []) tt (plain (λ _. H))) no, tt)

abbrev fn : Fn
fn = code.function

module _ {M : Type 1} {𝓤 : Ura M} (𝓛 : Logic 𝓤) (at_mem : Memory → SProp 𝓤) (run : Routine → Fun 𝓤) (κ : Lft) (q : Share) (rb ro : ℕ)
    (γ : GName) (d : H.Denot) where
  open 𝓛 use {A}

  abbrev c : Clauses 𝓤 ended
  c = clauses 𝓛 at_mem run

  abbrev bound : (walk_of 𝓛 ended stayed c).Ghost
  bound = (((κ, tt), (q, tt), tt, (record { ref_ptr = (rb, ro); ghost_name = γ; now = d }, tt), (vptr rb ro ∷ [], tt)), tt)

  abbrev Post : Val → SProp 𝓤
  Post = (walk_of 𝓛 ended stayed c).post bound

  abbrev Out : RattleType
  Out = Opt.the_row (MutRef (named 0) κ R)

  abbrev word : Val → List Val
  word h = both (ptr_val d.at) h ∷ []

  module _ (b o : ℕ) (h : Val) where
    -- all of the handle but what is in the box
    abbrev Rest : Fml
    Rest = fsep (ghosts.dealloc_token d.alloc (bare (lone R.mir)) (block_ptr b o))
        (fsep (Z.own_val d.alloc (h ∷ [])) (cell_at full_share H.mir (word h) rb ro))

    back : d.at ≡ block_ptr b o → (w : R.Denot)
        → ent 𝓤 (sep 𝓤 (sem 𝓛 ((mem R).own_at w b o)) (sem 𝓛 Rest)) (sem 𝓛 ((mem H).own_at (with_held d w) rb ro))
    unfolding part_of
    back e w =
        qed 𝓛 (‵ (part_at R full_share w b o) ∷ ‵ Rest ∷ []) ∵ move ! (1 ∷ []) $ fsplit ! $ move ! (1 ∷ []) $ fsplit ! $ move ! (3 ∷ 2 ∷ [])
        $ fjoin ! $
        rewrite ! 0 (λ (p : Ptr). ‵ (box_owns (ghosts.dealloc_token d.alloc) R p w)) (sym e) refl $ handle-in ! d.at h d.alloc (Some w) $
        move ! (1 ∷ 0 ∷ []) $ fjoin ! $
        fpack ! (List Val) (λ vs. fsep (cell_at full_share H.mir vs rb ro) (H.own_val (with_held d w) vs)) (word h) $ done !

  none_left : d.held ≡ None → ent 𝓤 (sep 𝓤 (sem 𝓛 (Out.own_val None (live 0 vnil ∷ []))) (sep 𝓤 (A.lft κ q) (A.res γ (H.coded.code d))))
      (Post (live 0 vnil))
  unfolding follows_by
  none_left e =
      qed 𝓛 (‵ (Out.own_val None (live 0 vnil ∷ [])) ∷ ‵ (flft κ q) ∷ ‵ (fres γ (H.coded.code d)) ∷ []) ∵
      suffices ! _ (ends_at 𝓛 ended stayed c bound (live 0 vnil) None (tt, tt) (tt, tt)) $
      nothing ! $ nothing ! $ fjoin ! $ join ! $ nothing ! $ move ! (2 ∷ 0 ∷ []) $ join ! $ join ! $ frame ! $ says ! e $ done !

  one_left : (b o : ℕ) (y : R.Denot) → d.held ≡ Some y → (δ : GName)
      → ent 𝓤 (sep 𝓤 (sem 𝓛 (Out.own_val (Some (record { ref_ptr = (b, o); ghost_name = δ; now = y }))
      (live 1 (vcons (vptr b o) vnil) ∷ []))) (sep 𝓤 (A.lft κ q) (sem 𝓛 (follows H R γ δ (with_held d)))))
      (Post (live 1 (vcons (vptr b o) vnil)))
  unfolding follows_by
  one_left b o y e δ =
      let r : MutBor R.Denot = record { ref_ptr = (b, o); ghost_name = δ; now = y } in
      qed 𝓛 (‵ (Out.own_val (Some r) (live 1 (vcons (vptr b o) vnil) ∷ [])) ∷ ‵ (flft κ q) ∷ ‵ (follows H R γ δ (with_held d)) ∷ []) ∵
      suffices ! _ (ends_at 𝓛 ended stayed c bound (live 1 (vcons (vptr b o) vnil)) (Some r) (tt, tt) (tt, tt)) $
      nothing ! $ nothing ! $ fjoin ! $ join ! $ nothing ! $ move ! (2 ∷ 0 ∷ []) $ join ! $ join ! $ frame ! $ says ! e $ done !

  module _ (C : Calls 𝓤 𝓛.H) (Λ : Loops 𝓤 𝓛.H) where
    walk : ent 𝓤 (sep 𝓤 (on_entry 𝓛 ended.signature (κ, tt) (q, tt) bound.0.3 bound.0.4) (emp 𝓤)) (WpFn 𝓤 𝓛.H C Λ fn (vptr rb ro ∷ []) Post)
    walk =
        qed 𝓛 (((‵ (flft κ q) ⊛ ‵ ftrue) ⊛ ‵ (owns (MutRef (named 0) κ H ∷ []) bound.0.3 bound.0.4)) ∷ ‵ ftrue ∷ []) ∵
        enter ! C Λ fn (vptr rb ro ∷ []) Post $ alloc_all ! (λ l. pass_all ! refl ((tt, tt), tt) $ let En : Env 𝓤 𝓛.H = env fn.locals l in
        let Then = any_q (after_block 𝓤 𝓛.H (after_seq 𝓤 𝓛.H (Wp 𝓤 𝓛.H C Λ En (after 3 fn.body) (at_return 𝓤 𝓛.H En Post))
        (at_return 𝓤 𝓛.H En Post))) in
        split ! $ split ! $ move ! (2 ∷ []) $ fsplit ! $ fsplit3 ! $ drop ! $ move ! (0 ∷ 1 ∷ 3 ∷ []) $ opens ! tt H {h = d} rb ro
        (λ vs. move ! (1 ∷ []) $
        handle-out ! d vs (λ h ws fits. move ! (2 ∷ []) $ rewrite ! 0 (λ (us : List Val). ‵ (cell_at full_share H.mir us rb ro)) ws refl $
        move ! (1 ∷ []) $
        either ! d.alloc d.at d.held
        (λ at has. let good : Good (layout Out) (live 0 vnil) = (tt, (record { fits = lit< tt }, tt)) in
        sets ! (is ! (of_opd ! (load ! (through ! refl (fld ! refl (stop !))) (look_in ! 0 (sub ! 0 refl (whole !))))) (ap ptr_val at)) refl
        (tt, record { fits = lit< tt }) $ sets ! (of_opd ! (get ! refl)) refl (tt, record { fits = lit< tt }) $
        first ! $ blocks ! $ sets ! (bin ! (get ! refl) (lit ! tt) tt) refl (tt, tt) $ first ! $ branches ! (get ! refl)
        (λ _. sets_last ! (agg ! (and_then ! (lit ! tt) (no_more !))) refl good $ exec ! C Λ En (after 2 (inside (head (after 2 fn.body))))
        Then $ sets_last ! (of_opd ! (get ! refl)) refl good $
        exec ! C Λ En (after 3 fn.body) (at_ret En Post) $ sets ! (of_opd ! (get ! refl)) refl good $
        feq_i ! Ptr d.at null_ptr at $ rewrite ! 0 (λ (x : Option R.Denot). ‵ (holds R d.alloc d.at x)) (sym has) refl $ move ! (0 ∷ 2 ∷ [])
        $ handle-in ! d.at h d.alloc d.held $
        move ! (1 ∷ 0 ∷ []) $ closes ! tt H d (word h) rb ro $ use1 𝓛 (‵ (fres γ (H.coded.code d))) (𝓛.names.obs-res γ (H.coded.code d)) $
        use0 𝓛 (‵ (Out.own_val None (live 0 vnil ∷ []))) (none_of 𝓛 (MutRef (named 0) κ R)) $ returns ! (look_at ! 0 refl) $ free_all ! refl
        $ keep ! (0 ∷ 3 ∷ 1 ∷ []) $ by ! (none_left has))
        (λ wrong. absurd wrong))
        (λ b o y at has tests. let good : Good (layout Out) (live 1 (vcons (vptr b o) vnil)) =
        (tt, (record { fits = lit< tt }, (tt, tt))) in fsplit ! $
        sets ! (is ! (of_opd ! (load ! (through ! refl (fld ! refl (stop !))) (look_in ! 2 (sub ! 0 refl (whole !))))) (ap ptr_val at)) refl
        (tt, tt) $ sets ! (of_opd ! (get ! refl)) refl (tt, tt) $
        first ! $ blocks ! $ sets ! (bin ! (get ! refl) (lit ! tt) (tests_null (block_ptr b o) tests)) refl (tt, tt) $ first ! $ branches !
        (get ! refl) (λ wrong. absurd wrong)
        (λ _. sets ! (addr ! (through ! refl (stop !))) refl (tt, tt) $ sets_last !
        (agg ! (and_then ! (lit ! tt) (and_then ! (get ! refl) (no_more !)))) refl good $
        exec ! C Λ En (after 2 (inside (head (after 2 fn.body)))) Then $ sets_last ! (of_opd ! (get ! refl)) refl good $ exec ! C Λ En
        (after 3 fn.body) (at_ret En Post) $ sets ! (of_opd ! (get ! refl)) refl good $
        move ! (3 ∷ 2 ∷ []) $ fjoin ! $ move ! (2 ∷ 0 ∷ []) $ fjoin ! $ move ! (2 ∷ 3 ∷ 4 ∷ 1 ∷ 0 ∷ []) $ group ! 5 $
        use1 𝓛 (later (some (λ (δ : GName). ‵ ((MutRef (named 0) κ R).own_val (record { ref_ptr = (b, o); ghost_name = δ; now = y })
        (vptr b o ∷ [])) ⊛ ‵ (flft κ q) ⊛ ‵ (follows H R γ δ (with_held d)))))
        (lends_Part 𝓛 H R (with_held d) (named 0) κ q rb ro b o γ (sem 𝓛 (Rest b o h)) (back b o h at) (H.coded.code d) (H.coded.code d) y)
        $ await ! tt $ pick ! (λ δ. split3 ! $
        use1 𝓛 (‵ (Out.own_val (Some (record { ref_ptr = (b, o); ghost_name = δ; now = y })) (live 1 (vcons (vptr b o) vnil) ∷ [])))
        (Some-of 𝓛 (MutRef (named 0) κ R) (record { ref_ptr = (b, o); ghost_name = δ; now = y }) (vptr b o)) $
        returns ! (look_at ! 0 refl) $ free_all ! refl $ keep ! (0 ∷ 1 ∷ 2 ∷ []) $ by ! (one_left b o y has δ)))))))

pub get_mut_spec : {M : Type 1} → statement M
get_mut_spec 𝓤 𝓛 𝓜 𝓡 wired = let 𝓣 = tables 𝓤 𝓛.H 𝓜 𝓡 𝓡.env in
    proved 𝓛 ended stayed (clauses 𝓛 𝓜.mem 𝓡.returns) 𝓜 𝓡 (Goes-spent_ref 𝓛 1 (0 ∷ []) tt (plain (λ _. H)), tt) #self fn
    (code.unfolded 𝓤 𝓛.H 𝓜 𝓡 wired) (λ κs. (mut_vals, tt)) (λ κs. (mut_Tells (named 0) κs.0 H, tt))
    (λ κs qs bounds a g are. walk 𝓛 𝓜.mem 𝓡.returns κs.0 qs.0 a.0.ref_ptr.0 a.0.ref_ptr.1 a.0.ghost_name a.0.now 𝓣.C 𝓣.Λ)
