-- The machine value of a handle. Assumes `Logic`.
use Rattle.cn_handles.proofs.Common.{◌≡◌, ℕ, List, [], ◌∷◌, ◌++◌, refl, subst, lit<, Option, None, Some, Bool, true, false, ◌&&◌, T, Ura, impl, tnil, dnil, Val, vstruct, vcons, vnil, of_list, has_ty, ent, guard, never, fst∗, snd∗, via, id⊢, part_of, Nothing, full_share, fact_use, guard_i, Logic, sem, Item, Goal, Seq, Step, step, ‵, ◌$◌, given, learn, move, use1, fsplit, fjoin, fpick, fpack, feq_i, feq_l, RattleType, Valss, RawPtr, lone, Ptr, null_ptr, block_ptr, ptr_val, lies_at, in_a_block, Testable, nothing, layout, within, shape, Al, handle_tells, Good, ghosts, box_owns, holds}
use mir.Raw.{raw as bare}
use types.Kit.{drop}
use Rattle.std.specs.contracts.alloc.Global as heap
use Rattle.std.proofs.alloc.Global.TheLaws as heap_laws
use Rattle.std.proofs.GlobalToken.{dealloc_token-Testable}
use Rattle.cn_handles.specs.contracts.handles.floor_record.FloorRecord as floor_record
use Rattle.cn_handles.specs.contracts.handles.handle.Handle as handle
use Rattle.cn_handles.specs.contracts.handles.held.Held as kept
use Rattle.cn_handles.specs.contracts.handles.held_taker.HeldTaker as held_taker
use Rattle.cn_handles.specs.contracts.places.kept.LaneLayout as unshared
use Rattle.cn_handles.specs.Holding as held

abbrev pub both : Val → Val → Val
both v w = vstruct (vcons v (vcons w vnil))

abbrev pub Z : RattleType
Z = heap.the_row

abbrev pub R : RattleType
R = held.the_row

abbrev pub H : RattleType
H = handle.the_row

-- what the box of a handle may have once its lane was handed back
abbrev pub K : RattleType
K = kept.the_row unshared.the_row floor_record.the_row held_taker.the_row

-- nothing, in a box of one type, is nothing in a box of the other: both have the same cells, and own nothing there
pub lies_alike : {M : Type 1} {𝓤 : Ura M} (𝓛 : Logic 𝓤) (a : Z.Denot) (b o : ℕ)
    → ent 𝓤 (sem 𝓛 (box_owns (ghosts.dealloc_token a) R (block_ptr b o) Nothing))
    (sem 𝓛 (box_owns (ghosts.dealloc_token a) K (block_ptr b o) Nothing))
    × ent 𝓤 (sem 𝓛 (box_owns (ghosts.dealloc_token a) K (block_ptr b o) Nothing))
    (sem 𝓛 (box_owns (ghosts.dealloc_token a) R (block_ptr b o) Nothing))
unfolding part_of
lies_alike {𝓤 = 𝓤} 𝓛 a b o =
    let same = id⊢ 𝓤 (sem 𝓛 (box_owns (ghosts.dealloc_token a) R (block_ptr b o) Nothing)) in (same, same)

abbrev al : Al
al = record { row = Z; laws = heap_laws.the_row_laws; g = ghosts; d = impl [] tnil dnil; drops = impl [] tnil dnil }

and_true : (b : Bool) → T b → T (b && true)
and_true true t = tt
and_true false t = absurd t

pub handle-good : (p : Ptr) (h : Val) → Good (layout Z) h → Good (layout H) (both (ptr_val p) h)
handle-good null_ptr h fits = (and_true (has_ty (layout Z) h) fits.0, (record { fits = lit< tt }, (fits.1, tt)))
handle-good (block_ptr b o) h fits = (and_true (has_ty (layout Z) h) fits.0, (tt, (fits.1, tt)))

module _ {M : Type 1} {𝓤 : Ura M} (𝓛 : Logic 𝓤) (a : Z.Denot) (p : Ptr) (x : R.Denot) where
  tested : ent 𝓤 (sem 𝓛 (box_owns (ghosts.dealloc_token a) R p x)) (guard 𝓤 (Testable p) (sem 𝓛 (box_owns (ghosts.dealloc_token a) R p x)))
  tested = fact_use 𝓤 (Testable p) (via 𝓤 _
      (snd∗ 𝓤 (sem 𝓛 (lies_at R full_share p x)) (sem 𝓛 (ghosts.dealloc_token a (bare (lone R.mir)) p)))
      (dealloc_token-Testable 𝓛 a (bare (lone R.mir)) p))
      (guard_i 𝓤 (Testable p) (sem 𝓛 (box_owns (ghosts.dealloc_token a) R p x)))

module _ {M : Type 1} {𝓤 : Ura M} {𝓛 : Logic 𝓤} {K : Type 0} {Γ : List (Item 𝓤)} {G : Goal 𝓤 𝓛.H} where
  pub handle-out : K → (d : H.Denot) (vs : List Val)
      → ((h : Val) → vs ≡ both (ptr_val d.at) h ∷ [] → Good (layout Z) h
      → Seq K 𝓛 (‵ (holds R d.alloc d.at d.held) ∷ ‵ (Z.own_val d.alloc (h ∷ [])) ∷ Γ) G)
      → Seq K 𝓛 (‵ (H.own_val d vs) ∷ Γ) G
  handle-out t d vs k =
      fsplit t $ fpick t (λ vss. fsplit t $ feq_l t
      (λ ev. fsplit t $ feq_l t (λ ep. fsplit t $ handle_tells al t d.alloc vss.1.0
      (λ h ea fits. move t (1 ∷ []) $ drop t $ move t (1 ∷ []) $ k h
      (subst (λ (ws : List Val). vs ≡ vstruct (of_list (ptr_val d.at ∷ (ws ++ []))) ∷ []) ea
      (subst (λ (ps : List Val). vs ≡ vstruct (of_list (ps ++ (vss.1.0 ++ []))) ∷ []) ep ev)) fits))))

  pub handle-in : K → (p : Ptr) (h : Val) (a : Z.Denot) (x : Option R.Denot)
      → Step K 𝓛 (‵ (H.own_val (record { at = p; alloc = a; held = x }) (both (ptr_val p) h ∷ [])) ∷ Γ) G
      (‵ (holds R a p x) ∷ ‵ (Z.own_val a (h ∷ [])) ∷ Γ) G
  handle-in t p h a x = step (λ s. let v : Val = both (ptr_val p) h in
      nothing t $ move t (2 ∷ 0 ∷ []) $ fjoin t $ feq_i t (List Val) (ptr_val p ∷ []) (ptr_val p ∷ []) refl $ fjoin t $ feq_i t (List Val)
      (v ∷ []) (v ∷ []) refl $ fjoin t $
      fpack t (Valss (RawPtr ∷ Z ∷ [])) (within (shape handle.the_type) (p, ((heap.the_field).into a, tt)) (v ∷ []))
      (ptr_val p ∷ [], (h ∷ [], tt)) $ fjoin t $ s)

  -- nothing at null, or a box that may be tested
  pub either : K → (a : Z.Denot) (p : Ptr) (x : Option R.Denot) → (p ≡ null_ptr → x ≡ None → Seq K 𝓛 Γ G)
      → ((b o : ℕ) (y : R.Denot) → p ≡ block_ptr b o → x ≡ Some y → Testable (block_ptr b o)
      → Seq K 𝓛 (‵ (box_owns (ghosts.dealloc_token a) R (block_ptr b o) y) ∷ Γ) G)
      → Seq K 𝓛 (‵ (holds R a p x) ∷ Γ) G
  either t a p None none one = feq_l t (λ e. none e refl)
  either t a p (Some y) none one = in_a_block t p (λ q. box_owns (ghosts.dealloc_token a) R q y)
      (fst∗ 𝓤 (never 𝓤) (sem 𝓛 (ghosts.dealloc_token a (bare (lone R.mir)) null_ptr))) (λ b o e.
      use1 𝓛 (given (Testable (block_ptr b o)) (‵ (box_owns (ghosts.dealloc_token a) R (block_ptr b o) y))) (tested 𝓛 a (block_ptr b o) y) $
      learn t (λ s. one b o y e refl s))
