-- A list of ends in which some loose wires come to end at a balancer.
use Rattle.cn_wiring.proofs.Common.{◌≡◌, ◌≢◌, ℕ, ◌+◌, ◌<◌, ◌≤◌, ◌⊎◌, inl, inr, List, [], ◌∷◌, ◌++◌, length, get_or, set, refl, ◌∙◌, arith, eqb, Option, Some, None, length-set, get_or-set_same, get_or-set_other, sum_by, is_none, cases_Bool, cases_eq, cases_lt, eq-eqb, nat_tests, sum_by-cons, get_or_past, when, total_where, times, ends_at, total-where-set}
use Rattle.std.proofs.lemmas.Grind.{common_steps}

-- 1 where wire w of the list ends nowhere
abbrev pub loose_in : List (Option ℕ) → ℕ → ℕ
loose_in es w = when (is_none (get_or es w (Some 0))) 1

-- the wires ws end at balancer b
abbrev pub mark : List (Option ℕ) → List ℕ → ℕ → List (Option ℕ)
mark es [] b = es
mark es (w ∷ ws) b = mark (set es w (Some b)) ws b

loose_in-past : (es : List (Option ℕ)) (w : ℕ) → length es ≤ w → loose_in es w ≡ 0
loose_in-past es w h = rw (get_or_past es w (Some 0) h)

pub below_from-loose : (es : List (Option ℕ)) (w : ℕ) → 1 ≤ loose_in es w → w < length es
below_from-loose es w h = elim (cases_lt w (length es)) [ inl k ↦ k | inr k ↦ absurd (omega (arith, loose_in-past es w k)) ]

pub loose_in-push : (es : List (Option ℕ)) (w : ℕ) → loose_in (es ++ None ∷ []) w ≡ loose_in es w + when (eqb (length es) w) 1
loose_in-push es w = grind (arith, nat_tests, common_steps)

loose_in-set : (es : List (Option ℕ)) (u b w : ℕ) → 1 ≤ loose_in es u → loose_in (set es u (Some b)) w + when (eqb u w) 1 ≡ loose_in es w
loose_in-set es u b w h = grind (
  arith,
  nat_tests,
  get_or-set_same es u (Some b) (Some 0) (below_from-loose es u h),
  get_or-set_other es u w (Some b) (Some 0),
  cases_Bool (is_none (get_or es u (Some 0))),
)

unfoldable pub AllLooseIn : List (Option ℕ) → List ℕ → Type 0
AllLooseIn es ws = (w : ℕ) → times w ws ≤ loose_in es w

pub head-loose : (es : List (Option ℕ)) (u : ℕ) (ws : List ℕ) → AllLooseIn es (u ∷ ws) → 1 ≤ loose_in es u
unfolding AllLooseIn times
head-loose es u ws h = let k = h u in let e = eq-eqb u u refl in let m : when (eqb u u) 1 + times u ws ≤ loose_in es u = k in
    let n : 1 + times u ws ≤ loose_in es u = rw e at m in omega arith

pub tail-loose : (es : List (Option ℕ)) (u b : ℕ) (ws : List ℕ) → AllLooseIn es (u ∷ ws) → AllLooseIn (set es u (Some b)) ws
unfolding AllLooseIn times
tail-loose es u b ws h w =
    let k : when (eqb u w) 1 + times w ws ≤ loose_in es w = h w in
    omega (arith, loose_in-set es u b w (head-loose es u ws h))

pub length-mark : (es : List (Option ℕ)) (ws : List ℕ) (b : ℕ) → length (mark es ws b) ≡ length es
length-mark es [] b = refl
length-mark es (w ∷ ws) b = length-mark (set es w (Some b)) ws b ∙ length-set es w (Some b)

pub loose_in-mark : (es : List (Option ℕ)) (ws : List ℕ) (b w : ℕ) → AllLooseIn es ws
    → loose_in (mark es ws b) w + times w ws ≡ loose_in es w
unfolding times
loose_in-mark es [] b w h = omega arith
loose_in-mark es (u ∷ ws) b w h =
    omega (arith, loose_in-mark (set es u (Some b)) ws b w (tail-loose es u b ws h), loose_in-set es u b w (head-loose es u ws h))

pub ends_at-loose : (es : List (Option ℕ)) (u : ℕ) → 1 ≤ loose_in es u → get_or es u (Some 0) ≡ None
ends_at-loose es u h = elim (get_or es u (Some 0)) as (λ o. 1 ≤ when (is_none o) 1 → o ≡ None)
    [ None ↦ λ _. refl | Some x ↦ λ i. absurd (omega arith) ] h

pub total-mark : (es : List (Option ℕ)) (ws : List ℕ) (b c : ℕ) (f : ℕ → ℕ) → AllLooseIn es ws
    → total_where (ends_at c) (mark es ws b) f ≡ total_where (ends_at c) es f + when (eqb b c) (sum_by f ws)
total-mark es [] b c f h = grind (arith, nat_tests)
total-mark es (u ∷ ws) b c f h =
    let l = head-loose es u ws h in
    let step : total_where (ends_at c) (set es u (Some b)) f + 0 ≡ total_where (ends_at c) es f + when (eqb b c) (f u) =
    rw (ends_at-loose es u l) at (total-where-set (ends_at c) es u (Some b) (Some 0) f (below_from-loose es u l)) in
    grind (arith, nat_tests, total-mark (set es u (Some b)) ws b c f (tail-loose es u b ws h), sum_by-cons f u ws)

-- a wire that ends at another balancer than b did so before
pub mark-other : (es : List (Option ℕ)) (ws : List ℕ) (b u c : ℕ) → c ≢ b → AllLooseIn es ws → get_or (mark es ws b) u None ≡ Some c
    → get_or es u None ≡ Some c
mark-other es [] b u c n l h = h
mark-other es (w ∷ ws) b u c n l h =
    let same = get_or-set_same es w (Some b) None (below_from-loose es w (head-loose es w ws l)) in
    let k = mark-other (set es w (Some b)) ws b u c n (tail-loose es w b ws l) h in
    grind (arith, cases_eq u w, get_or-set_other es w u (Some b) None)

-- a wire that ends at b did so before, or is one of ws
pub mark-at : (es : List (Option ℕ)) (ws : List ℕ) (b u : ℕ) → get_or (mark es ws b) u None ≡ Some b
    → (get_or es u None ≡ Some b) ⊎ (1 ≤ times u ws)
unfolding times
mark-at es [] b u h = inl h
mark-at es (w ∷ ws) b u h =
    grind (arith, nat_tests, mark-at (set es w (Some b)) ws b u h, get_or-set_other es w u (Some b) None)

-- a wire that has an end in the list of ends stands in the list
pub below_from-end : (es : List (Option ℕ)) (u b : ℕ) → get_or es u None ≡ Some b → u < length es
below_from-end es u b e = grind (arith, get_or_past es u None)

pub get-or-push-none : (es : List (Option ℕ)) (u b : ℕ) → get_or (es ++ None ∷ []) u None ≡ Some b → get_or es u None ≡ Some b
get-or-push-none es u b e = grind (arith, common_steps)
