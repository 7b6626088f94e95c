-- The name of each client of a list is written at its place.
use Rattle.cn_lists.proofs.Common.{◌≡◌, ◌≢◌, ℕ, suc, ◌+◌, ◌-◌, ◌*◌, ◌<◌, ◌==◌, List, [], ◌∷◌, ◌++◌, length, map, refl, sym, ap, ◌∙◌, subst, arith, cond, get_or, slice_index, IsPermutation, get_or-map, length-map, map-append, map-set, times, order-times, times-append, times-cons, times-nil, every_second, grants_out, grants-next, AreNamesBy, AreNoted, gone_too, placed, Grant, append_assoc, eq-eqb, name_of, sum_by-append, sum_by-cons}
use Rattle.std.specs.List.{range_with_len, swap}
use Rattle.std.proofs.Math.ListN.{set}
use Rattle.std.proofs.lemmas.List.Edits.{swap_is}
use Rattle.std.proofs.lemmas.List.Sorted.{IsPermutation-keeps, IsPermutation-refl, IsPermutation-swap, IsPermutation-trans}
use Rattle.cn_lists.proofs.Groups.{placed-many, placed-more, placed-once, placed-times, read-all, sum-dealt}

-- ---- who has gone

extend : {f g : ℕ → ℕ} → ((k : ℕ) → f k ≡ g k) → f ≡ g
extend same = λ i k. same k i

pub none-too : (gone : ℕ → ℕ) → gone_too gone [] ≡ gone
none-too gone = extend (λ k. omega arith)

both-too : (gone : ℕ → ℕ) (xs ys : List (ℕ × ℕ)) → gone_too (gone_too gone xs) ys ≡ gone_too gone (xs ++ ys)
both-too gone xs ys = extend (λ k. omega (arith, sum_by-append (λ (e : ℕ × ℕ). cond (e.0 == k) 1 0) xs ys))

pub dealt-too : (gone : ℕ → ℕ) (q : ℕ) (es : List (ℕ × ℕ)) → q < 2
    → gone_too (gone_too gone (every_second (1 - q) es)) (every_second q es) ≡ gone_too gone es
dealt-too gone q es low = extend (λ k. omega (arith, sum-dealt (λ (e : ℕ × ℕ). cond (e.0 == k) 1 0) q es low))

-- ---- one more goes

-- names stay where they stand, as another is written at a place of its own
same-names : (places old new : List ℕ) (p : ℕ) → times p places ≡ 0 → ((k : ℕ) → k ≢ p → slice_index new k ≡ slice_index old k)
    → map (λ k. slice_index new k) places ≡ map (λ k. slice_index old k) places
same-names [] old new p none kept = refl
same-names (x ∷ places) old new p none kept =
    let all = times-cons p x places in
    let other : x ≢ p = λ e. omega (arith, none, all, ap {B = ℕ} (λ yes. cond yes 1 0) (eq-eqb x p e)) in
    let rest : times p places ≡ 0 = omega (arith, none, all) in
    λ i. kept x other i ∷ same-names places old new p rest kept i

noted-one : {before now : List Grant} {gone : ℕ → ℕ} {clients : List ℕ} {all : List Grant} {names : List ℕ} (most : List Grant)
    (new : List ℕ) (p : ℕ) (grant : Grant) → AreNoted before now gone clients all names → most ≡ all ++ grant ∷ []
    → grant.client ≡ slice_index clients p → p < length clients → length new ≡ length names
    → (p < length names → slice_index new p ≡ grant.name) → ((k : ℕ) → k ≢ p → slice_index new k ≡ slice_index names k)
    → AreNoted before (now ++ grant ∷ []) (gone_too gone ((p, slice_index clients p) ∷ [])) clients most new
noted-one {before} {now} {gone} {clients} {all} {names} most new p grant was grew theirs inside long here kept =
    let one = λ (k : ℕ). sum_by-cons (λ (e : ℕ × ℕ). cond (e.0 == k) 1 0) (p, slice_index clients p) [] in
    record {
      items = grew ∙ ap (λ (gs : List Grant). gs ++ grant ∷ []) was.items;
      places = was.places ++ p ∷ [];
      often = λ k. omega (arith, was.often k, times-append k was.places (p ∷ []), times-cons k p [], times-nil k, one k);
      more = was.more ++ grant ∷ [];
      grew = ap (λ (gs : List Grant). gs ++ grant ∷ []) was.grew ∙ append_assoc before was.more (grant ∷ []);
      whose = map-append (λ (g : Grant). g.client) was.more (grant ∷ []) ∙ (λ i. was.whose i ++ theirs i ∷ [])
          ∙ sym (map-append (λ (k : ℕ). slice_index clients k) was.places (p ∷ []));
      called = λ size apart.
          let none : times p was.places ≡ 0 =
          omega (arith, apart p, was.often p, one p, ap {B = ℕ} (λ yes. cond yes 1 0) (eq-eqb p p refl)) in
          let earlier = was.called (sym long ∙ size) (λ k. omega (arith, apart k)) in
          map-append (λ (g : Grant). g.name) was.more (grant ∷ [])
          ∙ (λ i. (earlier ∙ sym (same-names was.places names new p none kept)) i ++ sym (here (omega (arith, inside, size, long))) i ∷ [])
          ∙ sym (map-append (λ (k : ℕ). slice_index new k) was.places (p ∷ []));
    }

-- of those who leave by an exit
pub noted-next : {before : List Grant} {clients : List ℕ} {all : List Grant} {names : List ℕ} (now : List Grant) (gone : ℕ → ℕ)
    (width less exit visit first gap n : ℕ) (most : List Grant) (new : List ℕ) (grant : Grant)
    → AreNoted before (now ++ grants_out width less exit visit (placed clients first gap n))
    (gone_too gone (placed clients first gap n)) clients all names
    → grant ≡ record {
      client = slice_index clients (first + gap * n);
      exit = exit;
      visit = visit + n;
      name = name_of width exit (visit + n) - less;
    }
    → most ≡ all ++ grant ∷ [] → first + gap * n < length clients → length new ≡ length names
    → (first + gap * n < length names → slice_index new (first + gap * n) ≡ grant.name)
    → ((k : ℕ) → k ≢ first + gap * n → slice_index new k ≡ slice_index names k)
    → AreNoted before (now ++ grants_out width less exit visit (placed clients first gap (n + 1)))
    (gone_too gone (placed clients first gap (n + 1))) clients most new
noted-next {before} {clients} now gone width less exit visit first gap n most new grant was is grew inside long here kept =
    let p : ℕ = first + gap * n in
    let so_far = placed clients first gap n in
    let out : List (ℕ × ℕ) → List Grant = λ es. grants_out width less exit visit es in
    let next : n + 1 ≡ suc n = omega arith in
    let tokens = ap (placed clients first gap) next ∙ placed-more clients first gap n in
    let grows : out (placed clients first gap (n + 1)) ≡ out so_far ++ grant ∷ [] =
    ap out tokens ∙ grants-next width less exit visit (visit + n) so_far p (slice_index clients p)
    (omega (arith, placed-many clients first gap n)) ∙ (λ i. out so_far ++ sym is i ∷ []) in
    let grants = append_assoc now (out so_far) (grant ∷ []) ∙ ap (λ (gs : List Grant). now ++ gs) (sym grows) in
    let gone-too = both-too gone so_far ((p, slice_index clients p) ∷ []) ∙ ap (gone_too gone) (sym tokens) in
    subst (λ (z : List Grant × (ℕ → ℕ)). AreNoted before z.0 z.1 clients most new) (λ i. (grants i, gone-too i))
    (noted-one most new p grant was grew (ap (λ (g : Grant). g.client) is) inside long here kept)

-- ---- all of a list have gone

-- what is read of elements that changed places
map-swap : {X : Type 0} (f : X → ℕ) (xs : List X) (i j : ℕ) (d : X) → i < length xs → j < length xs
    → map f (swap xs i j) ≡ swap (map f xs) i j
map-swap f xs i j d p q =
    let long = length-map xs f in
    ap (map f) (sym (swap_is xs i j d p q)) ∙ map-set f (set xs i (get_or xs j d)) j (get_or xs i d)
    ∙ (λ t. set ((map-set f xs i (get_or xs j d) ∙ ap (set (map f xs) i) (sym (get_or-map f xs j d (f d) q))) t) j
    (sym (get_or-map f xs i d (f d) p) t))
    ∙ swap_is (map f xs) i j (f d) (omega (arith, p, long)) (omega (arith, q, long))

-- grants change places as the places do of which their clients and names are read
in-order : (whose called : ℕ → ℕ) (more : List Grant) (places to : List ℕ) → IsPermutation places to
    → map (λ (g : Grant). g.client) more ≡ map whose places → map (λ (g : Grant). g.name) more ≡ map called places
    → AreNamesBy more (map whose to) (map called to)
in-order whose called more places to order client name =
    IsPermutation-keeps places (λ (ps : List ℕ). AreNamesBy more (map whose ps) (map called ps))
    (record { order = more; same = IsPermutation-refl more; whose = client; called = name })
    (λ ps i j p q is.
    let none : Grant = record { client = 0; exit = 0; visit = 0; name = 0 } in
    let long : length is.order ≡ length ps =
    omega (arith, ap length is.whose, length-map is.order (λ (g : Grant). g.client), length-map ps whose) in
    let p2 : i < length is.order = omega (arith, p, long) in
    let q2 : j < length is.order = omega (arith, q, long) in
    record {
      order = swap is.order i j;
      same = IsPermutation-trans more is.order (swap is.order i j) is.same
          (IsPermutation-swap is.order (swap is.order i j) i j p2 q2 refl);
      whose = map-swap (λ (g : Grant). g.client) is.order i j none p2 q2 ∙ ap (λ (xs : List ℕ). swap xs i j) is.whose
          ∙ sym (map-swap whose ps i j 0 p q);
      called = map-swap (λ (g : Grant). g.name) is.order i j none p2 q2 ∙ ap (λ (xs : List ℕ). swap xs i j) is.called
          ∙ sym (map-swap called ps i j 0 p q);
    })
    to order

pub by-place : {before now : List Grant} {clients : List ℕ} {all : List Grant} {names : List ℕ}
    → AreNoted before now (gone_too (λ _. 0) (placed clients 0 1 (length clients))) clients all names → length names ≡ length clients
    → (more : List Grant) × (now ≡ before ++ more) × AreNamesBy more clients names
by-place {before} {now} {clients} {all} {names} is size =
    let n : ℕ = length clients in
    let range : List ℕ = range_with_len 0 n in
    let order = order-times is.places range (λ k. omega (arith, is.often k, placed-times clients n k)) in (
      is.more,
      is.grew,
      subst (λ (z : List ℕ × List ℕ). AreNamesBy is.more z.0 z.1) (λ i. (read-all clients n refl i, read-all names n size i))
          (in-order (λ k. slice_index clients k) (λ k. slice_index names k) is.more is.places range order is.whose
          (is.called size (λ k. omega (arith, placed-once clients n k)))),
    )
