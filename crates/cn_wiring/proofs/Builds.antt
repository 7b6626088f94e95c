-- Parts of a network beside each other and one after the other.
use Rattle.cn_wiring.proofs.Common.{◌≡◌, ℕ, ◌+◌, inl, inr, List, [], ◌++◌, refl, ◌∙◌, arith, cases_lt, times, Plan, AllLoose, Builds, times-append, zero, suc, ◌*◌, ◌<◌, ◌≤◌, ◌∷◌, length, get_or, map, take, drop, ap, sym, range_with_len, drop_all, drop_more, take_more, take-append-drop, map-append, map_more, length-map, length-take-le, take_all, half, layer, layer-push, with_layer, IsFlow, next_wire, with_balancer}
use Rattle.cn_wiring.proofs.Marks.{below_from-loose}

pub Builds-none : (d : Plan) (depth : ℕ) → Builds d d [] [] depth 0
unfolding times
Builds-none d depth = record {
  entries = refl;
  balancers = omega arith;
  wires = omega arith;
  loosed = λ w. refl;
  flow = λ f g. g;
  kept = λ n w k l. l;
  level = λ n a w k. absurd (omega arith);
}

-- no balancer: the wires that come out are those that went in
pub Builds-same : (d : Plan) (ws : List ℕ) → Builds d d ws ws 0 0
Builds-same d ws = record {
  entries = refl;
  balancers = omega arith;
  wires = omega arith;
  loosed = λ w. refl;
  flow = λ f g. g;
  kept = λ n w k l. l;
  level = λ n a w k. let e : n + 0 ≡ n = omega arith in rw e (a w k);
}

-- the same wires in another order
pub Builds-like : {old new : Plan} {ins outs : List ℕ} {depth size : ℕ} (ins' : List ℕ) → ((w : ℕ) → times w ins' ≡ times w ins)
    → Builds old new ins outs depth size → Builds old new ins' outs depth size
Builds-like {old} {new} {ins} {outs} {depth} {size} ins' same b = record {
  entries = b.entries;
  balancers = b.balancers;
  wires = b.wires;
  loosed = λ w. rw (same w) (b.loosed w);
  flow = b.flow;
  kept = b.kept;
  level = λ n a. b.level n (λ w k. a w (rw (same w) k));
}

-- and the new wires in another order
pub Builds-giving : {old new : Plan} {ins outs : List ℕ} {depth size : ℕ} (outs' : List ℕ) → ((w : ℕ) → times w outs' ≡ times w outs)
    → Builds old new ins outs depth size → Builds old new ins outs' depth size
Builds-giving {old} {new} {ins} {outs} {depth} {size} outs' same b = record {
  entries = b.entries;
  balancers = b.balancers;
  wires = b.wires;
  loosed = λ w. rw (same w) (b.loosed w);
  flow = b.flow;
  kept = b.kept;
  level = λ n a w k. b.level n a w (rw (same w) at k);
}

pub Builds-sized : {old new : Plan} {ins outs : List ℕ} {depth size : ℕ} (depth' size' : ℕ) → depth' ≡ depth → size' ≡ size
    → Builds old new ins outs depth size → Builds old new ins outs depth' size'
Builds-sized depth' size' d s b = rw (d, s) b

pub Builds-then : {a b c : Plan} {xs ys zs : List ℕ} {d e m n : ℕ} → Builds a b xs ys d m → Builds b c ys zs e n
    → Builds a c xs zs (d + e) (m + n)
Builds-then {a} {b} {c} {xs} {ys} {zs} {d} {e} {m} {n} p q = record {
  entries = q.entries ∙ p.entries;
  balancers = let h = p.balancers in let k = q.balancers in omega arith;
  wires = let h = p.wires in let k = q.wires in omega arith;
  loosed = λ w. let h = p.loosed w in let k = q.loosed w in omega arith;
  flow = λ f g. p.flow f (q.flow f g);
  kept = λ l w k h. q.kept l w (let j = p.wires in omega arith) (p.kept l w k h);
  level = λ l h. let s : l + (d + e) ≡ (l + d) + e = omega arith in rw s (q.level (l + d) (p.level l h));
}

-- us stand in the first plan already
pub Builds-beside : {a b c : Plan} {xs ys us vs : List ℕ} {d m n : ℕ} → AllLoose a (xs ++ us) → Builds a b xs ys d m → Builds b c us vs d n
    → Builds a c (xs ++ us) (ys ++ vs) d (m + n)
Builds-beside {a} {b} {c} {xs} {ys} {us} {vs} {d} {m} {n} there p q = record {
  entries = q.entries ∙ p.entries;
  balancers = let h = p.balancers in let k = q.balancers in omega arith;
  wires = let h = p.wires in let k = q.wires in omega arith;
  loosed = λ w. let h = p.loosed w in let k = q.loosed w in omega (arith, times-append w xs us, times-append w ys vs);
  flow = λ f g. p.flow f (q.flow f g);
  kept = λ l w k h. q.kept l w (let j = p.wires in omega arith) (p.kept l w k h);
  level = λ l h w k.
      elim (cases_lt 0 (times w ys)) [
        | inl i ↦ q.kept (l + d) w (below_from-loose b.ends w
            (let t = there w in let j = p.loosed w in omega (arith, times-append w xs us)))
            (p.level l (λ u j. h u (omega (arith, times-append u xs us))) w i)
        | inr i ↦ q.level l (λ u j. p.kept l u (below_from-loose a.ends u (let t = there u in omega (arith, times-append u xs us)))
            (h u (omega (arith, times-append u xs us)))) w (omega (arith, times-append w ys vs))
      ];
}

-- wires that are loose beside what has been built still are
pub Builds-loose : {a b : Plan} {xs ys : List ℕ} {d m : ℕ} (us : List ℕ) → AllLoose a (xs ++ us) → Builds a b xs ys d m → AllLoose b us
Builds-loose {a} {b} {xs} {ys} us there p w =
    let t = there w in let j = p.loosed w in omega (arith, times-append w xs us)

-- and so are they with what came out
pub Builds-loose_with : {a b : Plan} {xs ys : List ℕ} {d m : ℕ} (us : List ℕ) → AllLoose a (xs ++ us) → Builds a b xs ys d m
    → AllLoose b (ys ++ us)
Builds-loose_with {a} {b} {xs} {ys} us there p w =
    let t = there w in let j = p.loosed w in omega (arith, times-append w xs us, times-append w ys us)

-- Balancers beside each other, one for each pair of wires.

-- the first i of xs and of ys have been joined pairwise
pub record Layer (old new : Plan) (xs ys outs : List ℕ) (i : ℕ) : Type 0 where
  pub built : Builds old new (take i xs ++ take i ys) outs 1 i
  pub wires : outs ≡ range_with_len (next_wire old) (2 * i)
  pub flow : (f : ℕ → ℕ) → IsFlow new f → map f outs ≡ layer (map f (take i xs)) (map f (take i ys))
  -- and the others are yet to be
  pub rest : with_layer new (drop i xs) (drop i ys) ≡ with_layer old xs ys

pub layer-none : (d : Plan) (xs ys : List ℕ) → Layer d d xs ys [] 0
layer-none d xs ys = record { built = Builds-none d 1; wires = refl; flow = λ f g. refl; rest = refl }

rest-none : (d : Plan) → with_layer d [] [] ≡ d
unfolding with_layer
rest-none d = refl

rest-pair : (d : Plan) (x y : ℕ) (xs ys : List ℕ) → with_layer d (x ∷ xs) (y ∷ ys) ≡ with_layer (with_balancer d (x ∷ y ∷ [])) xs ys
unfolding with_layer
rest-pair d x y xs ys = refl

rest_more : (d : Plan) (xs ys : List ℕ) (i : ℕ) → i < length xs → i < length ys
    → with_layer d (drop i xs) (drop i ys) ≡ with_layer (with_balancer d (get_or xs i 0 ∷ get_or ys i 0 ∷ [])) (drop (i + 1) xs)
    (drop (i + 1) ys)
rest_more d xs ys i h k = rw (drop_more xs i 0 h, drop_more ys i 0 k) (rest-pair d _ _ _ _)

-- two numbers more
range-two_more : (a n b : ℕ) → b ≡ a + n → range_with_len a (n + 2) ≡ range_with_len a n ++ b ∷ (b + 1) ∷ []
range-two_more a zero b e = let s : b ≡ a = omega arith in rw s
range-two_more a (suc n) b e =
    let s : suc n + 2 ≡ suc (n + 2) = omega arith in
    rw s (ap (λ r. a ∷ r) (range-two_more (a + 1) n b (omega arith)))

wires-more : (a i b : ℕ) → b ≡ a + 2 * i → range_with_len a (2 * (i + 1)) ≡ range_with_len a (2 * i) ++ b ∷ (b + 1) ∷ []
wires-more a i b e = let s : 2 * (i + 1) ≡ 2 * i + 2 = omega arith in rw s (range-two_more a (2 * i) b e)

times-take_more : (w : ℕ) (xs : List ℕ) (i : ℕ) → i < length xs
    → times w (take (i + 1) xs) ≡ times w (take i xs) + times w (get_or xs i 0 ∷ [])
times-take_more w xs i h = rw (take_more xs i 0 h) (times-append w (take i xs) (get_or xs i 0 ∷ []))

times-take : (w : ℕ) (xs : List ℕ) (i : ℕ) → times w (take i xs) ≤ times w xs
times-take w xs i =
    let e : times w (take i xs ++ drop i xs) ≡ times w xs = rw (take-append-drop i xs) in
    omega (arith, times-append w (take i xs) (drop i xs))

times-pair : (w x y : ℕ) → times w (x ∷ y ∷ []) ≡ times w (x ∷ []) + times w (y ∷ [])
unfolding times
times-pair w x y = omega arith

-- the wires that have been joined, with one more pair
times-pairs : (w : ℕ) (xs ys : List ℕ) (i : ℕ) → i < length xs → i < length ys
    → times w (take (i + 1) xs ++ take (i + 1) ys) ≡ times w ((take i xs ++ take i ys) ++ (get_or xs i 0 ∷ get_or ys i 0 ∷ []))
times-pairs w xs ys i h k =
    omega (
      arith,
      times-append w (take (i + 1) xs) (take (i + 1) ys),
      times-append w (take i xs ++ take i ys) (get_or xs i 0 ∷ get_or ys i 0 ∷ []),
      times-append w (take i xs) (take i ys),
      times-pair w (get_or xs i 0) (get_or ys i 0),
      times-take_more w xs i h,
      times-take_more w ys i k,
    )

pairs-loose : (d : Plan) (xs ys : List ℕ) (i : ℕ) → i < length xs → i < length ys → AllLoose d (xs ++ ys)
    → AllLoose d ((take i xs ++ take i ys) ++ (get_or xs i 0 ∷ get_or ys i 0 ∷ []))
pairs-loose d xs ys i h k there w =
    let t = there w in
    omega (
      arith,
      times-pairs w xs ys i h k,
      times-append w (take (i + 1) xs) (take (i + 1) ys),
      times-append w xs ys,
      times-take w xs (i + 1),
      times-take w ys (i + 1),
    )

-- the next pair is loose
pub layer-next : {old new : Plan} {xs ys outs : List ℕ} {i : ℕ} → i < length xs → i < length ys → AllLoose old (xs ++ ys)
    → Layer old new xs ys outs i → AllLoose new (get_or xs i 0 ∷ get_or ys i 0 ∷ [])
layer-next {old} {new} {xs} {ys} {outs} {i} h k there b = Builds-loose _ (pairs-loose old xs ys i h k there) b.built

pub layer-more : {old mid new : Plan} {xs ys outs : List ℕ} {i r s : ℕ} → i < length xs → i < length ys → AllLoose old (xs ++ ys)
    → Layer old mid xs ys outs i
    → Builds mid new (get_or xs i 0 ∷ get_or ys i 0 ∷ []) (r ∷ s ∷ []) 1 1
    → (r ≡ next_wire mid) × (s ≡ r + 1)
    → new ≡ with_balancer mid (get_or xs i 0 ∷ get_or ys i 0 ∷ [])
    → ((f : ℕ → ℕ) → IsFlow new f → (f r ≡ half (f (get_or xs i 0) + f (get_or ys i 0)) 0)
    × (f s ≡ half (f (get_or xs i 0) + f (get_or ys i 0)) 1))
    → Layer old new xs ys (outs ++ r ∷ s ∷ []) (i + 1)
layer-more {old} {mid} {new} {xs} {ys} {outs} {i} {r} {s} h k there l b at plan g = record {
  built = Builds-like _ (λ w. times-pairs w xs ys i h k) (Builds-beside (pairs-loose old xs ys i h k there) l.built b);
  wires =
      let first = l.built.entries in
      let made = l.built.balancers in
      let e : r ≡ next_wire old + 2 * i = omega arith in
      rw (l.wires, at.1) (sym (wires-more (next_wire old) i r e));
  flow = λ f q.
      let here = g f q in
      let rest = l.flow f (b.flow f q) in
      let lengths : length (map f (take i xs)) ≡ length (map f (take i ys)) =
      omega (arith, length-map (take i xs) f, length-map (take i ys) f, length-take-le i xs, length-take-le i ys) in
      rw (
        map-append f outs (r ∷ s ∷ []),
        map_more f xs i 0 h,
        map_more f ys i 0 k,
        layer-push (map f (take i xs)) (map f (take i ys)) (f (get_or xs i 0)) (f (get_or ys i 0)) lengths,
        rest,
        here.0,
        here.1,
      );
  rest = rw plan (sym (rest_more mid xs ys i h k)) ∙ l.rest;
}

pub layer-all : {old new : Plan} {xs ys outs : List ℕ} {i : ℕ} → i ≡ length xs → length xs ≡ length ys → Layer old new xs ys outs i
    → Builds old new (xs ++ ys) outs 1 (length xs)
    × (outs ≡ range_with_len (next_wire old) (2 * length xs))
    × ((f : ℕ → ℕ) → IsFlow new f → map f outs ≡ layer (map f xs) (map f ys))
    × (new ≡ with_layer old xs ys)
layer-all {old} {new} {xs} {ys} {outs} {i} e s l =
    let x : take i xs ≡ xs = take_all i xs (omega arith) in
    let y : take i ys ≡ ys = take_all i ys (omega arith) in
    let x' : drop i xs ≡ [] = drop_all i xs (omega arith) in
    let y' : drop i ys ≡ [] = drop_all i ys (omega arith) in
    let none : new ≡ with_layer new (drop i xs) (drop i ys) = rw (x', y') (sym (rest-none new)) in
    (rw (x, y, e) at l.built, rw e at l.wires, rw (x, y) at l.flow, none ∙ l.rest)
