-- The parts of a merger, and the merger of its parts.
use Rattle.cn_bitonic.proofs.Common.{◌≡◌, ℕ, zero, suc, ◌+◌, ◌*◌, ◌^◌, ◌<◌, ◌≤◌, List, ◌++◌, length, map, refl, sym, ap, ◌∙◌, subst, arith, range_with_len, pow-suc, pow-succ', IsRow, evens, odds, layer, merge, MOST_BALANCERS, evens-row, map-evens, map-odds, odds-row, same-level, shorter, times-append, times-evens-odds, Plan, AllLoose, Builds, IsFlow, next_wire, Builds-beside, Builds-like, Builds-loose, Builds-sized, Builds-then, merger_made, BuildsMerger}
use Rattle.std.proofs.lemmas.List.FromFn.{length-range_with_len}
use Rattle.cn_spec.specs.Sums.{times}
use Rattle.cn_wiring.specs.Made.{with_layer}

-- a plan has room for the merger of x and x2
abbrev pub HasRoom : Plan → List ℕ → List ℕ → Type 0
HasRoom d x x2 = (level : ℕ) × IsRow level x × IsRow level x2 × (d.balancers + (level + 1) * 2 ^ level ≤ MOST_BALANCERS)

-- what a merger gives
abbrev pub Gives : Plan → Plan → List ℕ → List ℕ → List ℕ → Type 0
Gives old new x x2 y = (level : ℕ) → IsRow level x → BuildsMerger old new x x2 y level

-- in which order it makes them
abbrev pub Orders : Plan → Plan → List ℕ → List ℕ → List ℕ → Type 0
Orders old new x x2 y = (level : ℕ) → IsRow level x → merger_made level old x x2 ≡ (new, y)

-- ---- sizes

-- two mergers and a layer
merger-size : (n : ℕ) → (suc n + 1) * 2 ^ suc n ≡ ((n + 1) * 2 ^ n + (n + 1) * 2 ^ n) + 2 * 2 ^ n
merger-size n = rw (pow-succ' 2 n) (omega arith)

-- ---- the even and the odd wires

-- two rows of level n + 1 that a plan can merge
record Mergeable (d : Plan) (x x2 : List ℕ) (n : ℕ) : Type 0 where
  row : IsRow (suc n) x
  row2 : IsRow (suc n) x2
  room : d.balancers + 2 * ((n + 2) * 2 ^ n) ≤ MOST_BALANCERS
  there : AllLoose d (x ++ x2)

-- what the two inner mergers take is what goes in
times-inner : (w n : ℕ) (x x2 : List ℕ) → IsRow (suc n) x → IsRow (suc n) x2
    → times w (x ++ x2) ≡ times w ((evens x ++ odds x2) ++ (odds x ++ evens x2))
times-inner w n x x2 row row2 =
    let pairs : length x ≡ 2 ^ n * 2 = row ∙ pow-suc 2 n in
    let pairs2 : length x2 ≡ 2 ^ n * 2 = row2 ∙ pow-suc 2 n in
    omega (
      arith,
      times-append w x x2,
      times-append w (evens x ++ odds x2) (odds x ++ evens x2),
      times-append w (evens x) (odds x2),
      times-append w (odds x) (evens x2),
      times-evens-odds w (2 ^ n) x pairs,
      times-evens-odds w (2 ^ n) x2 pairs2,
    )

mergeable : (d : Plan) (x x2 : List ℕ) → (length x ≡ 1 → ⊥) → HasRoom d x x2 → AllLoose d (x ++ x2) → (n : ℕ) × Mergeable d x x2 n
mergeable d x x2 many room there = go room.0 room.1 room.2 room.3
  where
    go : (level : ℕ) → IsRow level x → IsRow level x2 → d.balancers + (level + 1) * 2 ^ level ≤ MOST_BALANCERS
        → (n : ℕ) × Mergeable d x x2 n
    go zero row row2 r = absurd (many row)
    go (suc n) row row2 r = (
      n,
      record {
        row = row;
        row2 = row2;
        room = let e = rw (pow-succ' 2 n) at r in omega (arith, e);
        there = there;
      },
    )

inner-loose : {d : Plan} {x x2 : List ℕ} {n : ℕ} → Mergeable d x x2 n → AllLoose d ((evens x ++ odds x2) ++ (odds x ++ evens x2))
inner-loose {d} {x} {x2} {n} m w = let t = m.there w in omega (arith, times-inner w n x x2 m.row m.row2)

-- what the first inner merger is asked
pub first-asked : (d : Plan) (x x2 even odd2 : List ℕ) → even ≡ evens x → odd2 ≡ odds x2
    → (length x ≡ 1 → ⊥) → HasRoom d x x2 → AllLoose d (x ++ x2)
    → (length even < length x) × (HasRoom d even odd2 × AllLoose d (even ++ odd2))
first-asked d x x2 even odd2 e o many room there =
    let (n, m) = mergeable d x x2 many room there in
    let row = evens-row n x m.row in
    let r = m.room in
    let fits : d.balancers + (n + 1) * 2 ^ n ≤ MOST_BALANCERS = omega (arith, r) in
    let loose : AllLoose d (evens x ++ odds x2) = λ w. let t = inner-loose m w in
    omega (arith, times-append w (evens x ++ odds x2) (odds x ++ evens x2)) in
    rw (e, o) (shorter n x (evens x) m.row row, ((n, row, odds-row n x2 m.row2, fits), loose))

-- and the second
pub second-asked : (d e : Plan) (x x2 even odd2 odd even2 z : List ℕ) → even ≡ evens x → odd2 ≡ odds x2 → odd ≡ odds x → even2 ≡ evens x2
    → (length x ≡ 1 → ⊥) → HasRoom d x x2 → AllLoose d (x ++ x2) → Gives d e even odd2 z
    → (length odd < length x) × (HasRoom e odd even2 × AllLoose e (odd ++ even2))
second-asked d e x x2 even odd2 odd even2 z p q p2 q2 many room there first =
    let (n, m) = mergeable d x x2 many room there in
    let row = odds-row n x m.row in
    let first' : Gives d e (evens x) (odds x2) z = rw (p, q) at first in
    let built = (first' n (evens-row n x m.row)).built in
    let r = m.room in
    let made = built.balancers in
    let fits : e.balancers + (n + 1) * 2 ^ n ≤ MOST_BALANCERS = omega (arith, r, made) in
    rw (p2, q2) (
      shorter n x (odds x) m.row row,
      ((n, row, evens-row n x2 m.row2, fits), Builds-loose (odds x ++ evens x2) (inner-loose m) built),
    )

-- ---- the two inner mergers

pub record InnerMergers (d e f : Plan) (x x2 z z2 : List ℕ) (n : ℕ) : Type 0 where
  whole : Mergeable d x x2 n
  first : BuildsMerger d e (evens x) (odds x2) z n
  second : BuildsMerger e f (odds x) (evens x2) z2 n
  first_order : merger_made n d (evens x) (odds x2) ≡ (e, z)
  second_order : merger_made n e (odds x) (evens x2) ≡ (f, z2)

pub inner-mergers : (d e f : Plan) (x x2 even odd2 odd even2 z z2 : List ℕ) → even ≡ evens x → odd2 ≡ odds x2 → odd ≡ odds x
    → even2 ≡ evens x2
    → (length x ≡ 1 → ⊥) → HasRoom d x x2 → AllLoose d (x ++ x2)
    → Gives d e even odd2 z → Orders d e even odd2 z → Gives e f odd even2 z2 → Orders e f odd even2 z2
    → (n : ℕ) × InnerMergers d e f x x2 z z2 n
inner-mergers d e f x x2 even odd2 odd even2 z z2 p q p2 q2 many room there first order second order2 =
    let (n, m) = mergeable d x x2 many room there in
    let first' : Gives d e (evens x) (odds x2) z = rw (p, q) at first in
    let second' : Gives e f (odds x) (evens x2) z2 = rw (p2, q2) at second in
    let order' : Orders d e (evens x) (odds x2) z = rw (p, q) at order in
    let order2' : Orders e f (odds x) (evens x2) z2 = rw (p2, q2) at order2 in
    let even = evens-row n x m.row in
    let odd = odds-row n x m.row in
    (n, record { whole = m; first = first' n even; second = second' n odd; first_order = order' n even; second_order = order2' n odd })

pub length-outs : {old new : Plan} {x x2 y : List ℕ} {level : ℕ} → BuildsMerger old new x x2 y level → length y ≡ 2 * 2 ^ level
length-outs m = ap length m.wires ∙ length-range_with_len _ _

-- what the last layer is asked
pub last-asked : {d e f : Plan} {x x2 z z2 : List ℕ} {n : ℕ} → InnerMergers d e f x x2 z z2 n
    → (length z ≡ length z2) × (f.balancers + length z ≤ MOST_BALANCERS) × AllLoose f (z ++ z2)
last-asked {d} {e} {f} {x} {x2} {z} {z2} {n} m =
    let l = length-outs m.first in
    let r = m.whole.room in
    let made = m.first.built.balancers in
    let made2 = m.second.built.balancers in
    let inner = Builds-beside (inner-loose m.whole) m.first.built m.second.built in (
      l ∙ sym (length-outs m.second),
      omega (arith, l, r, made, made2),
      λ w. let t = inner-loose m.whole w in let j = inner.loosed w in
          omega arith,
    )

-- the last layer over the two inner mergers
merges-all : {d e f g : Plan} {x x2 z z2 y : List ℕ} {n : ℕ} → InnerMergers d e f x x2 z z2 n
    → y ≡ range_with_len (f.entries + 2 * f.balancers) (2 * length z)
    → Builds f g (z ++ z2) y 1 (length z)
    → ((h : ℕ → ℕ) → IsFlow g h → map h y ≡ layer (map h z) (map h z2))
    → BuildsMerger d g x x2 y (suc n)
unfolding merge
merges-all {d} {e} {f} {g} {x} {x2} {z} {z2} {y} {n} m wires last flow =
    let l = length-outs m.first in
    let inner = Builds-like (x ++ x2) (λ w. times-inner w n x x2 m.whole.row m.whole.row2)
    (Builds-beside (inner-loose m.whole) m.first.built m.second.built) in
    record {
      built = Builds-sized (suc n + 1) ((suc n + 1) * 2 ^ suc n) (omega arith) (rw l (merger-size n)) (Builds-then inner last);
      wires =
          let same = inner.entries in
          let made = inner.balancers in
          let start : f.entries + 2 * f.balancers ≡ d.entries + 2 * (d.balancers + suc n * 2 ^ suc n) =
          rw (pow-succ' 2 n) (omega (arith, same, made)) in
          let many : 2 * length z ≡ 2 * 2 ^ suc n = rw (pow-succ' 2 n) (omega (arith, l)) in
          wires ∙ rw (start, many);
      flow = λ h k.
          let j = last.flow h k in
          flow h k ∙ rw (
            m.first.flow h (m.second.built.flow h j),
            m.second.flow h j,
            map-evens h x,
            map-odds h x2,
            map-odds h x,
            map-evens h x2,
          );
    }

pub gives_all : {d e f g : Plan} {x x2 z z2 : List ℕ} (n : ℕ) (y : List ℕ) → InnerMergers d e f x x2 z z2 n
    → y ≡ range_with_len (f.entries + 2 * f.balancers) (2 * length z)
    → Builds f g (z ++ z2) y 1 (length z)
    → ((h : ℕ → ℕ) → IsFlow g h → map h y ≡ layer (map h z) (map h z2))
    → Gives d g x x2 y
gives_all {d} {e} {f} {g} {x} {x2} {z} {z2} n y m wires last flow level row =
    subst (λ l. BuildsMerger d g x x2 y l) (sym (same-level (length x) (suc n) level m.whole.row row)) (merges-all m wires last flow)

ordered-all : {d e f g : Plan} {x x2 z z2 y : List ℕ} {n : ℕ} → InnerMergers d e f x x2 z z2 n
    → y ≡ range_with_len (next_wire f) (2 * length z) → g ≡ with_layer f z z2 → merger_made (suc n) d x x2 ≡ (g, y)
unfolding merger_made
ordered-all m wires plan = rw (m.first_order, m.second_order, wires, plan) refl

pub orders-all : {d e f g : Plan} {x x2 z z2 : List ℕ} (n : ℕ) (y : List ℕ) → InnerMergers d e f x x2 z z2 n
    → y ≡ range_with_len (next_wire f) (2 * length z) → g ≡ with_layer f z z2 → Orders d g x x2 y
orders-all {d} {e} {f} {g} {x} {x2} {z} {z2} n y m wires plan level row =
    rw (same-level (length x) (suc n) level m.whole.row row) (ordered-all m wires plan)

-- ---- two wires

pub orders-one : (d : Plan) (x x2 : List ℕ) {g : Plan} (y : List ℕ) → length x ≡ 1
    → y ≡ range_with_len (next_wire d) (2 * length x) → g ≡ with_layer d x x2 → Orders d g x x2 y
unfolding merger_made
orders-one d x x2 {g} y one wires plan zero row = rw (wires, plan) refl
orders-one d x x2 {g} y one wires plan (suc n) row = absurd (let t = row ∙ pow-succ' 2 n in omega (arith, t))

-- their balancer
pub gives_one : {d g : Plan} {x x2 : List ℕ} (y : List ℕ) → length x ≡ 1
    → y ≡ range_with_len (d.entries + 2 * d.balancers) (2 * length x)
    → Builds d g (x ++ x2) y 1 (length x)
    → ((h : ℕ → ℕ) → IsFlow g h → map h y ≡ layer (map h x) (map h x2))
    → Gives d g x x2 y
unfolding merge
gives_one {d} {g} {x} {x2} y one wires built flow zero row = record {
  built = Builds-sized 1 1 refl (sym one) built;
  wires = let start : d.entries + 2 * d.balancers ≡ d.entries + 2 * (d.balancers + 0) = omega arith in wires ∙ rw (start, one);
  flow = flow;
}
gives_one {d} {g} {x} {x2} y one wires built flow (suc n) row = absurd (let t = row ∙ pow-succ' 2 n in omega (arith, t))
