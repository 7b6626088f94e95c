-- The halves of a bitonic network, and the network of its halves.
use Rattle.cn_bitonic.proofs.Common.{◌≡◌, ℕ, zero, suc, ◌+◌, ◌*◌, ◌/◌, ◌^◌, ◌<◌, ◌≤◌, List, ◌++◌, length, take, drop, refl, sym, ◌∙◌, subst, arith, pow-succ', IsRow, bitonic, MOST_BALANCERS, back-row, front-row, half_pow, half-row, same-level, shorter, times-append, Plan, AllLoose, Builds-beside, Builds-loose, Builds-same, Builds-sized, Builds-then, bitonic_made, merger_made, BuildsBitonic, BuildsMerger, bitonic_balancers, bitonic_depth}
use Rattle.std.proofs.lemmas.List.{drop-map, take-append-drop, take-map}
use Rattle.cn_bitonic.proofs.MergerParts.{Gives, HasRoom, Orders, length-outs}

-- a plan has room for the bitonic network over x
abbrev pub HasPlace : Plan → List ℕ → Type 0
HasPlace d x = (level : ℕ) × IsRow level x × (d.balancers + bitonic_balancers level ≤ MOST_BALANCERS)

-- what the bitonic network over x gives
abbrev pub Counted : Plan → Plan → List ℕ → List ℕ → Type 0
Counted old new x y = (level : ℕ) → IsRow level x → BuildsBitonic old new x y level

-- in which order it makes them
abbrev pub Sequence : Plan → Plan → List ℕ → List ℕ → Type 0
Sequence old new x y = (level : ℕ) → IsRow level x → bitonic_made level old x ≡ (new, y)

-- ---- sizes

depth-suc : (n : ℕ) → bitonic_depth (suc n) ≡ bitonic_depth n + (n + 1)
depth-suc n = omega arith

-- two networks and a merger
balancers-suc : (n : ℕ) → bitonic_balancers (suc n) ≡ (bitonic_balancers n + bitonic_balancers n) + (n + 1) * 2 ^ n
balancers-suc zero = refl
balancers-suc (suc n) = go (bitonic_depth (suc n)) (bitonic_depth (suc (suc n))) (depth-suc (suc n))
  where
    go : (d e : ℕ) → e ≡ d + (suc n + 1) → 2 ^ suc (suc n) / 2 * e ≡ (2 ^ suc n / 2 * d + 2 ^ suc n / 2 * d) + (suc n + 1) * 2 ^ suc n
    go d e h = rw (h, half_pow (suc n), half_pow n, pow-succ' 2 n) (omega arith)

-- ---- the halves

-- a row of level n + 1 over which a plan can build
record Splittable (d : Plan) (x : List ℕ) (n : ℕ) : Type 0 where
  row : IsRow (suc n) x
  room : d.balancers + ((bitonic_balancers n + bitonic_balancers n) + (n + 1) * 2 ^ n) ≤ MOST_BALANCERS
  there : AllLoose d (take (2 ^ n) x ++ drop (2 ^ n) x)

splittable : (d : Plan) (x : List ℕ) → (length x ≡ 1 → ⊥) → HasPlace d x → AllLoose d x → (n : ℕ) × Splittable d x n
splittable d x many place there = go place.0 place.1 place.2
  where
    go : (level : ℕ) → IsRow level x → d.balancers + bitonic_balancers level ≤ MOST_BALANCERS → (n : ℕ) × Splittable d x n
    go zero row r = absurd (many row)
    go (suc n) row r = (
      n,
      record {
        row = row;
        room = let e = balancers-suc n in omega (arith, r, e);
        there = rw (take-append-drop (2 ^ n) x) there;
      },
    )

front-loose : {d : Plan} {x : List ℕ} {n : ℕ} → Splittable d x n → AllLoose d (take (2 ^ n) x)
front-loose {d} {x} {n} s w = let t = s.there w in omega (arith, times-append w (take (2 ^ n) x) (drop (2 ^ n) x))

-- what the network over the first half is asked
pub front-asked : (d : Plan) (x front : List ℕ) → front ≡ take (length x / 2) x
    → (length x ≡ 1 → ⊥) → HasPlace d x → AllLoose d x
    → (length front < length x) × (HasPlace d front × AllLoose d front)
front-asked d x front e many place there =
    let (n, s) = splittable d x many place there in
    let row = front-row n x s.row in
    let r = s.room in
    let fits : d.balancers + bitonic_balancers n ≤ MOST_BALANCERS = omega (arith, r) in
    rw (e, half-row n x s.row) (shorter n x (take (2 ^ n) x) s.row row, ((n, row, fits), front-loose s))

-- and over the second
pub back-asked : (d e : Plan) (x front back y : List ℕ) → front ≡ take (length x / 2) x → back ≡ drop (length x / 2) x
    → (length x ≡ 1 → ⊥) → HasPlace d x → AllLoose d x → Counted d e front y
    → (length back < length x) × (HasPlace e back × AllLoose e back)
back-asked d e x front back y p q many place there first =
    let (n, s) = splittable d x many place there in
    let row = back-row n x s.row in
    let first' : Counted d e (take (2 ^ n) x) y = rw (p, half-row n x s.row) at first in
    let built = (first' n (front-row n x s.row)).built in
    let r = s.room in
    let made = built.balancers in
    let fits : e.balancers + bitonic_balancers n ≤ MOST_BALANCERS = omega (arith, r, made) in
    rw (q, half-row n x s.row) (shorter n x (drop (2 ^ n) x) s.row row, ((n, row, fits), Builds-loose (drop (2 ^ n) x) s.there built))

-- ---- the networks over both halves

pub record BothHalves (d e f : Plan) (x y y2 : List ℕ) (n : ℕ) : Type 0 where
  whole : Splittable d x n
  first : BuildsBitonic d e (take (2 ^ n) x) y n
  second : BuildsBitonic e f (drop (2 ^ n) x) y2 n
  first_order : bitonic_made n d (take (2 ^ n) x) ≡ (e, y)
  second_order : bitonic_made n e (drop (2 ^ n) x) ≡ (f, y2)

pub both_halves : (d e f : Plan) (x front back y y2 : List ℕ) → front ≡ take (length x / 2) x → back ≡ drop (length x / 2) x
    → (length x ≡ 1 → ⊥) → HasPlace d x → AllLoose d x
    → Counted d e front y → Sequence d e front y → Counted e f back y2 → Sequence e f back y2
    → (n : ℕ) × BothHalves d e f x y y2 n
both_halves d e f x front back y y2 p q many place there first order second order2 =
    let (n, s) = splittable d x many place there in
    let half = half-row n x s.row in
    let first' : Counted d e (take (2 ^ n) x) y = rw (p, half) at first in
    let second' : Counted e f (drop (2 ^ n) x) y2 = rw (q, half) at second in
    let order' : Sequence d e (take (2 ^ n) x) y = rw (p, half) at order in
    let order2' : Sequence e f (drop (2 ^ n) x) y2 = rw (q, half) at order2 in
    let front = front-row n x s.row in
    let back = back-row n x s.row in
    (n, record { whole = s; first = first' n front; second = second' n back; first_order = order' n front; second_order = order2' n back })

-- what their merger is asked
pub merger-asked : {d e f : Plan} {x y y2 : List ℕ} {n : ℕ} → BothHalves d e f x y y2 n → HasRoom f y y2 × AllLoose f (y ++ y2)
merger-asked {d} {e} {f} {x} {y} {y2} {n} b =
    let r = b.whole.room in
    let made = b.first.built.balancers in
    let made2 = b.second.built.balancers in
    let both = Builds-beside b.whole.there b.first.built b.second.built in
    let fits : f.balancers + (n + 1) * 2 ^ n ≤ MOST_BALANCERS = omega (arith, r, made, made2) in
    ((n, b.first.row, b.second.row, fits), λ w. let t = b.whole.there w in let j = both.loosed w in omega arith)

counted-suc : {d e f g : Plan} {x y y2 z : List ℕ} {n : ℕ} → BothHalves d e f x y y2 n → BuildsMerger f g y y2 z n
    → BuildsBitonic d g x z (suc n)
unfolding bitonic
counted-suc {d} {e} {f} {g} {x} {y} {y2} {z} {n} b m = record {
  built =
      let both = rw (take-append-drop (2 ^ n) x) at (Builds-beside b.whole.there b.first.built b.second.built) in
      Builds-sized (bitonic_depth (suc n)) (bitonic_balancers (suc n)) (depth-suc n) (balancers-suc n) (Builds-then both m.built);
  row = length-outs m ∙ sym (pow-succ' 2 n);
  flow = λ h k.
      let j = m.built.flow h k in
      m.flow h k ∙ rw (b.first.flow h (b.second.built.flow h j), b.second.flow h j, take-map h (2 ^ n) x, drop-map h (2 ^ n) x);
}

pub counted-all : {d e f g : Plan} {x y y2 : List ℕ} (n : ℕ) (z : List ℕ) → BothHalves d e f x y y2 n → Gives f g y y2 z → Counted d g x z
counted-all {d} {e} {f} {g} {x} {y} {y2} n z b gives level row =
    subst (λ l. BuildsBitonic d g x z l) (sym (same-level (length x) (suc n) level b.whole.row row)) (counted-suc b (gives n b.first.row))

ordered-suc : {d e f g : Plan} {x y y2 z : List ℕ} {n : ℕ} → BothHalves d e f x y y2 n → merger_made n f y y2 ≡ (g, z)
    → bitonic_made (suc n) d x ≡ (g, z)
unfolding bitonic_made
ordered-suc b merged = rw (b.first_order, b.second_order) merged

pub ordered-all : {d e f g : Plan} {x y y2 : List ℕ} (n : ℕ) (z : List ℕ) → BothHalves d e f x y y2 n → Orders f g y y2 z → Sequence d g x z
ordered-all {d} {e} {f} {g} {x} {y} {y2} n z b orders level row =
    rw (same-level (length x) (suc n) level b.whole.row row) (ordered-suc b (orders n b.first.row))

-- ---- one wire

pub ordered-one : (d : Plan) {x : List ℕ} (y : List ℕ) → length x ≡ 1 → y ≡ x → Sequence d d x y
unfolding bitonic_made
ordered-one d {x} y one e zero row = rw e refl
ordered-one d {x} y one e (suc n) row = absurd (let t = row ∙ pow-succ' 2 n in omega (arith, t))

pub counted-one : {d : Plan} {x : List ℕ} (y : List ℕ) → length x ≡ 1 → y ≡ x → Counted d d x y
unfolding bitonic
counted-one {d} {x} y one e zero row = rw e (record { built = Builds-same d x; row = row; flow = λ h k. refl })
counted-one {d} {x} y one e (suc n) row = absurd (let t = row ∙ pow-succ' 2 n in omega (arith, t))
