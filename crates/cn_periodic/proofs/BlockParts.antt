-- The parts of a block, and the block of its parts.
use Rattle.cn_periodic.proofs.Common.{◌≡◌, ℕ, zero, suc, ◌+◌, ◌-◌, ◌*◌, ◌/◌, ◌^◌, ◌<◌, ◌≤◌, List, ◌++◌, length, map, refl, sym, ap, ◌∙◌, subst, arith, range_with_len, pow-suc, pow-succ', IsRow, a_cochain, b_cochain, block, layer, MOST_BALANCERS, a_row, b-row, half_pow, map-a_cochain, map-b_cochain, same-level, shorter, times-append, times-cochains, Plan, AllLoose, Builds, IsFlow, next_wire, Builds-beside, Builds-like, Builds-loose, Builds-sized, Builds-then, block_made, BuildsBlock, block_balancers}
use Rattle.std.proofs.lemmas.List.FromFn.{length-range_with_len}
use Rattle.cn_spec.specs.Sums.{times}
use Rattle.cn_wiring.specs.Made.{layer_made, with_layer}

-- a plan has room for the block over x
abbrev pub HasRoom : Plan → List ℕ → Type 0
HasRoom d x = (level : ℕ) × (1 ≤ level) × IsRow level x × (d.balancers + block_balancers level ≤ MOST_BALANCERS)

-- what a block gives
abbrev pub Gives : Plan → Plan → List ℕ → List ℕ → Type 0
Gives old new x y = (level : ℕ) → IsRow level x → BuildsBlock old new x y level

-- in which order it makes them
abbrev pub Orders : Plan → Plan → List ℕ → List ℕ → Type 0
Orders old new x y = (level : ℕ) → IsRow level x → block_made level old x ≡ (new, y)

-- ---- sizes

block_size : (n : ℕ) → block_balancers (suc n) ≡ 2 ^ n * (n + 1)
block_size n = rw (half_pow n) (omega arith)

-- two blocks and a layer
block-more : (n : ℕ) → 2 ^ suc n * (suc n + 1) ≡ (2 ^ n * (n + 1) + 2 ^ n * (n + 1)) + 2 ^ suc n
block-more n = rw (pow-succ' 2 n) (omega arith)

-- all layers but the last
block-less : (n : ℕ) → 2 ^ suc (suc n) / 2 * (suc (suc n) - 1) ≡ 2 ^ n * (n + 1) + 2 ^ n * (n + 1)
block-less n = let e : suc (suc n) - 1 ≡ n + 1 = omega arith in rw (half_pow (suc n), e, pow-succ' 2 n) (omega arith)

-- ---- the cochains

-- a row of level n + 1 over which a plan can build
record Splittable (d : Plan) (x : List ℕ) (n : ℕ) : Type 0 where
  row : IsRow (suc n) x
  room : d.balancers + 2 ^ n * (n + 1) ≤ MOST_BALANCERS
  there : AllLoose d (a_cochain x ++ b_cochain x)

-- what the inner blocks take is what goes in
times-inner : (w n : ℕ) (x : List ℕ) → IsRow (suc n) x → times w x ≡ times w (a_cochain x ++ b_cochain x)
times-inner w n x row = omega (arith, times-append w (a_cochain x) (b_cochain x), times-cochains w (2 ^ n) x (row ∙ pow-suc 2 n))

splittable : (d : Plan) (x : List ℕ) → HasRoom d x → AllLoose d x → (n : ℕ) × Splittable d x n
splittable d x room there = go room.0 room.1 room.2 room.3
  where
    go : (level : ℕ) → 1 ≤ level → IsRow level x → d.balancers + block_balancers level ≤ MOST_BALANCERS → (n : ℕ) × Splittable d x n
    go zero some row r = absurd (omega arith)
    go (suc n) some row r = (
      n,
      record {
        row = row;
        room = rw (block_size n) at r;
        there = λ w. let t = there w in
            let e = times-inner w n x row in omega arith;
      },
    )

-- a row of more than two wires has level n + 2
splittable-many : (d : Plan) (x : List ℕ) → (length x ≡ 2 → ⊥) → HasRoom d x → AllLoose d x → (n : ℕ) × Splittable d x (suc n)
splittable-many d x many room there = let (m, s) = splittable d x room there in go m s
  where
    go : (m : ℕ) → Splittable d x m → (n : ℕ) × Splittable d x (suc n)
    go zero s = absurd (many s.row)
    go (suc n) s = (n, s)

-- what the first inner block is asked
pub first-asked : (d : Plan) (x a : List ℕ) → a ≡ a_cochain x → (length x ≡ 2 → ⊥) → HasRoom d x → AllLoose d x
    → (length a < length x) × (HasRoom d a × AllLoose d a)
first-asked d x a e many room there =
    let (n, s) = splittable-many d x many room there in
    let row = a_row (suc n) x s.row in
    let r = s.room in
    let fits : d.balancers + block_balancers (suc n) ≤ MOST_BALANCERS = omega (arith, r, block_size n, block-more n) in
    let loose : AllLoose d (a_cochain x) = λ w. let t = s.there w in omega (arith, times-append w (a_cochain x) (b_cochain x)) in
    rw e (shorter (suc n) x (a_cochain x) s.row row, ((suc n, omega arith, row, fits), loose))

-- and the second
pub second-asked : (d e : Plan) (x a b z : List ℕ) → a ≡ a_cochain x → b ≡ b_cochain x → (length x ≡ 2 → ⊥) → HasRoom d x → AllLoose d x
    → Gives d e a z
    → (length b < length x) × (HasRoom e b × AllLoose e b)
second-asked d e x a b z p q many room there first =
    let (n, s) = splittable-many d x many room there in
    let row = b-row (suc n) x s.row in
    let first' : Gives d e (a_cochain x) z = rw p at first in
    let built = (first' (suc n) (a_row (suc n) x s.row)).built in
    let r = s.room in
    let made = built.balancers in
    let fits : e.balancers + block_balancers (suc n) ≤ MOST_BALANCERS = omega (arith, r, made, block_size n, block-more n) in
    rw q (shorter (suc n) x (b_cochain x) s.row row, ((suc n, omega arith, row, fits), Builds-loose (b_cochain x) s.there built))

-- ---- the two inner blocks

pub record InnerBlocks (d e f : Plan) (x z z2 : List ℕ) (n : ℕ) : Type 0 where
  whole : Splittable d x (suc n)
  first : BuildsBlock d e (a_cochain x) z (suc n)
  second : BuildsBlock e f (b_cochain x) z2 (suc n)
  first_order : block_made (suc n) d (a_cochain x) ≡ (e, z)
  second_order : block_made (suc n) e (b_cochain x) ≡ (f, z2)

pub inner-blocks : (d e f : Plan) (x a b z z2 : List ℕ) → a ≡ a_cochain x → b ≡ b_cochain x → (length x ≡ 2 → ⊥) → HasRoom d x
    → AllLoose d x
    → Gives d e a z → Orders d e a z → Gives e f b z2 → Orders e f b z2
    → (n : ℕ) × InnerBlocks d e f x z z2 n
inner-blocks d e f x a b z z2 p q many room there first order second order2 =
    let (n, s) = splittable-many d x many room there in
    let first' : Gives d e (a_cochain x) z = rw p at first in
    let second' : Gives e f (b_cochain x) z2 = rw q at second in
    let order' : Orders d e (a_cochain x) z = rw p at order in
    let order2' : Orders e f (b_cochain x) z2 = rw q at order2 in
    let row = a_row (suc n) x s.row in
    let row2 = b-row (suc n) x s.row in (
      n,
      record {
        whole = s;
        first = first' (suc n) row;
        second = second' (suc n) row2;
        first_order = order' (suc n) row;
        second_order = order2' (suc n) row2;
      },
    )

pub length-outs : {old new : Plan} {x y : List ℕ} {level : ℕ} → BuildsBlock old new x y level → IsRow level y
length-outs b = ap length b.wires ∙ length-range_with_len _ _

-- what the last layer is asked
pub last-asked : {d e f : Plan} {x z z2 : List ℕ} {n : ℕ} → InnerBlocks d e f x z z2 n
    → (length z ≡ length z2) × (f.balancers + length z ≤ MOST_BALANCERS) × AllLoose f (z ++ z2)
last-asked {d} {e} {f} {x} {z} {z2} {n} s =
    let l = length-outs s.first in
    let r = s.whole.room in
    let made = s.first.built.balancers in
    let made2 = s.second.built.balancers in
    let inner = Builds-beside s.whole.there s.first.built s.second.built in (
      l ∙ sym (length-outs s.second),
      omega (arith, l, r, made, made2, block_size n, block-more n),
      λ w. let t = s.whole.there w in
          let j = inner.loosed w in omega arith,
    )

-- the last layer over the two inner blocks
blocks-all : {d e f g : Plan} {x z z2 y : List ℕ} {n : ℕ} → InnerBlocks d e f x z z2 n
    → y ≡ range_with_len (f.entries + 2 * f.balancers) (2 * length z)
    → Builds f g (z ++ z2) y 1 (length z)
    → ((h : ℕ → ℕ) → IsFlow g h → map h y ≡ layer (map h z) (map h z2))
    → BuildsBlock d g x y (suc (suc n))
unfolding block
blocks-all {d} {e} {f} {g} {x} {z} {z2} {y} {n} s wires last flow =
    let l = length-outs s.first in
    let inner = Builds-like x (λ w. times-inner w (suc n) x s.whole.row) (Builds-beside s.whole.there s.first.built s.second.built) in
    record {
      built = Builds-sized (suc (suc n)) (block_balancers (suc (suc n))) (omega arith)
          (block_size (suc n) ∙ omega (arith, l, block_size n, block-more n)) (Builds-then inner last);
      wires =
          let same = inner.entries in
          let made = inner.balancers in
          let start : f.entries + 2 * f.balancers ≡ d.entries + 2 * (d.balancers + 2 ^ suc (suc n) / 2 * (suc (suc n) - 1)) =
          omega (arith, same, made, block_size n, block-less n) in
          let many : 2 * length z ≡ 2 ^ suc (suc n) = omega (arith, l, pow-succ' 2 (suc n)) in
          wires ∙ rw (start, many);
      flow = λ h k.
          let j = last.flow h k in
          flow h k ∙ rw (s.first.flow h (s.second.built.flow h j), s.second.flow h j, map-a_cochain h x, map-b_cochain h x);
    }

pub gives_all : {d e f g : Plan} {x z z2 : List ℕ} (n : ℕ) (y : List ℕ) → InnerBlocks d e f x z z2 n
    → y ≡ range_with_len (f.entries + 2 * f.balancers) (2 * length z)
    → Builds f g (z ++ z2) y 1 (length z)
    → ((h : ℕ → ℕ) → IsFlow g h → map h y ≡ layer (map h z) (map h z2))
    → Gives d g x y
gives_all {d} {e} {f} {g} {x} {z} {z2} n y s wires last flow level row =
    subst (λ l. BuildsBlock d g x y l) (sym (same-level (length x) (suc (suc n)) level s.whole.row row)) (blocks-all s wires last flow)

block_made-suc : (level : ℕ) (d : Plan) (x : List ℕ) {e f : Plan} {z z2 : List ℕ} → block_made level d (a_cochain x) ≡ (e, z)
    → block_made level e (b_cochain x) ≡ (f, z2)
    → block_made (suc level) d x ≡ layer_made f z z2
unfolding block_made
block_made-suc level d x first second = rw (first, second) refl

block_made-zero : (d : Plan) (x : List ℕ) → block_made 0 d x ≡ (d, x)
unfolding block_made
block_made-zero d x = refl

ordered-all : {d e f g : Plan} {x z z2 y : List ℕ} {n : ℕ} → InnerBlocks d e f x z z2 n
    → y ≡ range_with_len (next_wire f) (2 * length z) → g ≡ with_layer f z z2 → block_made (suc (suc n)) d x ≡ (g, y)
ordered-all {d} {e} {f} {g} {x} {z} {z2} {y} {n} s wires plan =
    block_made-suc (suc n) d x s.first_order s.second_order ∙ rw (wires, plan) refl

pub orders-all : {d e f g : Plan} {x z z2 : List ℕ} (n : ℕ) (y : List ℕ) → InnerBlocks d e f x z z2 n
    → y ≡ range_with_len (next_wire f) (2 * length z) → g ≡ with_layer f z z2 → Orders d g x y
orders-all {d} {e} {f} {g} {x} {z} {z2} n y s wires plan level row =
    rw (same-level (length x) (suc (suc n)) level s.whole.row row) (ordered-all s wires plan)

-- ---- two wires

-- what their balancer is asked
pub two-asked : (d : Plan) (x a b : List ℕ) → a ≡ a_cochain x → b ≡ b_cochain x → HasRoom d x → AllLoose d x
    → (length a ≡ length b) × (d.balancers + length a ≤ MOST_BALANCERS) × AllLoose d (a ++ b)
two-asked d x a b p q room there =
    let (n, s) = splittable d x room there in
    let row = a_row n x s.row in
    let row2 = b-row n x s.row in
    let r = s.room in
    rw (p, q) (row ∙ sym row2, omega (arith, r, row), s.there)

gives-two : {d g : Plan} {x y : List ℕ} → IsRow 1 x
    → y ≡ range_with_len (d.entries + 2 * d.balancers) (2 * length (a_cochain x))
    → Builds d g (a_cochain x ++ b_cochain x) y 1 (length (a_cochain x))
    → ((h : ℕ → ℕ) → IsFlow g h → map h y ≡ layer (map h (a_cochain x)) (map h (b_cochain x)))
    → BuildsBlock d g x y 1
unfolding block
gives-two {d} {g} {x} {y} two wires last flow =
    let one : length (a_cochain x) ≡ 1 = a_row 0 x two in
    record {
      built = Builds-sized 1 1 (omega arith) (sym one) (Builds-like x (λ w. times-inner w 0 x two) last);
      wires = let start : d.entries + 2 * d.balancers ≡ d.entries + 2 * (d.balancers + 0) = omega arith in wires ∙ rw (start, one);
      flow = λ h k. flow h k ∙ rw (map-a_cochain h x, map-b_cochain h x);
    }

pub gives_one : {d g : Plan} {x a b : List ℕ} (y : List ℕ) → a ≡ a_cochain x → b ≡ b_cochain x → length x ≡ 2
    → y ≡ range_with_len (d.entries + 2 * d.balancers) (2 * length a)
    → Builds d g (a ++ b) y 1 (length a)
    → ((h : ℕ → ℕ) → IsFlow g h → map h y ≡ layer (map h a) (map h b))
    → Gives d g x y
gives_one {d} {g} {x} {a} {b} y p q two wires last flow level row =
    let first = rw p at wires in
    let made = rw (p, q) at last in
    let flows = rw (p, q) at flow in
    subst (λ l. BuildsBlock d g x y l) (sym (same-level (length x) 1 level two row)) (gives-two two first made flows)

pub orders-one : (d : Plan) (x : List ℕ) {g : Plan} {a b : List ℕ} (y : List ℕ) → a ≡ a_cochain x → b ≡ b_cochain x → length x ≡ 2
    → y ≡ range_with_len (next_wire d) (2 * length a) → g ≡ with_layer d a b → Orders d g x y
orders-one d x {g} {a} {b} y p q two wires plan level row =
    let made = block_made-suc 0 d x (block_made-zero d (a_cochain x)) (block_made-zero d (b_cochain x)) in
    let wires' = rw p at wires in
    let plan' = rw (p, q) at plan in
    rw (same-level (length x) 1 level two row) (made ∙ rw (wires', plan') refl)
