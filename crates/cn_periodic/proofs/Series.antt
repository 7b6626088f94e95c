-- Blocks in series, and the periodic network of them.
use Rattle.cn_periodic.proofs.Common.{◌≡◌, ℕ, zero, suc, ◌+◌, ◌*◌, ◌<◌, ◌≤◌, ◌-◌, List, map, refl, sym, ap, ◌∙◌, arith, mul-le-mul_right, IsRow, block, blocks, periodic, MOST_BALANCERS, Plan, AllLoose, Builds, IsFlow, Builds-same, Builds-sized, Builds-then, block_made, series_made, BuildsPeriodic, periodic_balancers, block_balancers, periodic_depth}
use Rattle.cn_periodic.proofs.BlockParts.{Gives, HasRoom, Orders, length-outs}

-- n blocks over a row of wires of a level, x, each over the outputs of the one before; the last gives y
pub record Series (old new : Plan) (x y : List ℕ) (level n : ℕ) : Type 0 where
  pub built : Builds old new x y (n * level) (n * block_balancers level)
  pub row : IsRow level y
  pub flow : (f : ℕ → ℕ) → IsFlow new f → map f y ≡ blocks n level (map f x)
  -- and the others are yet to be made
  pub rest : series_made (level - n) level new y ≡ series_made level level old x

pub series-none : {d : Plan} {x : List ℕ} (y : List ℕ) (level : ℕ) → y ≡ x → IsRow level x → Series d d x y level 0
unfolding blocks
series-none {d} {x} y level e row = rw e
    (record {
      built = Builds-sized (0 * level) (0 * block_balancers level) (omega arith) (omega arith) (Builds-same d x);
      row = row;
      flow = λ f k. refl;
      rest = let all : level - 0 ≡ level = omega arith in rw all refl;
    })

-- the last of them
blocks-last : (n level : ℕ) (x : List ℕ) → block level (blocks n level x) ≡ blocks (suc n) level x
unfolding blocks
blocks-last zero level x = refl
blocks-last (suc n) level x = blocks-last n level (block level x)

-- what one more block is asked
pub next-asked : {d e : Plan} {x y : List ℕ} {level n : ℕ} → n < level → d.balancers + periodic_balancers level ≤ MOST_BALANCERS
    → AllLoose d x → Series d e x y level n
    → HasRoom e y × AllLoose e y
next-asked {d} {e} {x} {y} {level} {n} more room there s =
    let made = s.built.balancers in
    let all : periodic_balancers level ≡ level * block_balancers level = omega arith in
    let most : suc n * block_balancers level ≤ level * block_balancers level = mul-le-mul_right (block_balancers level) (omega arith) in
    let next : suc n * block_balancers level ≡ n * block_balancers level + block_balancers level = omega arith in
    ((level, omega arith, s.row, omega arith), λ w. let t = there w in let j = s.built.loosed w in omega arith)

-- the next of them
series-made-suc : (n level : ℕ) (d : Plan) (x : List ℕ) {e : Plan} {y : List ℕ} → block_made level d x ≡ (e, y)
    → series_made (suc n) level d x ≡ series_made n level e y
unfolding series_made
series-made-suc n level d x first = rw first refl

pub series-more : {d e f : Plan} {x y : List ℕ} {level n : ℕ} (z : List ℕ) → n < level → Series d e x y level n → Gives e f y z
    → Orders e f y z → Series d f x z level (n + 1)
series-more {d} {e} {f} {x} {y} {level} {n} z more s gives orders =
    let b = gives level s.row in
    record {
      built = Builds-sized ((n + 1) * level) ((n + 1) * block_balancers level) (omega arith) (omega arith) (Builds-then s.built b.built);
      row = length-outs b;
      flow = λ h k.
          let last : suc n ≡ n + 1 = omega arith in
          b.flow h k ∙ ap (block level) (s.flow h (b.built.flow h k)) ∙ blocks-last n level (map h x)
          ∙ ap (λ m. blocks m level (map h x)) last;
      rest =
          let left : level - n ≡ suc (level - (n + 1)) = omega arith in
          sym (series-made-suc (level - (n + 1)) level e y (orders level s.row)) ∙ (rw left at s.rest);
    }

-- as many blocks as the level
series-made-zero : (level : ℕ) (d : Plan) (x : List ℕ) → series_made 0 level d x ≡ (d, x)
unfolding series_made
series-made-zero level d x = refl

pub series-ordered : {d e : Plan} {x y : List ℕ} {level n : ℕ} → n ≡ level → Series d e x y level n → series_made level level d x ≡ (e, y)
series-ordered {d} {e} {x} {y} {level} {n} same s =
    let none : level - n ≡ 0 = omega arith in
    sym (rw none at s.rest) ∙ series-made-zero level e y

pub series-all : {d e : Plan} {x y : List ℕ} {level n : ℕ} → n ≡ level → Series d e x y level n → BuildsPeriodic d e x y level
unfolding periodic
series-all {d} {e} {x} {y} {level} {n} same s =
    let whole = rw same at s in
    record {
      built = Builds-sized (periodic_depth level) (periodic_balancers level) (omega arith) (omega arith) whole.built;
      row = whole.row;
      flow = whole.flow;
    }
