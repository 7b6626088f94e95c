-- How deep wires lie: a walk from an entry comes to an exit by as many balancers as the network is deep; and how many
-- atomic steps it takes.
use Rattle.cn_floor.proofs.Common.{◌≡◌, ℕ, zero, suc, ◌+◌, ◌*◌, ◌<◌, ◌≤◌, ◌⊎◌, inl, inr, length, refl, subst, arith, Balancer, End, Exit, IsWellFormed, LeadsOn, Stands, Table, end_of, IsLevel, IsNetwork, Network, levels, ◌%◌, List, [], ◌∷◌, ap, mod_below, Start, View, after_step, output_wire, PassesOn, WalksThrough}

module _ (t : Table) (w : IsWellFormed t) (n : ℕ) (level : ℕ → ℕ) (is : IsLevel t n level) where
  -- no wire lies deeper than those of the exits
  low-by : (fuel u : ℕ) → u < length t.ends → length t.ends ≤ u + fuel → level u ≤ n
  low-by zero u h f = absurd (omega arith)
  low-by (suc fuel) u h f = by (end_of t u) refl (λ y l m. low-by fuel y l m)
    where
      by : (end : End) → end_of t u ≡ end → ((y : ℕ) → y < length t.ends → length t.ends ≤ y + fuel → level y ≤ n) → level u ≤ n
      by (Exit i) e rest = omega (arith, is.exit u i h e)
      by (Balancer b) e rest =
          let there : b < t.balancers = subst (Stands t) e (w.stands u h) in
          let forward : u < t.entries + 2 * b = subst (LeadsOn t u) e (w.forward u h) in
          omega (arith, rest (t.entries + 2 * b + 0) (omega (arith, w.wires)) (omega arith), is.output u b 0 h e (omega arith))

  low : (u : ℕ) → u < length t.ends → level u ≤ n
  low u h = low-by (length t.ends) u h (omega arith)

  -- a wire as deep as the network ends at no balancer
  shallow : (u : ℕ) → u < length t.ends → level u ≡ n → (b : ℕ) → ¬ (end_of t u ≡ Balancer b)
  shallow u h deep b e =
      let there : b < t.balancers = subst (Stands t) e (w.stands u h) in
      omega (arith, low (t.entries + 2 * b + 0) (omega (arith, w.wires)), is.output u b 0 h e (omega arith), deep)

-- a wire lies so deep, by each level that wires may have
abbrev pub LiesAt : Network → ℕ → ℕ → Type 0
LiesAt network depth u = (level : ℕ → ℕ) → IsLevel network.table network.depth level → level u ≡ depth

-- a wire ends at the balancer or the exit with this number
abbrev pub EndsAt : Network → ℕ → ℕ → Type 0
EndsAt network u n = (end_of network.table u ≡ Balancer n) ⊎ (end_of network.table u ≡ Exit n)

module _ (network : Network) (is : IsNetwork network) (u : ℕ) (there : u < length network.table.ends) where
  pub entries-first : u < network.table.entries → LiesAt network 0 u
  entries-first entry level lv = lv.entry u entry

  -- before the last it ends at a balancer, and the last at an exit, whose number was found there
  pub at-balancer : (k n : ℕ) → LiesAt network k u → k < network.depth → EndsAt network u n → end_of network.table u ≡ Balancer n
  at-balancer k n at low (inl e) = e
  at-balancer k n at low (inr e) =
      let (level, lv) = levels network.table is.formed network.depth is.deep in
      absurd (omega (arith, low, at level lv, lv.exit u n there e))

  pub at-exit : (n : ℕ) → LiesAt network network.depth u → EndsAt network u n → end_of network.table u ≡ Exit n
  at-exit n at (inr e) = e
  at-exit n at (inl e) =
      let (level, lv) = levels network.table is.formed network.depth is.deep in
      absurd (shallow network.table is.formed network.depth level lv u there (at level lv) n e)

  pub one-deeper : (k b p : ℕ) → LiesAt network k u → end_of network.table u ≡ Balancer b → p < 2
      → LiesAt network (k + 1) (network.table.entries + 2 * b + p)
  one-deeper k b p at ends few level lv = omega (arith, at level lv, lv.output u b p there ends few)

-- ---- how many atomic steps a walk takes

module _ (start : Start) (formed : IsWellFormed start.network.table) (level : ℕ → ℕ)
    (is : IsLevel start.network.table start.network.depth level) where
  abbrev t : Table
  t = start.network.table

  -- who passes balancers gets one level deeper by each, in one step
  passed-deep : (token client : ℕ) (ns : List ℕ) (wire : ℕ) (v : View) (to : ℕ) (w : View) → wire < length t.ends
      → PassesOn start token client ns wire v to w
      → (to < length t.ends) × (level to ≡ level wire + length ns) × (w.steps ≡ v.steps + length ns)
  unfolding PassesOn
  passed-deep token client [] wire v to w low (here, same) = rw (here, same) (low, omega arith, omega arith)
  passed-deep token client (n ∷ ns) wire v to w low (b, ends, by, rest) =
      let two = mod_below n 2 (omega arith) in
      let there : b < t.balancers = subst (Stands t) ends (formed.stands wire low) in
      let on : output_wire t b (n % 2) < length t.ends = omega (arith, there, two, formed.wires) in
      let (ahead, deep, steps) = passed-deep token client ns (output_wire t b (n % 2)) (after_step token client (Balancer b) n v) to w on
      rest in
      (ahead, omega (arith, deep, is.output wire b (n % 2) low ends two), omega (arith, steps))

pub walked-steps : (start : Start) (client entry exit visit : ℕ) (v w : View) → IsNetwork start.network
    → WalksThrough start client entry exit visit v w → w.steps ≡ v.steps + (start.network.depth + 2)
walked-steps start client entry exit visit v w net walk =
    let t = start.network.table in
    let (level, is) = levels t net.formed start.network.depth net.deep in
    let inside : entry < t.entries = walk.comes.happened.inside in
    let low : entry < length t.ends = omega (arith, inside, net.formed.wires) in
    let (there, deep, steps) = passed-deep start net.formed level is walk.token client walk.numbers entry walk.inside walk.wire walk.before
    low walk.passes in
    omega (
      arith,
      is.entry entry inside,
      deep,
      is.exit walk.wire exit there walk.ends,
      steps,
      ap (λ (x : View). x.steps) walk.came,
      ap (λ (x : View). x.steps) walk.after,
    )
