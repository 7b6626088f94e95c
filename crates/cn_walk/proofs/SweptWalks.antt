-- What a sweep is to a walk.
use Rattle.cn_walk.proofs.Common.{◌≡◌, ℕ, ◌+◌, ◌%◌, ◌<◌, ◌≤◌, List, [], ◌∷◌, ◌++◌, length, sum_by, refl, sym, ap, ◌∙◌, arith, append-nil, sum_by-cons, mod_below, End, Balancer, Exit, IsWellFormed, LeadsOn, Stands, end_of, output_wire, Client, on, tokens_in, Grant, Start, View, LaneValue, after_step, base, Walks, inside_by, Lands, MayGo, goes-there, grants-kept, grants-left, kin-by, rest-may, some-inside}
use Rattle.std.proofs.lemmas.List.Sums.{sum_by-le}
use Rattle.cn_floor.specs.declared.view.Sweep.{Sweep}
use Rattle.cn_floor.specs.Sweeps.{PutsAll, SweepsOn, after_steps, after_sweep, grants_out}
use Rattle.cn_walk.proofs.Walks.{IsHeld, less-went, out-by, steps_left, went-by}

granted-by : (f : ℕ → ℕ) (width less i n : ℕ) (tokens : List (ℕ × ℕ))
    → sum_by (λ g. f g.client) (grants_out width less i n tokens) ≡ sum_by (λ e. f e.1) tokens
unfolding grants_out
granted-by f width less i n [] = refl
granted-by f width less i n (e ∷ rest) = simp (sum_by-cons, granted-by f width less i (n + 1) rest)

module _ (start : Start) (wire : ℕ) (end : End) (formed : IsWellFormed start.network.table) (low : wire < length start.network.table.ends)
    (ends : end_of start.network.table wire ≡ end) (stands : Stands start.network.table end) where
  abbrev May : View → List (ℕ × ℕ) → Type 0
  May = MayGo start wire end formed low ends stands

  -- a token lands on a wire of the lane
  lands : (e : End) → Stands start.network.table e → (n : ℕ) (v : View) (tokens : List (ℕ × ℕ)) → May v tokens
      → Lands n v e
  lands (Balancer b) there n v tokens may =
      let same = ap (λ (s : Start). output_wire s.network.table b (n % 2)) may.of in
      omega (arith, same, there, formed.wires, may.wires, mod_below n 2 (omega arith))
  lands (Exit i) there n v tokens may = tt

  -- nobody is lost or made, and less is left
  pub all-go : (tokens : List (ℕ × ℕ)) (v : View) (n : ℕ) → May v tokens
      → ((f : ℕ → ℕ) → inside_by f (after_steps end n tokens v) + sum_by (out-by f end) tokens ≡ inside_by f v)
      × (steps_left (after_steps end n tokens v) + length tokens ≤ steps_left v)
  unfolding after_steps
  all-go [] v n may = (λ f. omega arith, omega arith)
  all-go ((token, client) ∷ rest) v n may =
      let is = goes-there start wire end formed low ends stands v token client rest may in
      let there = lands end stands n v ((token, client) ∷ rest) may in
      let inside : wire < length v.start.network.table.ends = rw may.of low in
      let on : LeadsOn v.start.network.table wire end = rw (may.of, ← ends) (formed.forward wire low) in
      let out = λ (f : ℕ → ℕ). sum_by-cons (out-by f end) (token, client) rest in
      let (others, fewer) = all-go rest (after_step token client end n v) (n + 1)
      (rest-may start wire end formed low ends stands n v token client rest may) in (
        λ f. omega (arith, went-by token client wire n v is f end there, others f, out f),
        omega (arith, less-went token client wire n v is inside end there on, fewer),
      )

-- a sweep is a part of a walk, and less is left after it
module _ (a b : LaneValue) (wire n : ℕ) (answer : Sweep) (formed : IsWellFormed a.home.start.network.table)
    (is : SweepsOn a b wire n answer) (held : IsHeld a) (some : 0 < length (on a.yard.lists wire)) where
  abbrev v : View
  v = a.view

  abbrev tokens : List (ℕ × ℕ)
  tokens = on v.tokens wire

  inside : wire < length a.home.start.network.table.ends
  inside = omega (arith, some-inside a.yard.lists wire some, held.wires)

  kept : (e : End) → PutsAll a.home.start wire e n a.yard b.yard
      → tokens_in a.yard.lists + a.yard.spare ≤ tokens_in b.yard.lists + b.yard.spare
  kept e puts = grind arith

  granted : (e : End) → b.view ≡ after_sweep wire e n v
      → ((f : ℕ → ℕ) → inside_by f b.view + sum_by (out-by f e) tokens ≡ inside_by f v)
      → (more : List Grant) × (b.view.grants ≡ v.grants ++ more)
      × ((f : ℕ → ℕ) → sum_by (λ g. f g.client) more + inside_by f b.view
      ≡ inside_by f v + sum_by (λ (c : Client). f c.id) [])
  granted (Balancer c) view weighed = (
    [],
    rw view (grants-kept c n tokens v ∙ sym (append-nil v.grants)),
    λ f. omega (arith, weighed f, sum_by-le (λ _. 0) 0 tokens (λ k d l. omega arith)),
  )
  granted (Exit i) view weighed =
      let width : ℕ = v.start.network.table.width in (
        grants_out width (base v.start) i n tokens,
        rw view (grants-left i n tokens v),
        λ f. omega (arith, weighed f, granted-by f width (base v.start) i n tokens),
      )

  pub sweeps : Walks a b [] × (steps_left b.view < steps_left a.view)
  sweeps =
      let e : End = end_of a.home.start.network.table wire in
      let like = kin-by e n tokens v in
      let (weighed, less) = all-go a.home.start wire e formed inside refl (formed.stands wire inside) tokens v n
      (record {
        on_wire = refl;
        once = λ k. rw held.tokens at (held.once k);
        wires = ap length (sym held.tokens) ∙ held.wires;
        of = held.start;
      }) in (
        record {
          home = is.home;
          quota = omega (arith, ap (λ (x : View). x.quota) is.view, like.quota);
          room = omega (arith, is.room);
          records = kept e is.yard;
          entries = rw (is.view, like.entries) (sym (append-nil v.entries));
          came = rw (is.view, like.came) (sym (append-nil v.came));
          seen = rw is.view like.seen;
          grants = granted e is.view (λ f. rw is.view (weighed f));
        },
        omega (arith, ap steps_left is.view, less, rw held.tokens at some),
      )

  -- where none stands below the wire, none comes to stand there
  pub clear-below : ((u : ℕ) → u < wire → on a.yard.lists u ≡ []) → (u : ℕ) → u < wire → on b.yard.lists u ≡ []
  clear-below clear u low = by (end_of a.home.start.network.table wire) (formed.forward wire inside) is.yard
    where
      by : (e : End) → LeadsOn a.home.start.network.table wire e → PutsAll a.home.start wire e n a.yard b.yard
          → on b.yard.lists u ≡ []
      by (Balancer c) forward dealt =
          dealt.others u (λ same. omega arith) (λ same. omega arith) (λ same. omega arith) ∙ clear u low
      by (Exit i) forward cleared = cleared.others u (λ same. omega arith) ∙ clear u low
