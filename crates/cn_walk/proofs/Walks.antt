-- Walks one after the other, and what one step is to a walk.
use Rattle.cn_walk.proofs.Common.{◌≡◌, ℕ, ◌+◌, ◌-◌, ◌*◌, ◌%◌, ◌<◌, ◌≤◌, cond, eqb, List, [], ◌∷◌, ◌++◌, length, get_or, sum_by, take, Some, sym, refl, ap, ◌∙◌, arith, append-nil, append_assoc, map-append, take_more, sum_by-append, sum_below, when, sum-below-one, sum-below-plus, sum-below-same, sum-below-shift, sum-below-zero, End, Balancer, Exit, IsWellFormed, LeadsOn, length-append, kin-by, output_wire, Client, IsThere, Yard, last_on, on, standing, times_in, tokens_in, Grant, View, LaneValue, LetsIn, IsNamed, after_enter, after_step, on_in, WalksAll, Walks, inside_by, Lands, at-none, at-one, inside-yard, none-on, ones, weigh-come, weigh-leave, weigh-pass, weighed-went}
use Rattle.cn_floor.specs.Sweeps.{after_steps}
use Rattle.std.proofs.lemmas.List.FromFn.{length-map-range_with_len}

-- a bound on the steps that are left to those inside: each step goes to a greater wire, or out
abbrev pub steps_left : View → ℕ
steps_left v = sum_below (length v.tokens) (λ u. (length v.tokens - u) * on_in u v)

-- what those weigh who are on a wire, by their clients
abbrev weight : (ℕ → ℕ) → View → ℕ → ℕ
weight f v u = sum_by (λ (e : ℕ × ℕ). f e.1) (on v.tokens u)

-- nothing happens
pub stays : (a : LaneValue) → Walks a a []
stays a = record {
  home = refl;
  quota = omega arith;
  room = omega arith;
  records = omega arith;
  entries = sym (append-nil a.view.entries);
  came = sym (append-nil a.view.came);
  seen = refl;
  grants = ([], sym (append-nil a.view.grants), λ f. omega arith);
}

-- one walk and then another
pub walks-on : (a b c : LaneValue) (xs ys : List Client) → Walks a b xs → Walks b c ys → Walks a c (xs ++ ys)
walks-on a b c xs ys p q =
    let (more, grants, even) = p.grants in
    let (later, grants2, even2) = q.grants in
    record {
      home = q.home ∙ p.home;
      quota = omega (arith, p.quota, q.quota, length-append xs ys);
      room = omega (arith, p.room, q.room, length-append xs ys);
      records = omega (arith, p.records, q.records);
      entries = rw (q.entries, p.entries, map-append, append_assoc);
      came = rw (q.came, p.came, append_assoc);
      seen = q.seen ∙ p.seen;
      grants = (
        more ++ later,
        rw (grants2, grants, append_assoc),
        λ f. omega (
          arith,
          even f,
          even2 f,
          sum_by-append (λ (g : Grant). f g.client) more later,
          sum_by-append (λ (k : Client). f k.id) xs ys,
        ),
      );
    }

-- what the laws of a lane say of it
pub record IsHeld (a : LaneValue) : Type 0 where
  pub start : a.view.start ≡ a.home.start
  pub tokens : a.yard.lists ≡ a.view.tokens
  pub wires : length a.yard.lists ≡ length a.home.start.network.table.ends
  pub once : (token : ℕ) → times_in a.yard.lists token ≤ 1
  pub there : (token client wire : ℕ) → standing a.yard.lists token ≡ Some (wire, client) → IsThere a.yard.lists token client wire

-- ---- a client comes in

came-by : (f : ℕ → ℕ) (token client entry : ℕ) (v : View) → entry < length v.tokens
    → inside_by f (after_enter token client entry v) ≡ inside_by f v + f client
came-by f token client entry v inside =
    let m : ℕ = length v.tokens in
    let w : View = after_enter token client entry v in
    let wires : length w.tokens ≡ m = length-map-range_with_len (λ u. on v.tokens u ++ last_on token client entry u) 0 m in
    let same = sum-below-same m (weight f w) (λ u. weight f v u + when (eqb entry u) (f client))
    (λ u l. weigh-come v.tokens token client entry inside u (λ e. f e.1)) in
    let plus = sum-below-plus m (weight f v) (λ u. when (eqb entry u) (f client)) in
    ap (λ (k : ℕ). sum_below k (weight f w)) wires ∙ same ∙ omega (arith, plus, sum-below-one m entry (f client) inside)

pub comes : (a b : LaneValue) (token client entry : ℕ) → IsWellFormed a.home.start.network.table → IsHeld a → 0 < a.view.quota
    → entry < a.home.start.network.table.entries → LetsIn a b token client entry
    → Walks a b (record { id = client; entry = entry } ∷ [])
comes a b token client entry formed held some low is =
    let wire : entry < length a.view.tokens = omega (arith, low, formed.wires, held.wires, ap length held.tokens) in
    record {
      home = is.home;
      quota = omega (arith, some, ap (λ (v : View). v.quota) is.view);
      room = omega (arith, is.room);
      records = omega (arith, is.yard.tokens, is.yard.spare);
      entries = ap (λ (v : View). v.entries) is.view;
      came = ap (λ (v : View). v.came) is.view;
      seen = ap (λ (v : View). v.seen) is.view;
      grants = (
        [],
        ap (λ (v : View). v.grants) is.view ∙ sym (append-nil a.view.grants),
        λ f. omega (arith, ap (λ (v : View). inside_by f v) is.view, came-by f token client entry a.view wire),
      );
    }

-- a client is named, with nobody inside before and after
pub names-one : (a b : LaneValue) (client entry name : ℕ) → IsNamed a b client entry name → ((f : ℕ → ℕ) → inside_by f a.view ≡ 0)
    → ((f : ℕ → ℕ) → inside_by f b.view ≡ 0) → Walks a b (record { id = client; entry = entry } ∷ [])
names-one a b client entry name is before after = record {
  home = is.home;
  quota = omega (arith, is.quota);
  room = omega (arith, is.room);
  records = omega (arith, ap (λ (y : Yard). tokens_in y.lists) is.yard, ap (λ (y : Yard). y.spare) is.yard);
  entries = is.entries;
  came = is.came;
  seen = is.seen;
  grants = (_, is.grants, λ f. omega (arith, before f, after f));
}

-- the next client of a list walks
pub comes-next : (a b c : LaneValue) (i : ℕ) (d : Client) (xs : List Client) → i < length xs → Walks a b (take i xs)
    → Walks b c (record { id = (get_or xs i d).id; entry = (get_or xs i d).entry } ∷ []) → Walks a c (take (i + 1) xs)
comes-next a b c i d xs l p is =
    rw (take_more xs i d l) (walks-on a b c (take i xs) (get_or xs i d ∷ []) p is)

-- ---- a token goes on

-- what a client weighs that leaves by an end
abbrev pub out-by : (ℕ → ℕ) → End → ℕ × ℕ → ℕ
out-by f (Balancer b) = λ e. 0
out-by f (Exit i) = λ e. f e.1

module _ (token client wire n : ℕ) (v : View) (is : IsThere v.tokens token client wire) where
  long : (end : End) → length (after_step token client end n v).tokens ≡ length v.tokens
  unfolding after_steps
  long end = (kin-by end n ((token, client) ∷ []) v).wires

  shifted : (f : ℕ → ℕ) (end : End) (onto : ℕ → ℕ)
      → ((u : ℕ) → weight f (after_step token client end n v) u + when (eqb wire u) (f client) ≡ weight f v u + onto u)
      → inside_by f (after_step token client end n v) + f client ≡ inside_by f v + sum_below (length v.tokens) onto
  shifted f end onto each =
      let m : ℕ = length v.tokens in
      let w : View = after_step token client end n v in
      let moved = sum-below-shift m (weight f w) (λ u. when (eqb wire u) (f client)) (weight f v) onto
      (λ u l. each u) in
      let one = sum-below-one m wire (f client) is.inside in
      omega (arith, ap (λ (k : ℕ). sum_below k (weight f w)) (long end))

  -- nobody is lost or made
  pub went-by : (f : ℕ → ℕ) (end : End) → Lands n v end
      → inside_by f (after_step token client end n v) + out-by f end (token, client) ≡ inside_by f v
  went-by f (Balancer b) lands =
      let to : ℕ = output_wire v.start.network.table b (n % 2) in
      let moved = shifted f (Balancer b) (λ u. when (eqb to u) (f client))
      (λ u. weigh-pass v.tokens token client wire to is lands u (λ e. f e.1)) in
      omega (arith, moved, sum-below-one (length v.tokens) to (f client) lands)
  went-by f (Exit i) lands =
      let moved = shifted f (Exit i) (λ u. 0)
      (λ u. omega (arith, weigh-leave v.tokens token client wire is u (λ e. f e.1))) in
      omega (arith, moved, sum-below-zero (length v.tokens) (λ _. 0) (λ _. refl))

  -- how much less is left
  abbrev g : ℕ → ℕ
  g u = length v.tokens - u

  left : (end : End) → sum_below (length (after_step token client end n v).tokens)
      (λ u. g u * on_in u (after_step token client end n v))
      ≡ steps_left (after_step token client end n v)
  left end =
      let w : View = after_step token client end n v in
      ap (λ (k : ℕ). sum_below (length w.tokens) (λ u. (k - u) * on_in u w)) (sym (long end))

  pub less-went : wire < length v.start.network.table.ends → (end : End) → Lands n v end
      → LeadsOn v.start.network.table wire end
      → steps_left (after_step token client end n v) < steps_left v
  less-went there (Balancer b) lands on =
      let went = weighed-went v.start.network token client wire n v is there refl g (Balancer b) lands in
      let one = at-one (length v.tokens) (output_wire v.start.network.table b (n % 2)) g lands in
      omega (arith, left (Balancer b))
  less-went there (Exit i) lands on =
      let went = weighed-went v.start.network token client wire n v is there refl g (Exit i) tt in
      omega (arith, left (Exit i), went, at-none (length v.tokens) g, is.inside)

-- ---- whole walks

-- where no token stands, nobody weighs anything
pub none_by : (a : LaneValue) → IsHeld a → tokens_in a.yard.lists ≡ 0 → (f : ℕ → ℕ) → inside_by f a.view ≡ 0
none_by a held none f =
    sum-below-zero (length a.view.tokens) (weight f a.view)
    (λ u. empty-by (on a.view.tokens u) (none-on a.view (inside-yard a.yard a.view held.tokens ∙ none) u))
  where
    empty-by : (es : List (ℕ × ℕ)) → length es ≡ 0 → sum_by (λ (e : ℕ × ℕ). f e.1) es ≡ 0
    empty-by [] h = refl
    empty-by (e ∷ es) h = absurd (omega arith)

pub walked : (a b : LaneValue) (xs : List Client) → Walks a b xs → tokens_in b.yard.lists ≡ 0 → ((f : ℕ → ℕ) → inside_by f a.view ≡ 0)
    → ((f : ℕ → ℕ) → inside_by f b.view ≡ 0)
    → WalksAll a b xs
walked a b xs w out before after =
    let (more, grants, even) = w.grants in
    let is : ℕ → ℕ → ℕ = λ id d. cond (eqb d id) 1 0 in
    record {
      home = w.home;
      out = out;
      quota = w.quota;
      room = w.room;
      spare = omega (arith, w.records, out);
      entries = w.entries;
      came = w.came;
      seen = w.seen;
      grants = (
        more,
        grants,
        record {
          as_many = omega (arith, even (λ _. 1), before (λ _. 1), after (λ _. 1), ones more, ones xs);
          as_often = λ id. omega (arith, even (is id), before (is id), after (is id));
        },
      );
    }
