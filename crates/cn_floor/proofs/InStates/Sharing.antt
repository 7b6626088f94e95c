-- The rule is kept where a view is cut in two, and where two become one.
use Rattle.cn_floor.proofs.Common.{◌≡◌, ℕ, ◌+◌, ◌*◌, ◌<◌, ◌≤◌, List, [], ◌∷◌, ◌++◌, length, max, set, sum_by, All, Grant, HaveDistinctNames, cond, eqb, map, times, times-map, sym, refl, ap, ◌∙◌, append-nil, arith, Allows, HoldsAt, IsAccounted, IsFresh, Joins, Lists, Looks, Me, Network, Splits, Start, StoodInState, IsAnswer, View, after_join, after_look, after_split, base, both_of, clients_in, get_elem?, get_or-append-add, get_or_append_left, get_or_past, keeps, length-append, length-map-range_with_len, levels_in, load_bound, nil_from_length, nobody, on, on_in, set-get_or, set_else, some, split_off, subst, sum-below-plus, sum-below-same, sum_below, sum_by-append, sum_by_push, sum-below-zero, tokens_in, All-append}
use Rattle.cn_floor.specs.Views.{no_start}
use Rattle.cn_floor.proofs.Lists.{made-on}
use Rattle.cn_floor.proofs.InStates.Accounts.{levels-one, no-levels}
use Rattle.cn_floor.proofs.InStates.Bounds.{all-came}
use Rattle.cn_floor.proofs.InStates.Fresh.{fresh-idle}
use Rattle.cn_floor.proofs.InStates.Kept.{Measure, Wire, each-joined, joined, kept-recounted, kept_alike, weigh, weight}
use Rattle.cn_floor.proofs.InStates.Names.{names-once}
use Rattle.cn_floor.proofs.InStates.Openings.{accounted-new, none-new, on-new}
use Rattle.cn_floor.proofs.InStates.Totals.{each-set, each-snoc, get-here, part-le, total-set}

-- a view is what two others are together
pub record IsSum (m : ℕ) (v w both : View) : Type 0 where
  pub each : (k : Measure) → weight m k both ≡ weight m k v + weight m k w
  pub quota : both.quota ≡ v.quota + w.quota
  pub many : length both.entries ≡ length v.entries + length w.entries
  pub grants : both.grants ≡ v.grants ++ w.grants
  pub loads : both.loads ≡ []

module _ (v w : View) (tokens : Lists)
    (weighed : (f : ℕ × ℕ → ℕ) (u : ℕ) → sum_by f (on tokens u) ≡ sum_by f (on v.tokens u) + sum_by f (on w.tokens u)) where
  sum-joined : (m : ℕ) → v.loads ≡ [] → IsSum m v w (joined v w tokens weighed)
  sum-joined m idle = record {
    each = each-joined v w tokens weighed m;
    quota = refl;
    many = length-append v.entries w.entries;
    grants = refl;
    loads = idle;
  }

  accounted-joined : ((g : ℕ → ℕ) → levels_in g (joined v w tokens weighed) ≡ levels_in g v + levels_in g w)
      → (network : Network) → IsAccounted network v → IsAccounted network w → IsAccounted network (joined v w tokens weighed)
  accounted-joined levels network a b = record {
    all = simp length-append
        (omega (arith, a.all, b.all, levels (λ _. 1), levels-one (joined v w tokens weighed), levels-one v, levels-one w));
    entries = All-append (λ (u : ℕ). u < network.table.entries) v.entries w.entries a.entries b.entries;
    walked = λ level is. simp length-append (omega (arith, a.walked level is, b.walked level is, levels level));
  }

-- two views may become what they are together
joins-sum : (start : Start) (id other : ℕ) (v w both : View) → IsSum (base start) v w both → v.loads ≡ [] → w.loads ≡ []
    → both.seen ≤ max v.seen w.seen
    → (IsAccounted start.network v → IsAccounted start.network w → IsAccounted start.network both)
    → Joins (HoldsAt start) id v other w both nobody
joins-sum start id other v w both is idle idle' seen account s kept at distinct at_other =
    let t = start.network.table in
    let once : List View = set s.views id both in
    let vs : List View = set once other nobody in
    let here : get_elem? s.views other ≡ some w = sym (set_else s.views id other both distinct) ∙ at_other in
    let g = kept.rule.fresh id v at in
    let h = kept.rule.fresh other w here in
    let all : load_bound t s.words v.loads ≡ clients_in t s.words = ap (load_bound t s.words) idle in
    let all' : load_bound t s.words w.loads ≡ clients_in t s.words = ap (load_bound t s.words) idle' in
    let came = all-came start s kept in
    let entries : length v.entries + length w.entries ≤ sum_by (λ (x : View). length x.entries) s.views =
    let part = part-le (λ (x : View). length x.entries) (set s.views id nobody) other w
    (set_else s.views id other nobody distinct ∙ here) in
    omega (arith, total-set (λ (x : View). length x.entries) s.views id v nobody at) in
    let names : All (λ g. base start + g.name < clients_in t s.words) both.grants =
    subst (All (λ g. base start + g.name < clients_in t s.words)) (sym is.grants)
    (All-append (λ g. base start + g.name < clients_in t s.words) v.grants w.grants
    (λ k d less. let n = g.names k d less in omega (arith, n)) (λ k d less. let n = h.names k d less in omega (arith, n))) in
    let two : (f : View → ℕ) → sum_by f vs + f v + f w ≡ sum_by f s.views + f both + f nobody =
    λ f. omega (arith, total-set f s.views id v both at, total-set f once other w nobody at_other) in
    kept_alike start s vs kept (λ k. omega (arith, two (weight (base start) k), is.each k, none-new no_start 0 (base start) k))
    (omega (arith, two (λ x. x.quota + length x.entries), is.quota, is.many))
    (each-set (IsAccounted start.network) once other nobody
    (each-set (IsAccounted start.network) s.views id both kept.rule.accounted
    (account (kept.rule.accounted id v at) (kept.rule.accounted other w here))) (accounted-new no_start 0 start.network))
    (each-set (IsFresh start s.words) once other nobody
    (each-set (IsFresh start s.words) s.views id both kept.rule.fresh
    (fresh-idle start s.words both is.loads (omega (arith, is.many, entries, came)) (omega (arith, seen, g.seen, h.seen)) names))
    (fresh-idle start s.words nobody refl (omega (arith, came)) (omega (arith, came)) (λ k d less. absurd (omega arith))))

-- the first and the rest of a list
pub All-left : {X : Type 0} (P : X → Type 0) (xs ys : List X) → All P (xs ++ ys) → All P xs
All-left P xs ys all k d less = subst P (get_or_append_left xs ys d k less) (all k d (omega (arith, less, length-append xs ys)))

pub All-right : {X : Type 0} (P : X → Type 0) (xs ys : List X) → All P (xs ++ ys) → All P ys
All-right P xs ys all k d less = subst P (get_or-append-add xs ys k d) (all (length xs + k) d (omega (arith, less, length-append xs ys)))

-- what two views are together may be cut in them
pub cuts-in-two : (start : Start) (id : ℕ) (v w both : View) → IsSum (base start) v w both → v.loads ≡ [] → w.loads ≡ []
    → v.seen ≤ both.seen → w.seen ≤ both.seen → IsAccounted start.network v → IsAccounted start.network w
    → Splits (HoldsAt start) id both v w
cuts-in-two start id v w both is idle idle' seen seen' accounted accounted' s kept at =
    let t = start.network.table in
    let vs : List View = set s.views id v in
    let f = kept.rule.fresh id both at in
    let all : load_bound t s.words both.loads ≡ clients_in t s.words = ap (load_bound t s.words) is.loads in
    let names : All (λ g. base start + g.name < clients_in t s.words) (v.grants ++ w.grants) =
    subst (λ (x : ℕ × List Grant). All (λ g. base start + g.name < x.0) x.1) (λ x. (all x, is.grants x)) f.names in
    let first = fresh-idle start s.words v idle (omega (arith, f.own, is.many, all)) (omega (arith, f.seen, seen, all))
    (All-left (λ g. base start + g.name < clients_in t s.words) v.grants w.grants names) in
    let second = fresh-idle start s.words w idle' (omega (arith, f.own, is.many, all)) (omega (arith, f.seen, seen', all))
    (All-right (λ g. base start + g.name < clients_in t s.words) v.grants w.grants names) in
    kept_alike start s (vs ++ w ∷ []) kept
    (λ k. omega (arith, total-set (weight (base start) k) s.views id both v at, sum_by_push (weight (base start) k) vs w, is.each k))
    (omega (
      arith,
      total-set (λ (x : View). x.quota + length x.entries) s.views id both v at,
      sum_by_push (λ (x : View). x.quota + length x.entries) vs w,
      is.quota,
      is.many,
    ))
    (each-snoc (IsAccounted start.network) vs w
    (each-set (IsAccounted start.network) s.views id v kept.rule.accounted accounted) accounted')
    (each-snoc (IsFresh start s.words) vs w (each-set (IsFresh start s.words) s.views id v kept.rule.fresh first) second)

-- ---- split

-- the lane has no tokens
abbrev pub Empty : View → Type 0
Empty w = (u : ℕ) → on_in u w ≡ 0

-- it adds none
weighed-out : (v w : View) → Empty w → (f : ℕ × ℕ → ℕ) (u : ℕ)
    → sum_by f (on v.tokens u) ≡ sum_by f (on v.tokens u) + sum_by f (on w.tokens u)
weighed-out v w out f u = omega (arith, ap (sum_by f) (nil_from_length (on w.tokens u) (out u)))

pub splits : (start : Start) (id q : ℕ) (v : View) → v.loads ≡ [] → q ≤ v.quota
    → Splits (HoldsAt start) id v (after_split q v) (split_off q v)
splits start id q v idle enough s kept at =
    let f = kept.rule.accounted id v at in
    let new = accounted-new v.start q start.network in
    cuts-in-two start id (after_split q v) (split_off q v) v
    (record {
      each = λ k. (λ i. weigh (base start) k v.tokens (sym (append-nil v.passages) i) (sym (append-nil v.grants) i)
          (sym (append-nil v.entries) i))
          ∙ each-joined (after_split q v) (split_off q v) v.tokens (weighed-out v (split_off q v) (on-new v.start q)) (base start) k;
      quota = omega arith;
      many = omega arith;
      grants = sym (append-nil v.grants);
      loads = idle;
    }) idle refl (omega arith) (omega arith) (record { all = f.all; entries = f.entries; walked = f.walked })
    (record { all = new.all; entries = new.entries; walked = new.walked }) s kept at

-- ---- join

-- a lane without tokens may be joined
pub joins : (start : Start) (id other : ℕ) (v w : View) → v.loads ≡ [] → w.loads ≡ [] → Empty w
    → Joins (HoldsAt start) id v other w (after_join v w) nobody
joins start id other v w idle idle' out =
    let none : tokens_in w.tokens ≡ 0 = sum-below-zero (length w.tokens) (λ u. on_in u w) out in
    joins-sum start id other v w (after_join v w) (sum-joined v w v.tokens (weighed-out v w out) (base start) idle) idle idle' (omega arith)
    (accounted-joined v w v.tokens (weighed-out v w out) (λ g. omega (arith, no-levels g w none)) start.network)

-- ---- for a moment

module _ (v w : View) (long : length w.tokens ≡ length v.tokens) where
  abbrev tokens : Lists
  tokens = (both_of v w).tokens

  -- what stands on a wire, however it is weighed
  weigh-both : (f : ℕ × ℕ → ℕ) (u : ℕ) → sum_by f (on tokens u) ≡ sum_by f (on v.tokens u) + sum_by f (on w.tokens u)
  weigh-both f u =
      ap (sum_by f) (made-on v.tokens (λ x. on v.tokens x ++ on w.tokens x)
      (λ x past. rw (get_or_past v.tokens x [] past, get_or_past w.tokens x [] (omega (arith, long, past))) refl) u)
      ∙ sum_by-append f (on v.tokens u) (on w.tokens u)

  -- sums over all wires
  levels-both : (g : ℕ → ℕ) → levels_in g (both_of v w) ≡ levels_in g v + levels_in g w
  levels-both g =
      let n : ℕ = length v.tokens in
      let wires : length tokens ≡ n = length-map-range_with_len (λ x. on v.tokens x ++ on w.tokens x) 0 n in
      ap (λ (k : ℕ). sum_below k (λ u. g u * on_in u (both_of v w))) wires
      ∙ sum-below-same n (λ u. g u * on_in u (both_of v w)) (λ u. g u * on_in u v + g u * on_in u w)
      (λ u l. omega (arith, ap (λ (k : ℕ). g u * k) (each-joined v w tokens weigh-both 0 (Wire u))))
      ∙ sum-below-plus n (λ u. g u * on_in u v) (λ u. g u * on_in u w)
      ∙ ap (λ (k : ℕ). sum_below n (λ u. g u * on_in u v) + sum_below k (λ u. g u * on_in u w)) (sym long)

  pub sum-both : (m : ℕ) → v.loads ≡ [] → IsSum m v w (both_of v w)
  sum-both = sum-joined v w tokens weigh-both

  -- two lanes may be taken together
  pub takes-together : (start : Start) (id other : ℕ) → v.loads ≡ [] → w.loads ≡ []
      → Joins (HoldsAt start) id v other w (both_of v w) nobody
  takes-together start id other idle idle' =
      joins-sum start id other v w (both_of v w) (sum-both (base start) idle) idle idle' (omega arith)
      (accounted-joined v w tokens weigh-both levels-both start.network)

-- ---- look

-- a lane may look: it learns of a state in which it has its view
pub looks : (start : Start) (slots id i word : ℕ) (me : Me (Unit {0}) View) (is : Start) → word ≡ 0 → is ≡ start → me.1 ≡ []
    → Allows (HoldsAt start) slots id me i (λ n. n) (λ n new. (word ≡ 0) × (new.1 ≡ []) × Looks is me.0 new.0)
looks start slots id i word me is first same no_slot s kept homes at fits =
    let v : View = me.0 in
    let w : View = after_look v in
    let a = kept.rule.accounted id v at in
    let f = kept.rule.fresh id v at in
    let quota = part-le (λ (x : View). x.quota + length x.entries) s.views id v at in
    let after = kept-recounted start s id v w at refl kept (record { low = f.low; own = f.own; seen = f.seen; names = f.names }) in (
      w,
      keeps,
      tt,
      subst (λ (x : List ℕ). HoldsAt start (record s { words = x; views = set s.views id w })) (sym (set-get_or s.words i 0)) after,
      (
        first,
        no_slot,
        subst (λ (z : Start). Looks z v w) (sym same) (
          refl,
          (record s { views = set s.views id w }, record { id = id; here = get-here s.views id v w at; kept = after.rule }),
          omega (arith, a.all, kept.rule.quotas),
        ),
      ),
    )

-- ---- an answer

-- what a lane that looked is by itself, whatever it is answered
pub accounted-seen : (start : Start) (v : View) (seen steps : ℕ) → StoodInState start v
    → IsAccounted start.network (record v { seen = seen; steps = steps })
accounted-seen start v seen steps (s, in_state) =
    let a = in_state.kept.accounted in_state.id v in_state.here in
    record { all = a.all; entries = a.entries; walked = a.walked }

-- an answer to one lane that has what two had is one to each
pub answers-both : (start : Start) (v w : View) (answer : ℕ) → IsAnswer start (both_of v w) answer
    → IsAnswer start v answer × IsAnswer start w answer
answers-both start v w answer is =
    let many : length (v.entries ++ w.entries) ≡ length v.entries + length w.entries = length-append v.entries w.entries in (
      record {
        own = omega (arith, is.own, many);
        seen = omega (arith, is.seen);
        names = All-left (λ (g : Grant). g.name < answer) v.grants w.grants is.names;
        quota = is.quota;
      },
      record {
        own = omega (arith, is.own, many);
        seen = omega (arith, is.seen);
        names = All-right (λ (g : Grant). g.name < answer) v.grants w.grants is.names;
        quota = is.quota;
      },
    )

-- in the state in which one lane has the grants of two, no name stands in both
pub names-distinct : (start : Start) (v w both : View) → both.grants ≡ v.grants ++ w.grants → StoodInState start both
    → HaveDistinctNames v w
names-distinct start v w both is (s, in_state) name =
    omega (
      arith,
      names-once start s in_state.kept in_state.id both in_state.here name,
      ap (λ (gs : List Grant). times name (map (λ (g : Grant). g.name) gs)) is,
      times-map (λ (g : Grant). g.name) name (v.grants ++ w.grants),
      sum_by-append (λ (g : Grant). cond (eqb g.name name) 1 0) v.grants w.grants,
      times-map (λ (g : Grant). g.name) name v.grants,
      times-map (λ (g : Grant). g.name) name w.grants,
    )
