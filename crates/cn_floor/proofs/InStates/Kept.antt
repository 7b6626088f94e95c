-- The rule is kept where views change and what they add up to does not, and where one atomic step adds to a word.
use Rattle.cn_floor.proofs.Common.{◌≡◌, ℕ, ◌+◌, ◌&&◌, List, length, set, sum_by, cond, subst, sym, arith, eqb, ltb, ap, count_by, Balancer, End, Exit, Grant, HoldsAt, IsAccounted, IsFresh, IsSound, Lists, Passage, Start, Table, View, clients_in, count_in, entered_in, base, get_elem?, given_in, ledger_of, name_of, on, once_below, some, sum_by-append, times, times-append, when, IsReached, FloorState, after_join, suc, ◌%◌, ◌^◌, ◌<◌, ◌≤◌, get_or, refl, ◌∙◌, IsAtomicStep, Ledger, get_or-set_same, ledger_at, set-get_or, set-set}
use Rattle.cn_floor.proofs.Lists.{ones}
use Rattle.cn_floor.proofs.InStates.Totals.{Each, each-set, total-set, get-here}
use Rattle.atomic_table.proofs.Lists.{set_again}

-- what is added up over all views: who stands on a wire, of which client, how often a number or a name is given, and
-- how often an entry is taken
pub data Measure : Type 0 where
  Wire : ℕ → Measure
  Client : ℕ → ℕ → Measure
  Passed : ℕ → ℕ → Measure
  Visited : ℕ → ℕ → Measure
  Named : ℕ → ℕ → ℕ → ℕ → Measure
  Entry : ℕ → Measure

-- by the only parts of a view that count
abbrev pub weigh : ℕ → Measure → Lists → List Passage → List Grant → List ℕ → ℕ
weigh m (Wire u) tokens passages grants entries = length (on tokens u)
weigh m (Client u c) tokens passages grants entries = count_by (λ e. eqb e.1 c) (on tokens u)
weigh m (Passed b n) tokens passages grants entries = count_by (λ p. eqb b p.balancer && eqb p.number n) passages
weigh m (Visited i n) tokens passages grants entries = count_by (λ g. eqb i g.exit && eqb g.visit n) grants
weigh m (Named c i v name) tokens passages grants entries =
    count_by (λ g. eqb g.client c && (eqb g.exit i && (eqb g.visit v && eqb (g.name + m) name))) grants
weigh m (Entry u) tokens passages grants entries = times u entries

abbrev pub weight : ℕ → Measure → View → ℕ
weight m k v = weigh m k v.tokens v.passages v.grants v.entries

-- the views add up to the same
abbrev pub AddUpAlike : ℕ → List View → List View → Type 0
AddUpAlike m old new = (k : Measure) → sum_by (weight m k) old ≡ sum_by (weight m k) new

-- two views weigh what they do together, with these tokens of both
module _ (v w : View) (tokens : Lists)
    (weighed : (f : ℕ × ℕ → ℕ) (u : ℕ) → sum_by f (on tokens u) ≡ sum_by f (on v.tokens u) + sum_by f (on w.tokens u)) where
  abbrev pub joined : View
  joined = record (after_join v w) { tokens = tokens }

  pub each-joined : (m : ℕ) (k : Measure) → weight m k joined ≡ weight m k v + weight m k w
  each-joined m (Wire u) = omega (arith, weighed (λ _. 1) u, ones (on tokens u), ones (on v.tokens u), ones (on w.tokens u))
  each-joined m (Client u c) = weighed (λ e. cond (eqb e.1 c) 1 0) u
  each-joined m (Passed b n) = sum_by-append (λ p. cond (eqb b p.balancer && eqb p.number n) 1 0) v.passages w.passages
  each-joined m (Visited i n) = sum_by-append (λ g. cond (eqb i g.exit && eqb g.visit n) 1 0) v.grants w.grants
  each-joined m (Named c i k name) = sum_by-append
      (λ g. cond (eqb g.client c && (eqb g.exit i && (eqb g.visit k && eqb (g.name + m) name))) 1 0) v.grants w.grants
  each-joined m (Entry u) = times-append u v.entries w.entries

-- so the ledger is the same
pub ledger-alike : (t : Table) (carried words : List ℕ) (old new : List View) → AddUpAlike (clients_in t carried) old new
    → ledger_of t carried words old ≡ ledger_of t carried words new
ledger-alike t carried words old new same = λ x. record {
  entered = entered_in t words;
  count = count_in t words;
  on = λ u. same (Wire u) x;
  standing = λ u c. same (Client u c) x;
  given = λ end n. once_below (count_in t carried end) n + given end n x;
  granted = λ c i v name. when (eqb 0 c && (ltb v (count_in t carried (Exit i)) && eqb (name_of t.width i v) name)) 1
      + same (Named c i v name) x;
}
  where
    given : (end : End) (n : ℕ) → sum_by (given_in end n) old ≡ sum_by (given_in end n) new
    given (Balancer b) n = same (Passed b n)
    given (Exit i) n = same (Visited i n)

pub kept_alike : (start : Start) (s : FloorState) (new : List View) → HoldsAt start s → AddUpAlike (base start) s.views new
    → sum_by (λ (x : View). x.quota + length x.entries) s.views ≡ sum_by (λ (x : View). x.quota + length x.entries) new
    → Each (IsAccounted start.network) new → Each (IsFresh start s.words) new → HoldsAt start (record s { views = new })
kept_alike start s new kept same quotas account fresh =
    let ledger = ledger-alike start.network.table start.words s.words s.views new same in
    record {
      began = kept.began;
      rule = record {
        words = kept.rule.words;
        lanes = kept.rule.lanes;
        sound = subst (IsSound start.network.table) ledger kept.rule.sound;
        reached = subst (IsReached start) ledger kept.rule.reached;
        entered = λ u l. omega (arith, kept.rule.entered u l, same (Entry u));
        accounted = account;
        fresh = fresh;
        quotas = omega (arith, kept.rule.quotas);
      };
    }

-- what a view has seen, loaded and counted is nothing to that
abbrev pub Recounted : View → View → Type 0
Recounted v w = w ≡ record v { seen = w.seen; loads = w.loads; steps = w.steps }

module _ (start : Start) (s : FloorState) (id : ℕ) (v w : View) (here : get_elem? s.views id ≡ some v) (like : Recounted v w) where
  pub recounted-alike : (m : ℕ) → AddUpAlike m s.views (set s.views id w)
  recounted-alike m k =
      let same : weight m k w ≡ weight m k v = ap (weight m k) like in
      omega (arith, total-set (weight m k) s.views id v w here)

  pub kept-recounted : HoldsAt start s → IsFresh start s.words w → HoldsAt start (record s { views = set s.views id w })
  kept-recounted kept fresh =
      let a = kept.rule.accounted id v here in
      kept_alike start s (set s.views id w) kept (recounted-alike (base start))
      (let room : View → ℕ = λ x. x.quota + length x.entries in omega (arith, total-set room s.views id v w here, ap room like))
      (each-set (IsAccounted start.network) s.views id w kept.rule.accounted
      (subst (IsAccounted start.network) (sym like) (record { all = a.all; entries = a.entries; walked = a.walked })))
      (each-set (IsFresh start s.words) s.views id w kept.rule.fresh fresh)

-- One atomic step adds to a word: it rises by as many events in turn as clients come or go.

-- a word is so much more, and a lane has this view
abbrev pub added : FloorState → ℕ → ℕ → ℕ → View → FloorState
added s id at more w = record { words = set s.words at (get_or s.words at 0 + more); homes = s.homes; views = set s.views id w }

-- that keeps the rule, and is this event
pub record Adds (start : Start) (s : FloorState) (id at more : ℕ) (w : View) (event : Ledger → Ledger → Type 0) : Type 0 where
  pub kept : HoldsAt start (added s id at more w)
  pub happened : event (ledger_at start s) (ledger_at start (added s id at more w))

module _ (s : FloorState) (id at : ℕ) where
  pub added-none : (v : View) → get_elem? s.views id ≡ some v → s ≡ added s id at 0 v
  added-none v here =
      let rest : get_or s.words at 0 ≡ get_or s.words at 0 + 0 = omega arith in
      let words = sym (set-get_or s.words at 0) ∙ ap (set s.words at) rest in
      λ i. record { words = words i; homes = s.homes; views = sym (set_again s.views id v here) i }

  pub added-more : (n : ℕ) (then w : View) → at < length s.words → added (added s id at 1 then) id at n w ≡ added s id at (suc n) w
  added-more n then w low =
      let one : ℕ = get_or s.words at 0 + 1 in
      let sum : get_or (set s.words at one) at 0 + n ≡ get_or s.words at 0 + suc n = omega (arith, get_or-set_same s.words at one 0 low) in
      let words = set-set s.words at one (get_or (set s.words at one) at 0 + n) ∙ ap (set s.words at) sum in
      λ i. record { words = words i; homes = s.homes; views = set-set s.views id then w i }

module _ (start : Start) (s : FloorState) (id at more : ℕ) (v : View) (event : Ledger → Ledger → Type 0)
    (here : get_elem? s.views id ≡ some v) where
  -- how many steps the view counts is nothing to it
  pub adds-counted : (g : View) (k : ℕ) → Adds start s id at more g event → Adds start s id at more (record g { steps = k }) event
  adds-counted g k all =
      let w : View = record g { steps = k } in
      let then : FloorState = added s id at more g in
      let here' = get-here s.views id v g here in
      let f = all.kept.rule.fresh id g here' in
      let again : record then { views = set then.views id w } ≡ added s id at more w =
      λ i. record { words = then.words; homes = s.homes; views = set-set s.views id g w i } in
      let same = ledger-alike start.network.table start.words then.words then.views (set then.views id w)
      (recounted-alike start then id g w here' refl (base start)) in
      record {
        kept = subst (HoldsAt start) again
            (kept-recounted start then id g w here' refl all.kept (record { low = f.low; own = f.own; seen = f.seen; names = f.names }));
        happened = subst (event (ledger_at start s)) (same ∙ ap (ledger_at start) again) all.happened;
      }

  -- the word is no more than may come in, so that it does not wrap; and that is one atomic step
  pub record Stepped (w : View) : Type 0 where
    pub few : get_or s.words at 0 + more ≤ base start + start.quota
    pub kept : HoldsAt start
        (record { words = set s.words at ((get_or s.words at 0 + more) % 2 ^ 64); homes = s.homes; views = set s.views id w })
    pub step : IsAtomicStep start v w event

  pub adds-step : (w : View) → HoldsAt start s → at < length s.words
      → ((r : FloorState) → HoldsAt start r → get_or r.words at 0 ≤ base start + start.quota)
      → Adds start s id at more w event → Stepped w
  adds-step w kept low few all =
      let n : ℕ = get_or s.words at 0 + more in
      let most : n ≤ base start + start.quota = omega (arith, few (added s id at more w) all.kept, get_or-set_same s.words at n 0 low) in
      let bound = kept.began.quota in
      let carried = kept.began.few in
      let no-wrap : n ≡ n % 18446744073709551616 = omega arith in
      record {
        few = most;
        kept = subst (λ (k : ℕ). HoldsAt start (record { words = set s.words at k; homes = s.homes; views = set s.views id w })) no-wrap
            all.kept;
        step = record {
          old = s;
          new = added s id at more w;
          id = id;
          here = here;
          there = get-here s.views id v w here;
          views = refl;
          kept_before = kept.rule;
          kept_after = all.kept.rule;
          happened = all.happened;
        };
      }
