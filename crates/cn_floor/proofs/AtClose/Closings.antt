-- A lane whose grants number all that entered did all that was done.
use Rattle.cn_floor.proofs.Common.{◌≡◌, ℕ, zero, suc, ◌+◌, ◌≤◌, ◌<◌, ◌&&◌, cond, eqb, ltb, List, [], ◌∷◌, length, get_or, sum_by, count_by, sym, refl, ap, ◌∙◌, subst, arith, ◌-◌, map, End, Exit, Grant, HoldsAt, IsSound, Ledger, Stands, Start, State, View, Yard, base, clients_in, count_in, entered_in, eq-eqb, get_elem?, given_in, granted_in, ledger_of, name_of, on_in, once_below, some, standing_in, sum_below, sum_by-cons, times, tokens_in, when, some-injective, some-ne-none, count_by-le-length, get_or-le-sum_by, Final, Seen, range_with_len, IsEachBelow, share, names-each, IsTight, IsEnding, IsClosedFloor, NobodyInside, counts_by_exit, times-nil, nobody-on}
use Rattle.cn_ledger.specs.Grants.{Grant as Listed, ListsGrants, is_grant}
use Rattle.cn_floor.proofs.InStates.Bounds.{all-came, few-came, none_given}
use Rattle.cn_floor.proofs.AtClose.Ends.{carried-after, tight-after, tight-before}
use Rattle.cn_floor.proofs.InStates.Fresh.{load-bound-few}
use Rattle.cn_floor.proofs.InStates.Ledgers.{count-word}
use Rattle.cn_floor.proofs.InStates.Totals.{mine-only, part-le}

-- at a place of a list
pub at-get : (xs : List ℕ) (i x : ℕ) → get_elem? xs i ≡ some x → (i < length xs) × (get_or xs i 0 ≡ x)
at-get [] i x e = absurd (some-ne-none x (sym e))
at-get (y ∷ ys) zero x e = (omega arith, some-injective y x e)
at-get (y ∷ ys) (suc i) x e = let r = at-get ys i x e in (omega (arith, r.0), r.1)

-- nobody inside is nobody on each wire
pub none-on : (v : View) → tokens_in v.tokens ≡ 0 → (u : ℕ) → on_in u v ≡ 0
none-on v none u = nobody-on v.tokens none u

-- lists of the same numbers
pub map-same : (f g : ℕ → ℕ) (a n : ℕ) → ((i : ℕ) → a ≤ i → i < a + n → f i ≡ g i) → map f (range_with_len a n) ≡ map g (range_with_len a n)
map-same f g a zero same = refl
map-same f g a (suc n) same = λ x. same a (omega arith) (omega arith) x
    ∷ map-same f g (a + 1) n (λ i l h. same i (omega arith) (omega arith)) x

-- a grant as the ledgers' lists have it
abbrev listed : Grant → Listed
listed g = record { client = g.client; exit = g.exit; visit = g.visit; name = g.name }

names-listed : (gs : List Grant) → map (λ (g : Listed). g.name) (map listed gs) ≡ map (λ (g : Grant). g.name) gs
names-listed [] = refl
names-listed (g ∷ gs) = λ x. g.name ∷ names-listed gs x

count-listed : (m c i v name : ℕ) (gs : List Grant)
    → count_by (is_grant m c i v name) (map listed gs)
    ≡ count_by (λ (g : Grant). eqb g.client c && (eqb g.exit i && (eqb g.visit v && eqb (g.name + m) name))) gs
count-listed m c i v name [] = refl
count-listed m c i v name (g ∷ gs) =
    omega (
      arith,
      count-listed m c i v name gs,
      sum_by-cons (λ (x : Listed). cond (is_grant m c i v name x) 1 0) (listed g) (map listed gs),
      sum_by-cons (λ (x : Grant). cond (eqb x.client c && (eqb x.exit i && (eqb x.visit v && eqb (x.name + m) name))) 1 0) g gs,
    )

-- who let nobody in has no entry by u
no-entry : (u : ℕ) (es : List ℕ) → length es ≡ 0 → times u es ≡ 0
no-entry u [] none = times-nil u
no-entry u (e ∷ es) none = absurd (omega arith)

module _ (start : Start) (s : State (Unit {0}) View) (id : ℕ) (v : View) (kept : HoldsAt start s) (at : get_elem? s.views id ≡ some v) where
  -- a lane that let nobody in has nobody inside, and no grants
  none-inside : (j : ℕ) (x : View) → get_elem? s.views j ≡ some x → length x.entries ≡ 0 → (u : ℕ) → on_in u x ≡ 0
  none-inside j x a none = none-on x (omega (arith, (kept.rule.accounted j x a).all))

  none-granted : (j : ℕ) (x : View) → get_elem? s.views j ≡ some x → length x.entries ≡ 0 → (c i k name : ℕ)
      → granted_in (base start) c i k name x ≡ 0
  none-granted j x a none c i k name =
      omega (
        arith,
        (kept.rule.accounted j x a).all,
        count_by-le-length (λ (g : Grant). eqb g.client c && (eqb g.exit i && (eqb g.visit k && eqb (g.name + base start) name)))
            x.grants,
      )

  -- a sum over only this lane
  sum-one : (f : View → ℕ) → sum_by f (v ∷ []) ≡ f v
  sum-one f = omega (arith, sum_by-cons f v [])

  -- each grant has the name of its exit and visit
  named-at : (j : ℕ) (d : Grant) → j < length v.grants
      → ((get_or v.grants j d).exit < start.network.table.width)
      × ((get_or v.grants j d).name + base start ≡ name_of start.network.table.width (get_or v.grants j d).exit (get_or v.grants j d).visit)
  named-at j d l =
      let g : Grant = get_or v.grants j d in
      let test : Grant → ℕ = λ x. cond (eqb x.client g.client &&
      (eqb x.exit g.exit && (eqb x.visit g.visit && eqb (x.name + base start) (g.name + base start)))) 1 0 in
      let one : test g ≡ 1 = rw (
        eq-eqb g.client g.client refl,
        eq-eqb g.exit g.exit refl,
        eq-eqb g.visit g.visit refl,
        eq-eqb (g.name + base start) (g.name + base start) refl,
      ) refl in
      let part = get_or-le-sum_by test v.grants j d l in
      let all = part-le (granted_in (base start) g.client g.exit g.visit (g.name + base start)) s.views id v at in
      kept.rule.sound.named g.client g.exit g.visit (g.name + base start) (omega arith)

  -- the names are those below the number of grants, each once
  names-at : IsTight start.network.table (ledger_of start.network.table start.words s.words (v ∷ []))
      → clients_in start.network.table s.words ≡ base start + length v.grants
      → IsEachBelow (length v.grants) (map (λ g. g.name) v.grants)
  names-at end all =
      let t = start.network.table in
      let was : Ledger = ledger_of t start.words start.words [] in
      let now : Ledger = ledger_of t start.words s.words (v ∷ []) in
      let lists : ListsGrants (base start) was now (map listed v.grants) =
      λ c i k name. omega (arith, sum-one (granted_in (base start) c i k name), count-listed (base start) c i k name v.grants) in
      subst (λ (ns : List ℕ). IsEachBelow (length v.grants) ns) (names-listed v.grants)
      (names-each t was now (map listed v.grants) (length v.grants) (tight-before start kept.began) end all lists)

  -- the counts of the floor are shares
  shares-at : IsTight start.network.table (ledger_of start.network.table start.words s.words (v ∷ []))
      → clients_in start.network.table s.words ≡ base start + length v.grants
      → counts_by_exit start s.words ≡ map (λ i.
      share (base start + length v.grants) start.network.table.width i - share (base start) start.network.table.width i)
      (range_with_len 0 start.network.table.width)
  shares-at end all =
      let t = start.network.table in
      let old = tight-before start kept.began in
      map-same (λ i. get_or s.words (1 + t.entries + t.balancers + i) 0 - get_or start.words (1 + t.entries + t.balancers + i) 0)
      (λ i. share (base start + length v.grants) t.width i - share (base start) t.width i) 0 t.width
      (λ i l h.
      let now : get_or s.words (1 + t.entries + t.balancers + i) 0 ≡ share (base start + length v.grants) t.width i =
      sym (count-word t s.words (Exit i) (omega arith)) ∙ end.counts i (omega arith) ∙ ap (λ (n : ℕ). share n t.width i) all in
      let was = sym (count-word t start.words (Exit i) (omega arith)) ∙ old.counts i (omega arith) in
      λ x. now x - was x)

  pub closed_floor : tokens_in v.tokens ≡ 0 → clients_in start.network.table s.words ≡ base start + length v.grants
      → IsClosedFloor start v s.words
  closed_floor out all =
      let t = start.network.table in
      let entries : View → ℕ = λ x. length x.entries in
      let account = kept.rule.accounted id v at in
      let f = kept.rule.fresh id v at in
      let came = all-came start s kept in
      let mine : sum_by entries s.views ≡ entries v = omega (arith, came, account.all) in
      let on : (u : ℕ) → sum_by (on_in u) s.views ≡ on_in u v =
      λ u. mine-only (on_in u) entries s.views id v at (λ j x a z. none-inside j x a z u) mine in
      let standing : (u c : ℕ) → sum_by (standing_in u c) s.views ≡ standing_in u c v = λ u c.
      mine-only (standing_in u c) entries s.views id v at
      (λ j x a z. omega (arith, none-inside j x a z u, count_by-le-length (λ (e : ℕ × ℕ). eqb e.1 c) (get_or x.tokens u []))) mine in
      let given : (end : End) (n : ℕ) → sum_by (given_in end n) s.views ≡ given_in end n v =
      λ end n. mine-only (given_in end n) entries s.views id v at (λ j x a z. none_given start s kept j x a z end n) mine in
      let granted : (c i k name : ℕ) → sum_by (granted_in (base start) c i k name) s.views ≡ granted_in (base start) c i k name v =
      λ c i k name.
      mine-only (granted_in (base start) c i k name) entries s.views id v at (λ j x a z. none-granted j x a z c i k name) mine in
      let same : ledger_of t start.words s.words s.views ≡ ledger_of t start.words s.words (v ∷ []) = λ x. record {
        entered = entered_in t s.words;
        count = count_in t s.words;
        on = λ u. (on u ∙ sym (sum-one (on_in u))) x;
        standing = λ u c. (standing u c ∙ sym (sum-one (standing_in u c))) x;
        given = λ end n. once_below (count_in t start.words end) n + (given end n ∙ sym (sum-one (given_in end n))) x;
        granted = λ c i k name.
            when (eqb 0 c && (ltb k (count_in t start.words (Exit i)) && eqb (name_of t.width i k) name)) 1
            + (granted c i k name ∙ sym (sum-one (granted_in (base start) c i k name))) x;
      } in
      let numbers : (end : End) (n : ℕ) → Stands t end
      → once_below (count_in t start.words end) n + given_in end n v ≡ once_below (count_in t s.words end) n = λ end n stands.
      omega (arith, given end n, kept.rule.sound.numbered end n stands) in
      let own : (u : ℕ) → u < t.entries → entered_in t s.words u ≡ entered_in t start.words u + times u v.entries = λ u l.
      omega (
        arith,
        kept.rule.entered u l,
        mine-only (λ (x : View). times u x.entries) entries s.views id v at
            (λ j x a z. no-entry u x.entries z) mine,
      ) in
      let nobody : NobodyInside start (v ∷ []) = λ u l. omega (arith, sum-one (on_in u), none-on v out u) in
      let sound : IsSound t (ledger_of t start.words s.words (v ∷ [])) = subst (IsSound t) same kept.rule.sound in
      let end = tight-after start kept.began s.words (v ∷ []) sound nobody in
      record {
        out = omega (arith, account.all);
        came = all;
        entered = own;
        numbered = numbers;
        visits = λ i n low.
            omega (
              arith,
              numbers (Exit i) n low,
              ap (λ (c : ℕ). once_below c n) ((tight-before start kept.began).counts i low),
              ap (λ (c : ℕ). once_below c n) (end.counts i low),
              ap (λ (m : ℕ). once_below (share m t.width i) n) all,
            );
        tight = end;
        shares = shares-at end all;
        seen = omega (arith, f.seen, load-bound-few t s.words v.loads f.low);
        named = named-at;
        names = names-at end all;
        closed = carried-after start kept.began s.words (v ∷ []) sound nobody kept.rule.words kept.rule.lanes;
      }

  pub ending-at : IsEnding start v s.words
  ending-at = record {
    state = s;
    in_state = record { id = id; here = at; kept = kept.rule };
    same = refl;
    count = kept.rule.words;
    few = few-came start s kept;
    granted = omega (
      arith,
      all-came start s kept,
      part-le (λ (x : View). length x.entries) s.views id v at,
      (kept.rule.accounted id v at).all,
    );
    sole = λ whole.
        omega (
          arith,
          all-came start s kept,
          mine-only (λ (x : View). length x.entries) (λ (x : View). x.quota + length x.entries) s.views id v at (λ j x a z. omega arith)
              (kept.rule.quotas ∙ sym whole),
        );
    within = omega (arith, kept.rule.quotas, part-le (λ (x : View). x.quota + length x.entries) s.views id v at);
    closed_floor = closed_floor;
  }

pub ending : (start : Start) (id : ℕ) (v : View) (ws : List ℕ) (xs : List (Unit {0})) → Final (Seen (HoldsAt start) id v) ws xs
    → IsEnding start v ws
ending start id v ws xs f = subst (λ (w : List ℕ). IsEnding start v w) f.2 (ending-at start f.0 id v f.1.0 f.1.1)

-- a lane's yard has as many tokens as its view
pub inside-yard : (y : Yard) (v : View) → y.lists ≡ v.tokens → tokens_in v.tokens ≡ tokens_in y.lists
inside-yard y v same = ap (λ (ls : List (List (ℕ × ℕ))). sum_below (length ls) (λ u. length (get_or ls u []))) (sym same)
