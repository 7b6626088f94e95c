-- The rule is kept where a token goes on.
use Rattle.cn_floor.proofs.Common.{◌≡◌, ℕ, ◌+◌, ◌-◌, ◌%◌, ◌^◌, ◌<◌, ◌≤◌, true, cond, List, [], length, get_or, set, sym, refl, ap, ◌∙◌, arith, subst, length-set, Allows, Balancer, End, Exit, Grant, HoldsAt, IsAccounted, IsFresh, IsSound, IsThere, Ledger, Me, Stands, Start, State, Table, View, after_step, base, clients_in, count_in, end_of, end_word, entered_in, eq-eqb, get_elem?, keeps, ledger_of, load_bound, name_of, once-there, once_below, output_wire, some, times, All-push, is_end, IsMoveOf, GoesFrom, Step, Going, GoesOn, answer_at, bounded}
use Rattle.cn_floor.proofs.InStates.Accounts.{accounted-after_step}
use Rattle.cn_floor.proofs.InStates.Kept.{Adds, adds-step}
use Rattle.cn_floor.proofs.InStates.Bounds.{end-few, name-later, names-late, sole}
use Rattle.cn_floor.proofs.InStates.Fresh.{fresh-grown}
use Rattle.cn_floor.proofs.InStates.Ledgers.{Lands, leaves, passes, count-raised, count-word, end-there, entered-kept, lanes-raised, one-end, raised}
use Rattle.cn_floor.proofs.InStates.Histories.{reached-by, sound-goes}
use Rattle.cn_floor.proofs.InStates.Totals.{each-set, total-set}

pub end-self : (end : End) → is_end end end ≡ true
end-self (Balancer b) = eq-eqb b b refl
end-self (Exit i) = eq-eqb i i refl

-- what a step keeps of a view
pub step-keeps : (token client : ℕ) (end : End) (n : ℕ) (v : View) → let w : View = after_step token client end n v in
    (w.quota ≡ v.quota) × (w.entries ≡ v.entries) × (w.loads ≡ v.loads)
step-keeps token client (Balancer b) n v = (refl, refl, refl)
step-keeps token client (Exit i) n v = (refl, refl, refl)

-- so it is answered
moved-by : (start : Start) (old new : Ledger) (c u : ℕ) (end : End) (n : ℕ) → old.count end ≡ n
    → GoesFrom start.network.table old new c u end
    → ((i : ℕ) → end ≡ Exit i → base start ≤ name_of start.network.table.width i n)
    → IsMoveOf start.network.table (base start) old new c (answer_at start end n)
moved-by start old new c u (Balancer b) n count goes later = (u, goes, sym count, refl)
moved-by start old new c u (Exit i) n count goes later = (u, goes, sym count, let l = later i refl in omega arith)

module _ (start : Start) (id token client wire : ℕ) (end : End) (v : View) (s : State (Unit {0}) View) (kept : HoldsAt start s)
    (here : get_elem? s.views id ≡ some v)
    (of : v.start ≡ start) (is : IsThere v.tokens token client wire) (wires : length v.tokens ≡ length start.network.table.ends)
    (ends : end_of start.network.table wire ≡ end) (stands : Stands start.network.table end) where
  abbrev t : Table
  t = start.network.table

  abbrev n : ℕ
  n = count_in t s.words end

  abbrev then : View
  then = after_step token client end n v

  abbrev next : State (Unit {0}) View
  next = record { words = raised s.words (end_word t end); homes = s.homes; views = set s.views id then }

  abbrev was : Ledger
  was = ledger_of t start.words s.words s.views

  abbrev now : Ledger
  now = ledger_of t start.words next.words next.views

  there : wire < length t.ends
  there = omega (arith, is.inside)

  lands-at : (e : End) → e ≡ end → Lands n v e
  lands-at (Balancer b) q =
      let low : b < t.balancers = subst (Stands t) (sym q) stands in
      let all = kept.began.network.formed.wires in
      let out : output_wire t b (n % 2) < length v.tokens = omega arith in
      subst (λ (z : Start). output_wire z.network.table b (n % 2) < length v.tokens) (sym of) out
  lands-at (Exit i) q = tt

  went-at : (e : End) → e ≡ end
      → GoesFrom t was (ledger_of t start.words (raised s.words (end_word t e))
      (set s.views id (after_step token client e (count_in t s.words e) v))) client wire e
  went-at (Balancer b) q =
      let low : b < t.balancers = subst (Stands t) (sym q) stands in
      let all = kept.began.network.formed.wires in
      passes start s.words s.views id v kept.rule.words here of token client wire b is there (ends ∙ sym q) low (omega arith)
  went-at (Exit i) q =
      let low : i < t.width = subst (Stands t) (sym q) stands in
      leaves start s.words s.views id v kept.rule.words here of token client wire i is there (ends ∙ sym q) low
      (name-later start s kept i low)

  went : GoesFrom t was now client wire end
  went = went-at end refl

  sound-now : IsSound t now
  sound-now = sound-goes t kept.began.network.formed end was now client wire went kept.rule.sound

  risen-not : (u : ℕ) → entered_in t s.words u ≤ entered_in t next.words u
  risen-not u = omega (arith, entered-kept t s.words kept.rule.words end stands u)

  -- the name that is given is below the number that came in
  name-low : (i : ℕ) → end ≡ Exit i → name_of t.width i n < clients_in t next.words
  name-low i q =
      let low : i < t.width = subst (Stands t) q stands in
      let net = kept.began.network in
      let risen : count_in t next.words end ≡ n + 1 =
      count-raised t s.words kept.rule.words end end stands ∙ ap (λ b. n + cond b 1 0) (end-self end) in
      let there_at : count_in t next.words (Exit i) ≡ n + 1 = ap (λ (e : End). count_in t next.words e) (sym q) ∙ risen in
      let given : now.given (Exit i) n ≡ once_below (count_in t next.words (Exit i)) n = sound-now.numbered (Exit i) n low in
      let one = once-there (count_in t next.words (Exit i)) n (omega arith) in
      (bounded t net.formed net.counts now sound-now).visits i n low (omega arith)

  fresh-after_step : v.loads ≡ [] → (e : End) → e ≡ end → IsFresh start next.words (after_step token client e n v)
  fresh-after_step idle (Balancer b) q =
      let f = fresh-grown start s.words next.words v risen-not (kept.rule.fresh id v here) in
      record { low = f.low; own = f.own; seen = f.seen; names = f.names }
  fresh-after_step idle (Exit i) q =
      let f = fresh-grown start s.words next.words v risen-not (kept.rule.fresh id v here) in
      let all : load_bound t next.words v.loads ≡ clients_in t next.words = ap (load_bound t next.words) idle in
      let named = names-late start s kept end stands n refl i (sym q) in
      let name : name_of v.start.network.table.width i n - base v.start ≡ name_of t.width i n - base start =
      ap (λ (z : Start). name_of z.network.table.width i n - base z) of in
      record {
        low = f.low;
        own = f.own;
        seen = f.seen;
        names = All-push (λ (g : Grant). base start + g.name < load_bound t next.words v.loads) v.grants
            (record { client = client; exit = i; visit = n; name = name_of v.start.network.table.width i n - base v.start }) f.names
            (omega (arith, name-low i (sym q)));
      }

  kept-after_step : v.loads ≡ [] → HoldsAt start next
  kept-after_step idle = record {
    began = kept.began;
    rule = record {
      words = length-set s.words (end_word t end) (get_or s.words (end_word t end) 0 + 1) ∙ kept.rule.words;
      lanes = lanes-raised s.words (end_word t end) (one-end t end) kept.rule.lanes;
      sound = sound-now;
      reached = reached-by start (Step client wire) was now kept.rule.reached (subst (GoesFrom t was now client wire) (sym ends) went);
      entered = λ u l.
          let more = total-set (λ (x : View). times u x.entries) s.views id v then here in
          let same : times u then.entries ≡ times u v.entries = ap (λ (es : List ℕ). times u es) (step-keeps token client end n v).1 in
          omega (arith, entered-kept t s.words kept.rule.words end stands u, kept.rule.entered u l);
      accounted = each-set (IsAccounted start.network) s.views id then kept.rule.accounted
          (accounted-after_step start.network token client wire n v is there (ap (λ (z : Start). z.network) of) end ends
          (lands-at end refl) (kept.rule.accounted id v here));
      fresh = each-set (IsFresh start next.words) s.views id then
          (λ i x e. fresh-grown start s.words next.words x risen-not (kept.rule.fresh i x e)) (fresh-after_step idle end refl);
      quotas =
          let more = total-set (λ (x : View). x.quota + length x.entries) s.views id v then here in
          let same : length then.entries ≡ length v.entries = ap (λ (es : List ℕ). length es) (step-keeps token client end n v).1 in
          omega (arith, (step-keeps token client end n v).0, kept.rule.quotas);
    };
  }

  -- that is one event, with this number
  pub adds-step-on : v.loads ≡ [] → (m : ℕ) → n ≡ m
      → Adds start s id (end_word t end) 1 (after_step token client end m v) (λ l k. GoesFrom t l k client wire end)
  adds-step-on idle m count = subst (λ (m : ℕ). Adds start s id (end_word t end) 1 (after_step token client end m v)
      (λ l k. GoesFrom t l k client wire end)) count (record { kept = kept-after_step idle; happened = went })

-- a token may go on
pub lets-on : (start : Start) (slots id : ℕ) (me : Me (Unit {0}) View) (is : Going) (token client wire : ℕ) (end : End) (word : ℕ)
    → is ≡ record { start = start; token = token; client = client; wire = wire; end = end } → word ≡ end_word start.network.table end
    → me.1 ≡ [] → me.0.loads ≡ [] → me.0.start ≡ start
    → IsThere me.0.tokens token client wire → length me.0.tokens ≡ length start.network.table.ends
    → end_of start.network.table wire ≡ end → Stands start.network.table end
    → Allows (HoldsAt start) slots id me word (λ n. (n + 1) % 2 ^ 64) (λ n new. (new.1 ≡ []) × GoesOn is me.0 n new.0)
lets-on start slots id me is token client wire end word by at no_slot idle of on_it wires ends stands =
    rw (by, at) (λ s kept homes here fits.
    let t : Table = start.network.table in
    let n : ℕ = get_or s.words (end_word t end) 0 in
    let count : count_in t s.words end ≡ n = count-word t s.words end stands in
    let w : View = after_step token client end n me.0 in
    let one = adds-step-on start id token client wire end me.0 s kept here of on_it wires ends stands idle n count in
    let all = adds-step start s id (end_word t end) 1 me.0 (λ l m. IsMoveOf t (base start) l m client (answer_at start end n)) here w kept
    (omega (arith, kept.rule.words, end-there t end stands)) (λ r k. end-few start r k end stands)
    (record {
      kept = one.kept;
      happened = moved-by start _ _ client wire end n count one.happened (names-late start s kept end stands n count);
    }) in (
      w,
      keeps,
      tt,
      all.kept,
      (
        no_slot,
        (
          refl,
          record {
            step = all.step;
            few = omega (arith, all.few);
            sole = λ whole. sym count ∙ sole start s kept id me.0 here whole end stands;
          },
        ),
      ),
    ))
