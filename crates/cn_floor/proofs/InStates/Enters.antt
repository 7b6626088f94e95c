-- The rule is kept where a client comes in, and where those of a list do by one step.
use Rattle.cn_floor.proofs.Common.{◌≡◌, ℕ, ◌+◌, ◌%◌, ◌^◌, ◌<◌, ◌≤◌, List, [], ◌∷◌, ◌++◌, length, get_or, set, refl, ap, ◌∙◌, arith, length-set, Allows, HoldsAt, IsAccounted, IsFresh, Me, Start, State, View, after_enter, base, clients_in, entered_in, get_elem?, keeps, ledger_of, length_push, load_bound, some, sum-below-one, sum-below-same, times, Enters, one_at, Enter, Coming, ComesIn, sum-below-plus, times-append, times-nil, sound-enters, zero, suc, subst, slice_index, Table, last_on, ledger_at, length-map-range_with_len, on, AllComeIn, EnterInTurn, EnteringAll, FloorState, after_enter_all, after_enters}
use Rattle.cn_floor.proofs.InStates.Accounts.{accounted-after-enter}
use Rattle.cn_floor.proofs.InStates.Kept.{Adds, adds-step, added, added-more, added-none, adds-counted}
use Rattle.cn_floor.proofs.InStates.Bounds.{entry-few}
use Rattle.cn_floor.proofs.InStates.Fresh.{fresh-grown, fresh-idle, names_below}
use Rattle.cn_floor.proofs.InStates.Ledgers.{enters, entered-raised, lanes-raised, raised}
use Rattle.cn_floor.proofs.InStates.Histories.{reached-by}
use Rattle.cn_floor.proofs.InStates.Totals.{each-set, total-set, get-here}

-- one entry more
times-last : (u e : ℕ) (es : List ℕ) → times u (es ++ e ∷ []) ≡ times u es + one_at e u
unfolding times
times-last u e es = omega (arith, times-append u es (e ∷ []), times-nil u)

module _ (start : Start) (id token client entry : ℕ) (v : View) (s : State (Unit {0}) View) (kept : HoldsAt start s)
    (here : get_elem? s.views id ≡ some v)
    (of : v.start ≡ start) (low : entry < start.network.table.entries) (inside : entry < length v.tokens) (some_quota : 0 < v.quota) where
  abbrev w : View
  w = after_enter token client entry v

  abbrev after : State (Unit {0}) View
  after = record { words = raised s.words (1 + entry); homes = s.homes; views = set s.views id w }

  came_in : Enters start.network.table (ledger_of start.network.table start.words s.words s.views)
      (ledger_of start.network.table start.words after.words after.views) client entry
  came_in = enters start s.words s.views id v kept.rule.words here of token client entry low inside

  risen : (u : ℕ) → entered_in start.network.table s.words u ≤ entered_in start.network.table after.words u
  risen u = omega (arith, entered-raised start.network.table s.words kept.rule.words entry low u)

  one_more-came : clients_in start.network.table after.words ≡ clients_in start.network.table s.words + 1
  one_more-came =
      let t = start.network.table in
      sum-below-same t.entries (entered_in t after.words) (λ u. entered_in t s.words u + one_at entry u)
      (λ u l. entered-raised t s.words kept.rule.words entry low u)
      ∙ sum-below-plus t.entries (entered_in t s.words) (one_at entry) ∙ omega (arith, sum-below-one t.entries entry 1 low)

  fresh-after-enter : v.loads ≡ [] → IsFresh start after.words w
  fresh-after-enter idle =
      let t = start.network.table in
      let f = kept.rule.fresh id v here in
      let was : load_bound t s.words v.loads ≡ clients_in t s.words = ap (load_bound t s.words) idle in
      fresh-idle start after.words w idle (omega (arith, f.own, one_more-came, length_push v.entries entry))
      (omega (arith, f.seen, one_more-came))
      (names_below v.grants (base start) (load_bound t s.words v.loads) (clients_in t after.words) (omega (arith, one_more-came)) f.names)

  kept-after-enter : v.loads ≡ [] → HoldsAt start after
  kept-after-enter idle = record {
    began = kept.began;
    rule = record {
      words = length-set s.words (1 + entry) (get_or s.words (1 + entry) 0 + 1) ∙ kept.rule.words;
      lanes = lanes-raised s.words (1 + entry) (omega arith) kept.rule.lanes;
      sound = sound-enters start.network.table (ledger_of start.network.table start.words s.words s.views)
          (ledger_of start.network.table start.words after.words after.views) client entry came_in kept.rule.sound;
      reached = reached-by start (Enter client entry) (ledger_of start.network.table start.words s.words s.views)
          (ledger_of start.network.table start.words after.words after.views) kept.rule.reached came_in;
      entered = λ u l.
          let more = total-set (λ (x : View). times u x.entries) s.views id v w here in
          omega (
            arith,
            entered-raised start.network.table s.words kept.rule.words entry low u,
            kept.rule.entered u l,
            times-last u entry v.entries,
          );
      accounted = each-set (IsAccounted start.network) s.views id w kept.rule.accounted
          (accounted-after-enter start.network token client entry v low inside (kept.rule.accounted id v here));
      fresh = each-set (IsFresh start after.words) s.views id w
          (λ i x e. fresh-grown start s.words after.words x risen (kept.rule.fresh i x e)) (fresh-after-enter idle);
      quotas =
          let more = total-set (λ (x : View). x.quota + length x.entries) s.views id v w here in
          omega (arith, length_push v.entries entry, kept.rule.quotas);
    };
  }

  pub adds-enter : v.loads ≡ [] → Adds start s id (1 + entry) 1 w (λ l m. Enters start.network.table l m client entry)
  adds-enter idle = record { kept = kept-after-enter idle; happened = came_in }

-- a client may come in
pub lets-in : (start : Start) (slots id : ℕ) (me : Me (Unit {0}) View) (is : Coming) (token client entry : ℕ)
    → is ≡ record { start = start; token = token; client = client; entry = entry } → me.1 ≡ [] → me.0.loads ≡ []
    → me.0.start ≡ start → entry < start.network.table.entries → length me.0.tokens ≡ length start.network.table.ends → 0 < me.0.quota
    → Allows (HoldsAt start) slots id me (1 + entry) (λ n. (n + 1) % 2 ^ 64) (λ n new. (new.1 ≡ []) × ComesIn is me.0 new.0)
lets-in start slots id me is token client entry by no_slot idle of low wires some_quota = rw by (λ s kept homes here fits.
    let inside : entry < length me.0.tokens = omega (arith, wires, kept.began.network.formed.wires, low) in
    let w : View = after_enter token client entry me.0 in
    let all = adds-step start s id (1 + entry) 1 me.0 (λ l m. Enters start.network.table l m client entry) here w kept
    (omega (arith, kept.rule.words, low)) (λ r k. entry-few start r k entry low)
    (adds-enter start id token client entry me.0 s kept here of low inside some_quota idle) in
    (w, keeps, tt, all.kept, (no_slot, (refl, all.step))))

-- The rule is kept where clients of a list come in by one step.

-- one after the other
module _ (start : Start) (id entry : ℕ) (clients : List ℕ) (low : entry < start.network.table.entries) where
  abbrev t : Table
  t = start.network.table

  -- so many of them come in, from a place on
  all-enter : (n place : ℕ) (s : FloorState) (v : View) → HoldsAt start s → get_elem? s.views id ≡ some v → v.start ≡ start
      → entry < length v.tokens → n ≤ v.quota → v.loads ≡ []
      → Adds start s id (1 + entry) n (after_enters clients entry place n v) (EnterInTurn t clients entry place n)
  unfolding after_enters EnterInTurn
  all-enter zero place s v kept here of inside enough idle =
      let same = added-none s id (1 + entry) v here in
      record { kept = subst (HoldsAt start) same kept; happened = ap (ledger_at start) same }
  all-enter (suc n) place s v kept here of inside enough idle =
      let client : ℕ = slice_index clients place in
      let then : View = after_enter place client entry v in
      let one = adds-enter start id place client entry v s kept here of low inside (omega (arith, enough)) idle in
      let next : FloorState = added s id (1 + entry) 1 then in
      let long : length then.tokens ≡ length v.tokens =
      length-map-range_with_len (λ u. on v.tokens u ++ last_on place client entry u) 0 (length v.tokens) in
      let later = all-enter n (suc place) next then one.kept (get-here s.views id v then here) of (omega (arith, inside, long))
      (omega (arith, enough)) idle in
      let same = added-more s id (1 + entry) n then (after_enters clients entry (suc place) n then) (omega (arith, kept.rule.words, low)) in
      record {
        kept = subst (HoldsAt start) same later.kept;
        happened = (
          ledger_at start next,
          one.happened,
          subst (λ (r : FloorState). EnterInTurn t clients entry (suc place) n (ledger_at start next) (ledger_at start r)) same
              later.happened,
        );
      }

-- all may come in, by one add of their number
pub lets-all-in : (start : Start) (slots id : ℕ) (me : Me (Unit {0}) View) (is : EnteringAll) (clients : List ℕ) (entry count : ℕ)
    → is ≡ record { start = start; clients = clients; entry = entry }
    → me.1 ≡ [] → me.0.loads ≡ [] → me.0.start ≡ start → entry < start.network.table.entries
    → length me.0.tokens ≡ length start.network.table.ends → count ≤ me.0.quota → length clients ≡ count
    → Allows (HoldsAt start) slots id me (1 + entry) (λ n. (n + count) % 2 ^ 64) (λ n new. (new.1 ≡ []) × AllComeIn is me.0 new.0)
lets-all-in start slots id me is clients entry count by no_slot idle of low wires enough many = rw (by, ← many) (λ s kept homes here fits.
    let inside : entry < length me.0.tokens = omega (arith, wires, kept.began.network.formed.wires, low) in
    let n : ℕ = length clients in
    let w : View = after_enter_all clients entry me.0 in
    let event = EnterInTurn start.network.table clients entry 0 n in
    let all = adds-step start s id (1 + entry) n me.0 event here w kept (omega (arith, kept.rule.words, low))
    (λ r k. entry-few start r k entry low)
    (adds-counted start s id (1 + entry) n me.0 event here (after_enters clients entry 0 n me.0) (me.0.steps + 1)
    (all-enter start id entry clients low n 0 s me.0 kept here of inside (omega (arith, enough, many)) idle)) in
    (w, keeps, tt, all.kept, (no_slot, (refl, all.step))))
