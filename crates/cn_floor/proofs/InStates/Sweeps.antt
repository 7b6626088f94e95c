-- The rule is kept by a sweep: by as many events in turn as tokens go.
use Rattle.cn_floor.proofs.Common.{◌≡◌, ℕ, ◌+◌, ◌*◌, ◌%◌, ◌^◌, ◌<◌, ◌≤◌, cond, List, [], ◌∷◌, ◌++◌, length, get_or, sym, refl, ap, ◌∙◌, arith, subst, append-nil, Allows, Balancer, End, Exit, HoldsAt, IsThere, IsWellFormed, LeadsOn, Me, Stands, Start, Table, View, after_step, after_sweep, count_in, end_of, end_word, get_elem?, keeps, last_on, ledger_at, length-map-range_with_len, ne_eqb, on, output_wire, some, times_in, without, mod_below, first-there, once-gone, once-moved, rest-on, AllGoOn, FloorState, GoInTurn, Sweeping, after_steps}
use Rattle.cn_floor.proofs.Lists.{lists-after-on, lists_after}
use Rattle.cn_floor.proofs.InStates.Kept.{Adds, added, added-more, added-none, adds-counted, adds-step}
use Rattle.cn_floor.proofs.InStates.Bounds.{end-few, names-late, sole}
use Rattle.cn_floor.proofs.InStates.Ledgers.{count-raised, count-word, end-there}
use Rattle.cn_floor.proofs.InStates.Steps.{adds-step-on, end-self, step-keeps}
use Rattle.cn_floor.proofs.InStates.Totals.{get-here}

-- ---- the tokens of a wire, one after the other

module _ (start : Start) (wire : ℕ) (end : End) (formed : IsWellFormed start.network.table) (low : wire < length start.network.table.ends)
    (ends : end_of start.network.table wire ≡ end) (stands : Stands start.network.table end) where
  abbrev t : Table
  t = start.network.table

  -- these tokens stand on the wire and may go
  pub record MayGo (v : View) (tokens : List (ℕ × ℕ)) : Type 0 where
    pub on_wire : on v.tokens wire ≡ tokens
    pub once : (k : ℕ) → times_in v.tokens k ≤ 1
    pub wires : length v.tokens ≡ length t.ends
    pub of : v.start ≡ start

  pub goes-there : (v : View) (token client : ℕ) (rest : List (ℕ × ℕ)) → MayGo v ((token, client) ∷ rest)
      → IsThere v.tokens token client wire
  goes-there v token client rest may = first-there v.tokens token client wire rest may.once (omega (arith, low, may.wires)) may.on_wire

  -- once the first has gone
  pub rest-may : (n : ℕ) (v : View) (token client : ℕ) (rest : List (ℕ × ℕ)) → MayGo v ((token, client) ∷ rest)
      → MayGo (after_step token client end n v) rest
  rest-may n v token client rest may = by end refl
    where
      inside : wire < length v.tokens
      inside = omega (arith, low, may.wires)

      by : (e : End) → end ≡ e → MayGo (after_step token client e n v) rest
      by (Balancer b) is =
          let to : ℕ = output_wire v.start.network.table b (n % 2) in
          let same : to ≡ output_wire t b (n % 2) = ap (λ (s : Start). output_wire s.network.table b (n % 2)) may.of in
          let two = mod_below n 2 (omega arith) in
          let forward : wire < t.entries + 2 * b = subst (LeadsOn t wire) (ends ∙ is) (formed.forward wire low) in
          let there : b < t.balancers = subst (Stands t) is stands in
          let lands : to < length v.tokens = omega (arith, same, there, formed.wires, may.wires) in
          let lists = lists-after-on v.tokens token (last_on token client to)
          (λ u past. rw (ne_eqb to u (λ e. omega (arith, e, past, lands))) refl) in
          let long = length-map-range_with_len (λ u. without token (on v.tokens u) ++ last_on token client to u) 0 (length v.tokens) in
          let none : last_on token client to wire ≡ [] = rw (ne_eqb to wire (λ e. omega (arith, e, same, forward))) refl in
          record {
            on_wire = lists wire ∙ (λ i. rest-on v.tokens token client wire rest may.once inside may.on_wire i ++ none i) ∙ append-nil rest;
            once = λ k. once-moved v.tokens token client wire rest may.once inside may.on_wire
                (after_step token client (Balancer b) n v).tokens long k to lands lists;
            wires = long ∙ may.wires;
            of = may.of;
          }
      by (Exit i) is =
          let lists : (u : ℕ) → on (lists_after token (λ _. []) v.tokens) u ≡ without token (on v.tokens u) =
          λ u. lists-after-on v.tokens token (λ _. []) (λ _ _. refl) u ∙ append-nil (without token (on v.tokens u)) in
          let long = length-map-range_with_len (λ u. without token (on v.tokens u) ++ []) 0 (length v.tokens) in
          record {
            on_wire = lists wire ∙ rest-on v.tokens token client wire rest may.once inside may.on_wire;
            once = λ k. once-gone v.tokens token client wire rest may.once inside may.on_wire (after_step token client (Exit i) n v).tokens
                long k lists;
            wires = long ∙ may.wires;
            of = may.of;
          }

  module _ (id : ℕ) where
    -- these tokens go by one after the other
    all-after-steps : (tokens : List (ℕ × ℕ)) (s : FloorState) (v : View) (n : ℕ) → HoldsAt start s
        → get_elem? s.views id ≡ some v → MayGo v tokens → v.loads ≡ [] → count_in t s.words end ≡ n
        → Adds start s id (end_word t end) (length tokens) (after_steps end n tokens v) (GoInTurn t wire end n tokens)
    unfolding after_steps GoInTurn
    all-after-steps [] s v n kept here may idle count =
        let same = added-none s id (end_word t end) v here in
        record { kept = subst (HoldsAt start) same kept; happened = ap (ledger_at start) same }
    all-after-steps ((token, client) ∷ rest) s v n kept here may idle count =
        let word : ℕ = end_word t end in
        let then : View = after_step token client end n v in
        let goes = goes-there v token client rest may in
        let one = adds-step-on start id token client wire end v s kept here may.of goes may.wires ends stands idle n count in
        let next : FloorState = added s id word 1 then in
        let more : count_in t next.words end ≡ n + 1 =
        count-raised t s.words kept.rule.words end end stands ∙ ap (λ b. count_in t s.words end + cond b 1 0) (end-self end)
        ∙ ap (λ (k : ℕ). k + 1) count in
        let later = all-after-steps rest next then (n + 1) one.kept (get-here s.views id v then here) (rest-may n v token client rest may)
        ((step-keeps token client end n v).2 ∙ idle) more in
        let same = added-more s id word (length rest) then (after_steps end (n + 1) rest then)
        (omega (arith, kept.rule.words, end-there t end stands)) in
        record {
          kept = subst (HoldsAt start) same later.kept;
          happened = (
            ledger_at start next,
            one.happened,
            count,
            subst (λ (r : FloorState). GoInTurn t wire end (n + 1) rest (ledger_at start next) (ledger_at start r)) same later.happened,
          );
        }

-- the tokens of a wire may go on, by one add of their number
pub all_go-on : (start : Start) (slots id : ℕ) (me : Me (Unit {0}) View) (is : Sweeping) (wire : ℕ) (end : End) (count word : ℕ)
    → is ≡ record { start = start; wire = wire; end = end } → me.1 ≡ [] → me.0.loads ≡ [] → me.0.start ≡ start
    → ((k : ℕ) → times_in me.0.tokens k ≤ 1) → length me.0.tokens ≡ length start.network.table.ends → wire < length start.network.table.ends
    → length (on me.0.tokens wire) ≡ count → end_of start.network.table wire ≡ end → Stands start.network.table end
    → word ≡ end_word start.network.table end
    → Allows (HoldsAt start) slots id me word (λ n. (n + count) % 2 ^ 64) (λ n new. (new.1 ≡ []) × AllGoOn is me.0 n new.0)
all_go-on start slots id me is wire end count word by no_slot idle of once wires low many ends stands at =
    rw (by, ← many, at) (λ s kept homes here fits.
    let t : Table = start.network.table in
    let tokens : List (ℕ × ℕ) = on me.0.tokens wire in
    let n : ℕ = get_or s.words (end_word t end) 0 in
    let net = kept.began.network in
    let counted : count_in t s.words end ≡ n = count-word t s.words end stands in
    let event = GoInTurn t wire end n tokens in
    let w : View = after_sweep wire end n me.0 in
    let all = adds-step start s id (end_word t end) (length tokens) me.0 event here w kept
    (omega (arith, kept.rule.words, end-there t end stands)) (λ r k. end-few start r k end stands)
    (adds-counted start s id (end_word t end) (length tokens) me.0 event here (after_steps end n tokens me.0) (me.0.steps + 1)
    (all-after-steps start wire end net.formed low ends stands id tokens s me.0 n kept here
    (record { on_wire = refl; once = once; wires = wires; of = of }) idle counted)) in (
      w,
      keeps,
      tt,
      all.kept,
      (
        no_slot,
        (
          refl,
          record {
            step = all.step;
            few = all.few;
            late = names-late start s kept end stands n counted;
            sole = λ whole. sym counted ∙ sole start s kept id me.0 here whole end stands;
          },
        ),
      ),
    ))
