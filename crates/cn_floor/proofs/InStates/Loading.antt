-- A load keeps the rule, and the last one gives the answer.
use Rattle.cn_floor.proofs.Common.{◌≡◌, ℕ, ◌+◌, ◌-◌, ◌≤◌, ◌<◌, Bool, true, false, List, [], ◌∷◌, ◌++◌, length, get_or, set, sum, sym, refl, ap, ◌∙◌, subst, ⊎_elim, arith, Allows, HoldsAt, IsAnswer, IsFresh, Me, Start, StoodInState, Table, View, base, cases_lt, entered_in, eq-eqb, eqb, keeps, length_push, ne_eqb, set-get_or, sum_by_push, IsLoad, Loads, after_load, after_load_by}
use Rattle.cn_floor.proofs.InStates.Bounds.{few-came}
use Rattle.cn_floor.proofs.InStates.Fresh.{fresh-load, load-says}
use Rattle.cn_floor.proofs.InStates.Kept.{Recounted, kept-recounted}
use Rattle.cn_floor.proofs.InStates.Ledgers.{entered-word}
use Rattle.cn_floor.proofs.InStates.Totals.{get-here}

recounted : (b : Bool) (start : Start) (ls : List ℕ) (v : View) → Recounted v (after_load_by b start ls v)
recounted true start ls v = refl
recounted false start ls v = refl

-- a load of the next entry's word
pub loads : (start : Start) (slots id : ℕ) (me : Me (Unit {0}) View) (is : Start) (entry : ℕ) → is ≡ start → me.1 ≡ []
    → length me.0.loads ≡ entry → entry < start.network.table.entries
    → Allows (HoldsAt start) slots id me (1 + entry) (λ n. n) (λ n new. (new.1 ≡ []) × Loads is me.0 n new.0)
loads start slots id me is entry same no_slot next less s kept homes at fits =
    let t : Table = start.network.table in
    let v : View = me.0 in
    let n : ℕ = get_or s.words (1 + entry) 0 in
    let w : View = after_load start n v in
    let f = kept.rule.fresh id v at in
    let word : entered_in t s.words (length v.loads) ≡ n = ap (entered_in t s.words) next ∙ entered-word t s.words entry less in
    let (fresh, says) = subst (λ (k : ℕ). IsFresh start s.words (after_load start k v) × IsLoad start v k) word
    (fresh-load start s.words v f, load-says start s.words v f (omega arith) (few-came start s kept)) in
    let counts = recounted (eqb (length v.loads + 1) t.entries) start (v.loads ++ n ∷ []) v in
    let after = kept-recounted start s id v w at counts kept fresh in (
      w,
      keeps,
      tt,
      subst (λ (x : List ℕ). HoldsAt start (record s { words = x; views = set s.views id w })) (sym (set-get_or s.words (1 + entry) 0))
          after,
      (
        no_slot,
        subst (λ (z : Start). Loads z v n w) (sym same)
            (refl, says, (record s { views = set s.views id w }, record { id = id; here = get-here s.views id v w at; kept = after.rule })),
      ),
    )

-- after k loads that found total together
pub record Loaded (start : Start) (was : View) (k total : ℕ) (v : View) : Type 0 where
  pub few : total ≤ base start + start.quota
  pub on_way : k < start.network.table.entries
      → (v ≡ record was { loads = v.loads; steps = was.steps + k }) × (length v.loads ≡ k) × (total ≡ sum v.loads)
  pub at_end : k ≡ start.network.table.entries
      → (v ≡ record was { seen = total - base start; loads = []; steps = was.steps + k }) × (base start ≤ total)
      × IsAnswer start was (total - base start)
  pub in_state : k ≡ start.network.table.entries → StoodInState start v

answer-as : (start : Start) (was v : View) (ls : List ℕ) (n k m : ℕ) → v ≡ record was { loads = ls; steps = n } → k ≡ m → IsAnswer start v k
    → IsAnswer start was m
answer-as start was v ls n k m is same a =
    let b = subst (λ (x : View × ℕ). IsAnswer start x.0 x.1) (λ i. (is i, same i)) a in
    record { own = b.own; seen = b.seen; names = b.names; quota = b.quota }

pub loaded-next : (start : Start) (was : View) (k total n : ℕ) (v w : View) → k < start.network.table.entries → Loaded start was k total v
    → Loads start v n w → Loaded start was (k + 1) (total + n) w
loaded-next start was k total n v w less mid (is, load, in_state) =
    let t : Table = start.network.table in
    let on = mid.on_way less in
    let ls : List ℕ = v.loads ++ n ∷ [] in
    let size : length ls ≡ length v.loads + 1 = length_push v.loads n in
    let one : was.steps + k + 1 ≡ was.steps + (k + 1) = omega arith in
    let more : total + n ≡ sum ls = omega (arith, on.2, sum_by_push (λ (y : ℕ). y) v.loads n) in
    ⊎_elim
    (λ low.
    let e : w ≡ after_load_by false start ls v =
    is ∙ ap (λ (b : Bool). after_load_by b start ls v) (ne_eqb (length v.loads + 1) t.entries (λ h. omega (arith, on.1))) in
    subst (λ (x : View). Loaded start was (k + 1) (total + n) x) (sym e) record {
      few = omega (arith, load.few);
      on_way = λ _. (
        ap (λ (x : View). record x { loads = ls; steps = x.steps + 1 }) on.0
            ∙ ap (λ (n : ℕ). record was { loads = ls; steps = n }) one,
        omega (arith, on.1),
        more,
      );
      at_end = λ h. absurd (omega arith);
      in_state = λ h. absurd (omega arith);
    })
    (λ high.
    let last : length v.loads + 1 ≡ t.entries = omega (arith, on.1) in
    let e : w ≡ after_load_by true start ls v =
    is ∙ ap (λ (b : Bool). after_load_by b start ls v) (eq-eqb (length v.loads + 1) t.entries last) in
    let end = load.last last in
    subst (λ (x : View). Loaded start was (k + 1) (total + n) x) (sym e) record {
      few = omega (arith, load.few);
      on_way = λ h. absurd (omega arith);
      at_end = λ _. (
        (λ i. record (on.0 i) { seen = sym more i - base start; loads = []; steps = (on.0 i).steps + 1 })
            ∙ ap (λ (m : ℕ). record was { seen = total + n - base start; loads = []; steps = m }) one,
        omega (arith, end.0),
        answer-as start was v v.loads (was.steps + k) (sum ls - base start) (total + n - base start) on.0 (λ i. sym more i - base start)
            end.1,
      );
      in_state = λ _. subst (λ (x : View). StoodInState start x) e in_state;
    })
    (cases_lt (k + 1) t.entries)

-- before the first
pub loaded-none : (start : Start) (was : View) → was.loads ≡ [] → 1 ≤ start.network.table.entries → Loaded start was 0 0 was
loaded-none start was idle more =
    let none : was.steps ≡ was.steps + 0 = omega arith in
    record {
      few = omega arith;
      on_way = λ _. (
        ap (λ (n : ℕ). record was { loads = was.loads; steps = n }) none,
        ap (λ (ls : List ℕ). length ls) idle,
        sym (ap (λ (ls : List ℕ). sum ls) idle),
      );
      at_end = λ h. absurd (omega arith);
      in_state = λ h. absurd (omega arith);
    }
