-- Where nobody is inside, the names of a floor are tight, and its words can be carried.
use Rattle.cn_floor.proofs.Common.{◌≡◌, ◌≢◌, ℕ, ◌+◌, ◌<◌, ◌≤◌, ◌&&◌, inl, inr, Bool, true, eqb, ltb, List, [], length, get_or, sym, refl, arith, Balancer, End, Exit, HoldsAt, IsClosed, IsSound, IsStart, Ledger, Stands, Start, State, Table, View, WordsValue, cases_lt, count_in, eq-eqb, le-ltb, ledger_of, lt-ltb, name_of, sum-below-zero, when, word_count, eqb-true, ltb-true, is_end, sum_at, IsTight, put, AreTight, NobodyInside, IsCarried, once-in, total-where-agree, tight, nat_tests}

-- ---- the ledger of words without lanes

both-there : (p q r : Bool) → 1 ≤ when (p && (q && r)) 1 → (p ≡ true) × (q ≡ true) × (r ≡ true)
both-there p q r h = grind arith

no_more : (p q r : Bool) → when (p && (q && r)) 1 ≤ when q 1
no_more p q r = grind arith

not_both : (c d : ℕ) → c ≢ d → (q r s : Bool) → when (eqb 0 c && (q && r)) 1 + when (eqb 0 d && (q && s)) 1 ≤ when q 1
not_both c d differ q r s = grind (arith, nat_tests)

-- where they balance, they may be carried
module _ (t : Table) (words : List ℕ) where
  abbrev by-words : Ledger
  by-words = ledger_of t words words []

  pub by-words-sound : ((end : End) → Stands t end → by-words.count end + sum_at t end by-words.on ≡ sum_at t end (put t by-words))
      → IsSound t by-words
  by-words-sound balanced = record {
    balanced = balanced;
    clients = λ u. (0, λ k h. sum-below-zero k (λ _. 0) (λ _. refl));
    numbered = λ end n h. omega arith;
    named = λ c i v name g.
        let has = both-there (eqb 0 c) (ltb v (count_in t words (Exit i))) (eqb (name_of t.width i v) name) (omega (arith, g)) in
        (exit-there i (omega (arith, ltb-true v (count_in t words (Exit i)) has.1)), sym (eqb-true (name_of t.width i v) name has.2));
    once = λ c i v name. omega (arith, no_more (eqb 0 c) (ltb v (count_in t words (Exit i))) (eqb (name_of t.width i v) name));
    distinct = λ c d i v differ. omega (
      arith,
      not_both c d differ (ltb v (count_in t words (Exit i))) (eqb (name_of t.width i v) (name_of t.width i v))
          (eqb (name_of t.width i v) (name_of t.width i v)),
    );
    owned = λ i v h g.
        let below : v < count_in t words (Exit i) = once-in (count_in t words (Exit i)) v (omega (arith, g)) in (
          0,
          let one : ◌≡◌ {A = ℕ} (when (eqb 0 0 && (ltb v (count_in t words (Exit i)) && eqb (name_of t.width i v) (name_of t.width i v))) 1)
              1 =
              rw (lt-ltb v (count_in t words (Exit i)) below, eq-eqb (name_of t.width i v) (name_of t.width i v) refl) refl in
              omega arith,
        );
  }
    where
      exit-there : (i : ℕ) → 1 ≤ count_in t words (Exit i) → i < t.width
      exit-there i h = elim (cases_lt i t.width) [
        | inl l ↦ l
        | inr l ↦ let none : count_in t words (Exit i) ≡ 0 = rw (le-ltb i t.width l) refl in absurd (omega arith)
      ]

-- ---- the end of a floor

module _ (start : Start) (began : IsStart start) where
  abbrev t : Table
  t = start.network.table

  -- what came before is tight
  pub tight-before : IsTight t (ledger_of t start.words start.words [])
  tight-before =
      let net = began.network in
      tight t net.formed net.counts (ledger_of t start.words start.words []) began.carried.sound (λ u l. refl)

  module _ (words : List ℕ) (views : List View) (sound : IsSound t (ledger_of t start.words words views))
      (nobody : NobodyInside start views) where
    pub tight-after : IsTight t (ledger_of t start.words words views)
    tight-after =
        let net = began.network in
        tight t net.formed net.counts (ledger_of t start.words words views) sound nobody

    -- another floor may begin with the words
    pub carried-after : length words ≡ word_count t → get_or words 0 0 ≡ 0 → IsCarried t words
    carried-after long none = record {
      words = long;
      lanes = none;
      sound = by-words-sound t words (λ e h.
          let now : Ledger = ledger_of t start.words words views in
          let is = sound.balanced e h in
          let none = total-where-agree (is_end e) t.ends (Balancer 0) now.on (λ _. 0) (λ u l x. nobody u l) in
          omega (arith, is, none));
    }

-- closed words are tight
pub closed-tight : (w : WordsValue) → IsClosed w → AreTight w
closed-tight w is =
    let t = w.network.table in
    tight t is.network.formed is.network.counts (ledger_of t w.words w.words []) is.carried.sound (λ u l. refl)

pub ended : (start : Start) (s : State (Unit {0}) View) → HoldsAt start s → NobodyInside start s.views
    → IsTight start.network.table (ledger_of start.network.table start.words s.words s.views)
ended start s kept nobody = tight-after start kept.began s.words s.views kept.rule.sound nobody
