-- The words of a floor, where one of them rises, and its ledger, on which that is one event.
use Rattle.cn_floor.proofs.Common.{◌≡◌, ◌≢◌, ℕ, zero, suc, ◌+◌, ◌<◌, ◌≤◌, cond, eqb, ltb, List, [], ◌∷◌, length, get_or, set, refl, ap, ◌∙◌, arith, Balancer, End, Exit, Stands, Table, count_in, end_word, entered_in, lt-ltb, when, word_count, nat_tests, is_end, one_at, one_more-at, ◌*◌, ◌-◌, ◌%◌, ◌&&◌, on, sum_by, sym, subst, Grant, IsThere, Ledger, Start, View, after_enter, after_step, base, end_of, get_elem?, given_in, granted_in, ledger_of, name_of, on_in, output_wire, some, standing_in, sum_by_push, Enters, Goes, Leaves, Passes, Passage}
use Rattle.cn_floor.proofs.Lists.{ones, weigh-come, weigh-leave, weigh-pass}
use Rattle.cn_floor.proofs.InStates.Totals.{total-set}

-- The words of a floor, where one of them rises.

pub end-there : (t : Table) (end : End) → Stands t end → end_word t end < word_count t
end-there t (Balancer b) h = omega arith
end-there t (Exit i) h = omega arith

-- the words, of which that at place i is one more
abbrev pub raised : List ℕ → ℕ → List ℕ
raised words i = set words i (get_or words i 0 + 1)

-- the lanes' word is no other
pub lanes-raised : (words : List ℕ) (i : ℕ) → 1 ≤ i → get_or words 0 0 ≡ 0 → get_or (raised words i) 0 0 ≡ 0
lanes-raised [] i high none = none
lanes-raised (w ∷ ws) zero high none = absurd (omega arith)
lanes-raised (w ∷ ws) (suc i) high none = none

pub one-end : (t : Table) (end : End) → 1 ≤ end_word t end
one-end t (Balancer b) = omega arith
one-end t (Exit i) = omega arith

module _ (t : Table) (words : List ℕ) (long : length words ≡ word_count t) where
  -- a guarded word
  guarded : (i j : ℕ) (n x y : ℕ) → i < length words → (x < n → j ≡ i → x ≡ y) → (x ≡ y → j ≡ i) → y < n
      → when (ltb x n) (get_or (raised words i) j 0) ≡ when (ltb x n) (get_or words j 0) + when (eqb x y) 1
  guarded i j n x y inside distinct same low = let one = one_more-at words i j inside in grind (arith, nat_tests)

  -- a word of others
  unguarded : (i j n x : ℕ) → i < length words → (x < n → j ≢ i)
      → when (ltb x n) (get_or (raised words i) j 0) ≡ when (ltb x n) (get_or words j 0)
  unguarded i j n x inside distinct = let one = one_more-at words i j inside in grind (arith, nat_tests)

  -- an end's word rises
  pub count-raised : (end other : End) → Stands t end
      → count_in t (raised words (end_word t end)) other ≡ count_in t words other + when (is_end end other) 1
  count-raised (Balancer b) (Balancer c) h = guarded _ _ _ _ _ (omega (arith, long)) (λ l e. omega arith) (λ e. omega arith) h
  count-raised (Balancer b) (Exit j) h = unguarded _ _ _ _ (omega (arith, long)) (λ l e. omega arith) ∙ omega arith
  count-raised (Exit i) (Balancer c) h = unguarded _ _ _ _ (omega (arith, long)) (λ l e. omega arith) ∙ omega arith
  count-raised (Exit i) (Exit j) h = guarded _ _ _ _ _ (omega (arith, long)) (λ l e. omega arith) (λ e. omega arith) h

  pub entered-kept : (end : End) → Stands t end → (u : ℕ) → entered_in t (raised words (end_word t end)) u ≡ entered_in t words u
  entered-kept (Balancer b) h u = unguarded _ _ _ _ (omega (arith, long)) (λ l e. omega arith)
  entered-kept (Exit i) h u = unguarded _ _ _ _ (omega (arith, long)) (λ l e. omega arith)

  -- an entry's word rises
  pub entered-raised : (entry : ℕ) → entry < t.entries → (u : ℕ)
      → entered_in t (raised words (1 + entry)) u ≡ entered_in t words u + one_at entry u
  entered-raised entry h u =
      guarded (1 + entry) (1 + u) t.entries u entry (omega (arith, long)) (λ l e. omega arith) (λ e. omega arith) h
      ∙ ap (λ b. entered_in t words u + cond b 1 0) (turn u entry)
    where
      turn : (a b : ℕ) → eqb a b ≡ eqb b a
      turn a b = grind (arith, nat_tests)

  pub count-kept : (entry : ℕ) → entry < t.entries → (other : End) → count_in t (raised words (1 + entry)) other ≡ count_in t words other
  count-kept entry h (Balancer b) = unguarded _ _ _ _ (omega (arith, long)) (λ l e. omega arith)
  count-kept entry h (Exit i) = unguarded _ _ _ _ (omega (arith, long)) (λ l e. omega arith)

-- the count of an end is its word
pub count-word : (t : Table) (words : List ℕ) (end : End) → Stands t end → count_in t words end ≡ get_or words (end_word t end) 0
count-word t words (Balancer b) h = rw (lt-ltb b t.balancers h) refl
count-word t words (Exit i) h = rw (lt-ltb i t.width h) refl

pub entered-word : (t : Table) (words : List ℕ) (entry : ℕ) → entry < t.entries → entered_in t words entry ≡ get_or words (1 + entry) 0
entered-word t words entry h = rw (lt-ltb entry t.entries h) refl

-- ---- one view

-- 1 for a client on a wire
there-once : (u w c d : ℕ) → when (eqb u w) (cond (eqb c d) 1 0) ≡ when (eqb u w && eqb c d) 1
there-once u w c d = grind (arith, nat_tests)

each-once : (u w k : ℕ) → when (eqb u w) k ≡ one_at u w * k
each-once u w k = grind (arith, nat_tests)

each-turned : (c d k : ℕ) → when (eqb c d) k ≡ k * cond (eqb c d) 1 0
each-turned c d k = grind (arith, nat_tests)

module _ (token client entry : ℕ) (v : View) (inside : entry < length v.tokens) where
  pub on-after-enter : (w : ℕ) → on_in w (after_enter token client entry v) ≡ on_in w v + one_at entry w
  on-after-enter w =
      let a = weigh-come v.tokens token client entry inside w (λ _. 1) in
      omega (arith, ones (get_or v.tokens w []), ones (get_or (after_enter token client entry v).tokens w []))

  pub given-after-enter : (end : End) (n : ℕ) → given_in end n (after_enter token client entry v) ≡ given_in end n v
  given-after-enter (Balancer b) n = refl
  given-after-enter (Exit i) n = refl

-- on which wire a token is put that goes by an end with number n
abbrev pub onto : ℕ → View → End → ℕ → ℕ
onto n v (Balancer b) = one_at (output_wire v.start.network.table b (n % 2))
onto n v (Exit i) = λ _. 0

-- that wire is there
abbrev pub Lands : ℕ → View → End → Type 0
Lands n v (Balancer b) = output_wire v.start.network.table b (n % 2) < length v.tokens
Lands n v (Exit i) = Unit {0}

module _ (token client wire n : ℕ) (v : View) (is : IsThere v.tokens token client wire) where
  -- however the tokens are weighed
  weigh-step : (end : End) → Lands n v end → (w : ℕ) (f : ℕ × ℕ → ℕ)
      → sum_by f (on (after_step token client end n v).tokens w) + when (eqb wire w) (f (token, client))
      ≡ sum_by f (on v.tokens w) + onto n v end w * f (token, client)
  weigh-step (Balancer b) lands w f =
      let out : ℕ = output_wire v.start.network.table b (n % 2) in
      omega (arith, weigh-pass v.tokens token client wire out is lands w f, each-once out w (f (token, client)))
  weigh-step (Exit i) lands w f = omega (arith, weigh-leave v.tokens token client wire is w f)

  pub on-after_step : (end : End) → Lands n v end → (w : ℕ)
      → on_in w (after_step token client end n v) + one_at wire w ≡ on_in w v + onto n v end w
  on-after_step end lands w = omega (
    arith,
    weigh-step end lands w (λ _. 1),
    ones (on v.tokens w),
    ones (on (after_step token client end n v).tokens w),
  )

  standing-after_step : (end : End) → Lands n v end → (w d : ℕ)
      → standing_in w d (after_step token client end n v) + when (eqb wire w && eqb client d) 1
      ≡ standing_in w d v + when (eqb client d) (onto n v end w)
  standing-after_step end lands w d = omega (
    arith,
    weigh-step end lands w (λ e. cond (eqb e.1 d) 1 0),
    there-once wire w client d,
    each-turned client d (onto n v end w),
  )

  pub given-after_step : (end other : End) (k : ℕ)
      → given_in other k (after_step token client end n v) ≡ given_in other k v + when (is_end end other && eqb n k) 1
  given-after_step (Balancer b) (Balancer c) k =
      sum_by_push (λ (p : Passage). cond (eqb c p.balancer && eqb p.number k) 1 0) v.passages (record { balancer = b; number = n })
  given-after_step (Balancer b) (Exit j) k = omega arith
  given-after_step (Exit i) (Balancer c) k = omega arith
  given-after_step (Exit i) (Exit j) k =
      sum_by_push (λ (g : Grant). cond (eqb j g.exit && eqb g.visit k) 1 0) v.grants
      (record { client = client; exit = i; visit = n; name = name_of v.start.network.table.width i n - base v.start })

-- ---- the ledger

module _ (start : Start) (words : List ℕ) (views : List View) (id : ℕ) (v : View) (long : length words ≡ word_count start.network.table)
    (here : get_elem? views id ≡ some v) (of : v.start ≡ start) where
  abbrev t : Table
  t = start.network.table

  abbrev was : Ledger
  was = ledger_of t start.words words views

  -- a client comes in
  pub enters : (token client entry : ℕ) → entry < t.entries → entry < length v.tokens
      → Enters t was (ledger_of t start.words (raised words (1 + entry)) (set views id (after_enter token client entry v))) client entry
  enters token client entry low inside =
      let w : View = after_enter token client entry v in record {
        inside = low;
        entered = entered-raised t words long entry low;
        count = count-kept t words long entry low;
        on = λ x. omega (arith, total-set (on_in x) views id v w here, on-after-enter token client entry v inside x);
        standing = λ x d. omega (
          arith,
          total-set (standing_in x d) views id v w here,
          weigh-come v.tokens token client entry inside x (λ e. cond (eqb e.1 d) 1 0),
          there-once entry x client d,
        );
        given = λ end k. omega (arith, total-set (given_in end k) views id v w here, given-after-enter token client entry v inside end k);
        granted = λ d i k name. omega (arith, total-set (granted_in (base start) d i k name) views id v w here);
      }

  -- a client goes by the end of its wire
  pub goes : (token client wire : ℕ) (end : End) → IsThere v.tokens token client wire → wire < length t.ends → end_of t wire ≡ end
      → Stands t end
      → Lands (count_in t words end) v end
      → Goes t was (ledger_of t start.words (raised words (end_word t end))
      (set views id (after_step token client end (count_in t words end) v))) client wire end (onto (count_in t words end) v end)
  goes token client wire end is inside ends stands lands =
      let n : ℕ = count_in t words end in
      let w : View = after_step token client end n v in record {
        inside = inside;
        ends = ends;
        entered = entered-kept t words long end stands;
        count = λ other. count-raised t words long end other stands;
        on = λ x. omega (arith, total-set (on_in x) views id v w here, on-after_step token client wire n v is end lands x);
        standing = λ x d. omega (
          arith,
          total-set (standing_in x d) views id v w here,
          standing-after_step token client wire n v is end lands x d,
        );
        given = λ other k. omega (
          arith,
          total-set (given_in other k) views id v w here,
          given-after_step token client wire n v is end other k,
        );
      }

  -- a client passes a balancer
  pub passes : (token client wire b : ℕ) → IsThere v.tokens token client wire → wire < length t.ends → end_of t wire ≡ Balancer b
      → b < t.balancers
      → output_wire t b (count_in t words (Balancer b) % 2) < length v.tokens
      → Passes t was (ledger_of t start.words (raised words (end_word t (Balancer b)))
      (set views id (after_step token client (Balancer b) (count_in t words (Balancer b)) v))) client wire b
  passes token client wire b is inside ends stands lands =
      let n : ℕ = count_in t words (Balancer b) in
      let w : View = after_step token client (Balancer b) n v in
      let table : v.start.network.table ≡ t = ap (λ (s : Start). s.network.table) of in record {
        goes =
            subst (λ (x : Table). Goes t was (ledger_of t start.words (raised words (end_word t (Balancer b))) (set views id w)) client wire
            (Balancer b) (one_at (output_wire x b (n % 2)))) table
            (goes token client wire (Balancer b) is inside ends stands
            (subst (λ (x : Table). output_wire x b (n % 2) < length v.tokens) (sym table) lands));
        granted = λ d i k name. omega (arith, total-set (granted_in (base start) d i k name) views id v w here);
      }

  -- a client leaves by an exit
  pub leaves : (token client wire i : ℕ) → IsThere v.tokens token client wire → wire < length t.ends → end_of t wire ≡ Exit i → i < t.width
      → base start ≤ name_of t.width i (count_in t words (Exit i))
      → Leaves t was (ledger_of t start.words (raised words (end_word t (Exit i)))
      (set views id (after_step token client (Exit i) (count_in t words (Exit i)) v))) client wire i
  leaves token client wire i is inside ends stands later =
      let n : ℕ = count_in t words (Exit i) in
      let w : View = after_step token client (Exit i) n v in
      let name_there : name_of v.start.network.table.width i n - base v.start + base start ≡ name_of t.width i n =
      ap (λ (s : Start). name_of s.network.table.width i n - base s + base start) of ∙ omega arith in
      record {
        goes = goes token client wire (Exit i) is inside ends stands tt;
        granted = λ d j k name.
            let more = sum_by_push (λ (g : Grant). cond
            (eqb g.client d && (eqb g.exit j && (eqb g.visit k && eqb (g.name + base start) name))) 1 0) v.grants
            (record { client = client; exit = i; visit = n; name = name_of v.start.network.table.width i n - base v.start }) in
            let same : ◌≡◌ {A = ℕ} (cond (eqb client d &&
            (eqb i j && (eqb n k && eqb (name_of v.start.network.table.width i n - base v.start + base start) name))) 1 0)
            (cond (eqb client d && (eqb i j && (eqb n k && eqb (name_of t.width i n) name))) 1 0) =
            ap {B = ℕ} (λ (x : ℕ). cond (eqb client d && (eqb i j && (eqb n k && eqb x name))) 1 0) name_there in
            omega (arith, total-set (granted_in (base start) d j k name) views id v w here, more, same);
      }
