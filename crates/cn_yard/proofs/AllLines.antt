-- Records that are put on lines, and move from line to line.
use Rattle.cn_yard.proofs.Common.{◌≡◌, ◌≢◌, ℕ, zero, suc, ◌+◌, ◌<◌, ◌≤◌, inl, inr, Bool, true, false, cond, eqb, List, [], ◌∷◌, ◌++◌, length, set, refl, sym, ap, ◌∙◌, arith, subst, ◌⊎◌, Line, Record, cases_eq, count_of, line_of, nat_tests, next_of, no_line, prev_of, times, times-nil, wire_of, append-nil, get_or-set_other, get_or-set_same, length-append, length-set, times-cons, times-append, Chain, last_of, last_or, put_last, Ends, IsOn, Linked, OffLine, line_with, IsLink, IsPut, ltb, get_or, but, marked, get_or_append_left, length_push, sum_below, when, sum-below-part, sum-below-pick, sum-below-same, IsOff, no_record, HasMarks, IsAdded, IsLinks, IsMore, SameBut}
use Rattle.cn_yard.proofs.Chains.{chain-push, chain-same, last-in, last-push, length-but, times-but}
use Rattle.cn_yard.proofs.Unlinked.{in-tail, once-at, one-line}

-- A record is put last on a line.

-- the ends of a line that has one more
pub ends-push : (line : Line) (t : ℕ) (xs : List ℕ) → Ends line xs → Ends (line_with line t) (xs ++ t ∷ [])
unfolding last_or
ends-push line t [] e = let c = e.count in let f : eqb line.count 0 ≡ true = grind (arith, nat_tests) in
    record { count = omega arith; first = rw f refl; last = refl }
ends-push line t (x ∷ xs) e =
    let c = e.count in
    let f : eqb line.count 0 ≡ false = grind (arith, nat_tests) in
    record { count = omega (arith, length-append (x ∷ xs) (t ∷ [])); first = rw f e.first; last = last-push t x xs }

-- the last of a line on which any stands
pub last-there : (line : Line) (xs : List ℕ) → Ends line xs → 1 ≤ line.count → 1 ≤ times line.last xs
unfolding last_or
last-there line [] e some = absurd (let c = e.count in omega arith)
last-there line (x ∷ xs) e some = subst (λ (k : ℕ). 1 ≤ times k (x ∷ xs)) e.last (last-in x xs)

-- and so it is a record
pub last-below : (records : List Record) (lines : List Line) (order : ℕ → List ℕ) → Linked records lines order → (u : ℕ)
    → u < length lines → 1 ≤ count_of lines u → (line_of lines u).last < length records
last-below records lines order l u h some = l.below (line_of lines u).last u h (last-there (line_of lines u) (order u) (l.ends u h) some)

-- the links of a line that has one more
chain-on : (n p n' p' : ℕ → ℕ) (line : Line) (t : ℕ) (xs : List ℕ) → Ends line xs → Chain n p xs → times t xs ≡ 0
    → ((z : ℕ) → times z xs ≤ 1)
    → (1 ≤ line.count → ((z : ℕ) → n' z ≡ cond (eqb z line.last) t (n z)) × ((z : ℕ) → p' z ≡ cond (eqb z t) line.last (p z)))
    → Chain n' p' (xs ++ t ∷ [])
unfolding Chain last_or
chain-on n p n' p' line t [] e c none once links = (tt, tt)
chain-on n p n' p' line t (x ∷ xs) e c none once links =
    let some : 1 ≤ line.count = let k = e.count in omega arith in
    chain-push n p n' p' t x xs c none once (λ z. rw (e.last) ((links some).0 z)) (λ z. rw (e.last) ((links some).1 z))

-- how often a number stands in what is added at the end
pub times-last : (z t to u : ℕ) → times z (last_of t to u) ≡ cond (eqb to u) (cond (eqb z t) 1 0) 0
times-last z t to u = grind (arith, nat_tests, times-cons z t [], times-nil z)

-- what is needed of the code
pub record Appends (records : List Record) (lines : List Line) (mid : List Record) (records' : List Record) (lines' : List Line) (t to : ℕ)
    : Type 0 where
  pub first : count_of lines to ≡ 0 → mid ≡ records
  pub later : 1 ≤ count_of lines to → IsLink records mid (line_of lines to).last t
  pub records_are : IsPut mid records' t to
  pub lines_are : lines' ≡ set lines to (line_with (line_of lines to) t)

cases-zero : (n : ℕ) → (n ≡ 0) ⊎ (1 ≤ n)
cases-zero zero = inl refl
cases-zero (suc n) = inr (omega arith)

-- then the records but the links, and the counts, are as stated
pub on-kept : {records mid records' : List Record} {lines lines' : List Line} {t to : ℕ}
    → to < length lines → Appends records lines mid records' lines' t to → IsOn records lines records' lines' t to
on-kept {records} {mid} {records'} {lines} {lines'} {t} {to} h ap' =
    let new = line_with (line_of lines to) t in
    let which = cases-zero (count_of lines to) in
    let put = ap'.records_are in
    let same = ap (λ (x : Line). x.count) (get_or-set_same lines to new no_line h) in
    record {
      len = put.len ∙ elim which [ inl e ↦ ap length (ap'.first e) | inr e ↦ (ap'.later e).len ];
      as_many = rw ap'.lines_are (length-set lines to new);
      wire = λ z. put.wire z ∙ ap (λ (w : ℕ). cond (eqb z t) to w)
          (elim which [ inl e ↦ ap (λ r. wire_of r z) (ap'.first e) | inr e ↦ (ap'.later e).wire z ]);
      client = λ z. put.client z ∙ elim which [ inl e ↦ rw (ap'.first e) refl | inr e ↦ (ap'.later e).client z ];
      count = λ u. let other : u ≢ to → count_of (set lines to new) u ≡ count_of lines u =
          λ o. ap (λ (x : Line). x.count) (get_or-set_other lines to u new no_line o) in
          rw ap'.lines_are (grind (arith, nat_tests));
    }

-- and the lines run through the lists with the number at the end of one
pub on-linked : {records mid records' : List Record} {lines lines' : List Line} {order : ℕ → List ℕ} {t to : ℕ}
    → Linked records lines order → OffLine lines order t → t < length records → to < length lines
    → Appends records lines mid records' lines' t to → IsOn records lines records' lines' t to
    → Linked records' lines' (put_last order t to)
on-linked {records} {mid} {records'} {lines} {lines'} {order} {t} {to} l off ht h ap' kept =
    let new = line_with (line_of lines to) t in
    let which = cases-zero (count_of lines to) in
    let put = ap'.records_are in
    record {
      chain = λ u within.
          let hu : u < length lines = rw kept.as_many at within in
          elim (cases_eq to u) [
            | inl e ↦ let f : eqb to u ≡ true = grind (arith, nat_tests) in
                rw f (chain-on (next_of records) (prev_of records) (next_of records') (prev_of records') (line_of lines u) t (order u)
                (l.ends u hu) (l.chain u hu) (off u hu) (one-line records lines order l u hu)
                (subst (λ (v : ℕ). 1 ≤ count_of lines v →
                ((z : ℕ) → next_of records' z ≡ cond (eqb z (line_of lines v).last) t (next_of records z))
                × ((z : ℕ) → prev_of records' z ≡ cond (eqb z t) (line_of lines v).last (prev_of records z))) e
                (λ some. (λ z. put.next z ∙ (ap'.later some).next z, λ z. put.prev z ∙ (ap'.later some).prev z))))
            | inr o ↦ let f : eqb to u ≡ false = grind (arith, nat_tests) in
                rw (f, append-nil (order u)) (chain-same (next_of records) (prev_of records) (next_of records') (prev_of records') (order u)
                (l.chain u hu)
                (λ z in'. put.next z ∙ elim which [
                  | inl e ↦ rw (ap'.first e) refl
                  | inr some ↦ let a = (ap'.later some).next z in
                      let last = last-there (line_of lines to) (order to) (l.ends to h) some in
                      let q : z ≢ (line_of lines to).last = λ e. absurd (o (once-at records lines order l z to u h hu (rw e last) in')) in
                      grind (arith, nat_tests)
                ])
                (λ z in'. put.prev z ∙ elim which [
                  | inl e ↦ rw (ap'.first e) refl
                  | inr some ↦ let a = (ap'.later some).prev z in let none = off u hu in
                      let q : z ≢ t = λ e. absurd (let i = in-tail z (order u) in' in let j : 1 ≤ times t (order u) = rw e at i in
                      omega arith) in grind (arith, nat_tests)
                ]))
          ];
      ends = λ u within.
          let hu : u < length lines = rw kept.as_many at within in
          rw ap'.lines_are (elim (cases_eq to u) [
            | inl e ↦ let f : eqb to u ≡ true = grind (arith, nat_tests) in
                rw f (subst (λ (v : ℕ). Ends (line_of (set lines to new) v) (order v ++ t ∷ [])) e
                (rw (get_or-set_same lines to new no_line h) (ends-push (line_of lines to) t (order to) (l.ends to h))))
            | inr o ↦ let f : eqb to u ≡ false = grind (arith, nat_tests) in
                rw (f, get_or-set_other lines to u new no_line (λ k. o (sym k)), append-nil (order u)) (l.ends u hu)
          ]);
      once = λ z u within.
          let hu : u < length lines = rw kept.as_many at within in
          let k = l.once z u hu in
          let none = off u hu in
          let many = times-append z (order u) (last_of t to u) in
          let more = times-last z t to u in
          rw (kept.wire z) (grind (arith, nat_tests));
      below = λ z u within some.
          let hu : u < length lines = rw kept.as_many at within in
          let many = times-append z (order u) (last_of t to u) in
          let more = times-last z t to u in
          rw kept.len (grind (arith, nat_tests, l.below z u hu));
    }

-- ---- sums over the lines

-- one more at one place
sum-more : (n w : ℕ) (f g : ℕ → ℕ) → ((u : ℕ) → u < n → g u ≡ f u + cond (eqb u w) 1 0) → w < n
    → sum_below n g ≡ sum_below n f + 1
sum-more n w f g each h =
    let same = sum-below-same n g (λ u. when (eqb w u) 1 + f u) (λ u l. let here = each u l in grind (arith, nat_tests)) in
    omega (arith, same, sum-below-pick n w 1 f h)

-- no more stand on a line than there are records
pub count-le : {records : List Record} {lines : List Line} {order : ℕ → List ℕ} → IsLinks records lines order → (u : ℕ)
    → u < length lines → count_of lines u ≤ length records
count-le {records} {lines} {order} is u h =
    let p = sum-below-part (length lines) u (λ v. length (order v)) h in
    omega (arith, (is.linked.ends u h).count, is.all)

-- ---- all records but one are on their lines

-- each record but one is on the line that it names, once, and that one is on none
pub record ButOne (records : List Record) (lines : List Line) (order : ℕ → List ℕ) (t : ℕ) : Type 0 where
  pub linked : Linked records lines order
  pub off : OffLine lines order t
  pub within : (n : ℕ) → n < length records → n ≢ t → wire_of records n < length lines
  pub there : (n : ℕ) → n < length records → n ≢ t → times n (order (wire_of records n)) ≡ 1
  pub all : sum_below (length lines) (λ u. length (order u)) + 1 ≡ length records

-- a record is taken off its line
pub but-one : {records records' : List Record} {lines lines' : List Line} {order : ℕ → List ℕ} {t : ℕ}
    → IsLinks records lines order → t < length records
    → IsOff records lines records' lines' t → Linked records' lines' (λ u. but t (order u))
    → ButOne records' lines' (λ u. but t (order u)) t
but-one {records} {records'} {lines} {lines'} {order} {t} is h kept l =
    let w = wire_of records t in
    record {
      linked = l;
      off = λ u k. grind (arith, nat_tests, times-but t t (order u));
      within = λ n k o. rw (kept.wire n, kept.as_many) (is.within n (rw kept.len at k));
      there = λ n k o. rw (kept.wire n)
          (grind (arith, nat_tests, times-but n t (order (wire_of records n)), is.there n (rw kept.len at k)));
      all =
          let more = sum-more (length lines) w (λ u. length (but t (order u))) (λ u. length (order u))
          (λ u k. grind (arith, nat_tests, length-but t (order u), is.linked.once t u k, is.there t h)) (is.within t h) in
          let a = is.all in let len = kept.len in
          rw kept.as_many (omega arith);
    }

-- a record that is added is on no line
pub new-one : {records : List Record} {lines : List Line} {order : ℕ → List ℕ} (x : Record)
    → IsLinks records lines order → ButOne (records ++ x ∷ []) lines order (length records)
new-one {records} {lines} {order} x is =
    let many = length_push records x in
    let l = is.linked in
    record {
      linked = record {
        chain = λ u h. chain-same (next_of records) (prev_of records) (next_of (records ++ x ∷ [])) (prev_of (records ++ x ∷ [])) (order u)
            (l.chain u h)
            (λ z i. ap (λ (r : Record). r.next) (same z (l.below z u h i)))
            (λ z i. ap (λ (r : Record). r.prev) (same z (l.below z u h (in-tail z (order u) i))));
        ends = l.ends;
        once = λ n u h. grind (arith, nat_tests, l.once n u h, l.below n u h, wire n);
        below = λ n u h i. let b = l.below n u h i in omega arith;
      };
      off = λ u h. grind (arith, l.below (length records) u h);
      within = λ n k o. rw (wire n (omega arith)) (is.within n (omega arith));
      there = λ n k o. rw (wire n (omega arith)) (is.there n (omega arith));
      all = let a = is.all in omega arith;
    }
  where
    same : (n : ℕ) → n < length records → get_or (records ++ x ∷ []) n no_record ≡ get_or records n no_record
    same n h = get_or_append_left records (x ∷ []) no_record n h

    wire : (n : ℕ) → n < length records → wire_of (records ++ x ∷ []) n ≡ wire_of records n
    wire n h = ap (λ (r : Record). r.wire) (same n h)

-- and it is put last on one
pub but-none : {records records' : List Record} {lines lines' : List Line} {order : ℕ → List ℕ} {t to : ℕ}
    → ButOne records lines order t → to < length lines
    → IsOn records lines records' lines' t to → Linked records' lines' (put_last order t to)
    → IsLinks records' lines' (put_last order t to)
but-none {records} {records'} {lines} {lines'} {order} {t} {to} is h kept l =
    record {
      linked = l;
      within = λ n k. rw (kept.wire n, kept.as_many) (grind (arith, nat_tests, is.within n (rw kept.len at k)));
      there = λ n k. rw (kept.wire n) (let w = cond (eqb n t) to (wire_of records n) in
          let a = times-append n (order w) (last_of t to w) in
          grind (arith, nat_tests, times-last n t to w, is.off to h, is.there n (rw kept.len at k)));
      all =
          let more = sum-more (length lines) to (λ u. length (order u)) (λ u. length (put_last order t to u))
          (λ u k. grind (arith, nat_tests, length-append (order u) (last_of t to u))) h in
          let a = is.all in let len = kept.len in
          rw kept.as_many (omega arith);
    }

-- ---- marks

-- the marks are right again where one line has changed, and its mark with it
pub marks-one : (lines lines' : List Line) (words words' : List ℕ) (t : ℕ) (b : Bool) → HasMarks lines words
    → ((u : ℕ) → marked words' u ≡ cond (eqb u t) (when b 1) (marked words u))
    → length lines' ≡ length lines → ((u : ℕ) → u ≢ t → count_of lines' u ≡ count_of lines u) → b ≡ ltb 0 (count_of lines' t)
    → HasMarks lines' words'
marks-one lines lines' words words' t b has each as_many same e u h =
    grind (arith, nat_tests, each u, same u, has u (rw as_many at h))

-- ---- a record is added, and put last on a line

-- what is needed of the code: one record more, and then that it is put last
pub added : {records mid records' : List Record} {lines lines' : List Line} {order : ℕ → List ℕ} {t to : ℕ} (x : Record)
    → IsLinks records lines order → mid ≡ records ++ x ∷ [] → t ≡ length records → to < length lines
    → IsOn mid lines records' lines' t to
    → (Linked mid lines order → OffLine lines order t → Linked records' lines' (put_last order t to))
    → IsLinks records' lines' (put_last order (length records) to)
added {records} {mid} {records'} {lines} {lines'} {order} {t} {to} x is m n h kept linked =
    let one : ButOne mid lines order t = rw (m, n) (new-one x is) in
    rw (← n) (but-none one h kept (linked one.linked one.off))

pub added-kept : {records mid records' : List Record} {lines lines' : List Line} {t to : ℕ} (x : Record)
    → mid ≡ records ++ x ∷ [] → IsOn mid lines records' lines' t to → IsAdded records lines records' lines' to
added-kept {records} {mid} {records'} {lines} {lines'} {t} {to} x m kept = record {
  len = kept.len ∙ ap length m ∙ length_push records x;
  as_many = kept.as_many;
  client = λ n h. kept.client n ∙ rw m (ap (λ (r : Record). r.client) (get_or_append_left records (x ∷ []) no_record n h));
  count = kept.count;
}

-- one more is added than before
pub more-add : {a b c : List Record} {l m n : List Line} {to : ℕ}
    → IsMore a l b m to → IsAdded b m c n to → IsMore a l c n to
more-add {a} {b} {c} {l} {m} {n} {to} is added =
    let count : count_of n to ≡ count_of m to + 1 = let one = added.count to in grind (arith, nat_tests) in record {
      more = omega (arith, is.more, added.len);
      len = omega (arith, is.len, added.len);
      as_many = added.as_many ∙ is.as_many;
      client = λ k h. added.client k (omega (arith, is.more)) ∙ is.client k h;
    }

-- a number that comes to a line changes no other
pub same-put : (to t : ℕ) (order order' : ℕ → List ℕ) → SameBut to order order' → SameBut to order (put_last order' t to)
same-put to t order order' same u o =
    let f : eqb to u ≡ false = grind (arith, nat_tests) in
    rw (f, append-nil (order' u)) (same u o)
