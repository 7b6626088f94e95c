-- A record is taken off its line.
use Rattle.cn_yard.proofs.Common.{◌≡◌, ◌≢◌, ℕ, ◌<◌, ◌≤◌, inl, inr, true, false, cond, eqb, List, [], ◌∷◌, length, set, refl, sym, ap, ◌∙◌, arith, subst, ◌||◌, Line, Record, but, cases_eq, count_of, line_of, nat_tests, next_of, no_line, prev_of, times, times-nil, wire_of, cases_Bool, get_or-set_other, get_or-set_same, length-set, Chain, head_or, last_or, Ends, IsOff, Linked, line_without, IsLink, times-cons}
use Rattle.cn_yard.proofs.Chains.{but-cons, but-head, but-out, chain-but, chain-but-last, chain-same, last-but, last-in, last-left, length-but, next-in, prev-in, tail_of, times-but}

-- ---- what is left of one line, with its links n and p

module _ (n p : ℕ → ℕ) where
  -- the first of those that are left, where the first is taken
  head-left : (t x : ℕ) (xs : List ℕ) → Chain n p (x ∷ xs) → x ≡ t → times t (x ∷ xs) ≡ 1 → head_or (n t) (but t (x ∷ xs)) ≡ n t
  unfolding Chain
  head-left t x [] c h one = let gone : but t (x ∷ []) ≡ [] = grind (arith, nat_tests) in rw gone refl
  head-left t x (y ∷ ys) c h one =
      let m = times-cons t x (y ∷ ys) in
      let out = but-out t (y ∷ ys) (grind (arith, nat_tests)) in
      let gone : but t (x ∷ y ∷ ys) ≡ but t (y ∷ ys) = grind (arith, nat_tests) in
      rw (gone, out) (sym c.0.0 ∙ ap n h)

  -- the last of those that are left, where the last is taken
  tail-left : (t x : ℕ) (xs : List ℕ) → Chain n p (x ∷ xs) → times t (x ∷ xs) ≡ 1 → last_or x xs ≡ t
      → last_or (p t) (but t (x ∷ xs)) ≡ p t
  unfolding last_or
  tail-left t x [] c one h = let gone : but t (x ∷ []) ≡ [] = grind (arith, nat_tests) in rw gone refl
  tail-left t x (y ∷ ys) c one h =
      let in' : 1 ≤ times t (y ∷ ys) = subst (λ (k : ℕ). 1 ≤ times k (y ∷ ys)) h (last-in y ys) in
      let m = times-cons t x (y ∷ ys) in
      let left : but t (x ∷ y ∷ ys) ≡ x ∷ but t (y ∷ ys) = grind (arith, nat_tests) in
      rw left (last-left n p t x (y ∷ ys) c (omega arith) h (omega arith))

  -- the ends
  pub ends-but : (line : Line) (t : ℕ) (xs : List ℕ) → Ends line xs → Chain n p xs → times t xs ≡ 1
      → Ends (line_without line t (p t) (n t)) (but t xs)
  unfolding last_or
  ends-but line t [] e c one = absurd (omega (arith, times-nil t))
  ends-but line t (x ∷ xs) e c one =
      record {
        count = let l = length-but t (x ∷ xs) in let k = e.count in omega arith;
        first = elim (cases_eq x t) [
          | inl h ↦ let at = e.first in let f : eqb line.first t ≡ true = grind (arith, nat_tests) in rw f (head-left t x xs c h one)
          | inr o ↦ let at = e.first in let f : eqb line.first t ≡ false = grind (arith, nat_tests) in rw (f, but-cons t x xs o) at
        ];
        last = elim (cases_eq line.last t) [
          | inl h ↦ let f : eqb line.last t ≡ true = grind (arith, nat_tests) in rw f (tail-left t x xs c one (e.last ∙ h))
          | inr o ↦ let f : eqb line.last t ≡ false = grind (arith, nat_tests) in
              rw f (last-but t line.last (x ∷ xs) (λ k. o (sym e.last ∙ k)) ∙ e.last)
        ];
      }

  -- the links, where it was at an end
  pub chain-end : (line : Line) (t : ℕ) (xs : List ℕ) → Ends line xs → Chain n p xs → times t xs ≡ 1
      → (eqb line.first t || eqb line.last t) ≡ true → Chain n p (but t xs)
  unfolding Chain
  chain-end line t [] e c one end = absurd (omega (arith, times-nil t))
  chain-end line t (x ∷ xs) e c one end =
      elim (cases_eq x t) [
        | inl h ↦ rw h (rw (but-head t xs (rw h at (let k : times t (x ∷ xs) ≤ 1 = omega arith in k))) c.1)
        | inr o ↦ let at = e.first in let l : line.last ≡ t = grind (arith, nat_tests) in
            chain-but-last n p t line.last (x ∷ xs) c (e.last ∙ l) (omega arith)
      ]

  -- its neighbours, where it was not
  pub neighbours : (line : Line) (t : ℕ) (xs : List ℕ) → Ends line xs → Chain n p xs → times t xs ≡ 1
      → (eqb line.first t || eqb line.last t) ≡ false → (1 ≤ times (p t) xs) × (1 ≤ times (n t) xs)
  neighbours line t [] e c one end = absurd (omega (arith, times-nil t))
  neighbours line t (x ∷ xs) e c one end =
      let at = e.first in
      let m = times-cons t x xs in
      let o : x ≢ t = λ h. absurd (grind (arith, nat_tests)) in (
        prev-in n p t x xs c (grind (arith, nat_tests)),
        next-in n p t line.last (x ∷ xs) c (omega arith) (λ h. absurd (let k = sym e.last ∙ h in grind (arith, nat_tests))),
      )

-- the links, where its neighbours were tied
pub chain-mid : (n p n' p' : ℕ → ℕ) (line : Line) (t : ℕ) (xs : List ℕ) → Ends line xs → Chain n p xs → times t xs ≡ 1
    → ((z : ℕ) → times z xs ≤ 1) → (eqb line.first t || eqb line.last t) ≡ false
    → ((z : ℕ) → n' z ≡ cond (eqb z (p t)) (n t) (n z)) → ((z : ℕ) → p' z ≡ cond (eqb z (n t)) (p t) (p z))
    → Chain n' p' (but t xs)
unfolding last_or
chain-mid n p n' p' line t [] e c one once end a b = absurd (omega (arith, times-nil t))
chain-mid n p n' p' line t (x ∷ xs) e c one once end a b =
    let at = e.first in
    let m = times-cons t x xs in
    let o : x ≢ t = λ h. absurd (grind (arith, nat_tests)) in
    rw (but-cons t x xs o) (chain-but n p n' p' t x xs c (grind (arith, nat_tests))
    (λ h. absurd (let k = sym e.last ∙ h in grind (arith, nat_tests))) once a b)

-- ---- all lines

-- what stands behind the first stands in the list
pub in-tail : (z : ℕ) (xs : List ℕ) → 1 ≤ times z (tail_of xs) → 1 ≤ times z xs
in-tail z [] h = h
in-tail z (x ∷ xs) h = omega (arith, times-cons z x xs)

-- one of a line's neighbours is on no other line
pub once-at : (records : List Record) (lines : List Line) (order : ℕ → List ℕ) → Linked records lines order → (z u w : ℕ)
    → u < length lines → w < length lines → 1 ≤ times z (order u) → 1 ≤ times z (order w) → u ≡ w
once-at records lines order l z u w hu hw a b =
    let k = l.once z u hu in let m = l.once z w hw in grind (arith, nat_tests)

-- no number stands on a line twice
pub one-line : (records : List Record) (lines : List Line) (order : ℕ → List ℕ) → Linked records lines order → (u : ℕ)
    → u < length lines → (z : ℕ) → times z (order u) ≤ 1
one-line records lines order l u h z = let k = l.once z u h in grind (arith, nat_tests)

-- what is needed of the code
pub record Unlinks (records : List Record) (lines : List Line) (records' : List Record) (lines' : List Line) (t : ℕ) : Type 0 where
  pub at_end : (eqb (line_of lines (wire_of records t)).first t || eqb (line_of lines (wire_of records t)).last t) ≡ true
      → records' ≡ records
  pub between : (eqb (line_of lines (wire_of records t)).first t || eqb (line_of lines (wire_of records t)).last t) ≡ false
      → IsLink records records' (prev_of records t) (next_of records t)
  pub lines_are : lines' ≡ set lines (wire_of records t)
      (line_without (line_of lines (wire_of records t)) t (prev_of records t) (next_of records t))

-- then the records but the links, and the counts, are as stated
pub off-kept : {records records' : List Record} {lines lines' : List Line} {t : ℕ}
    → wire_of records t < length lines → 1 ≤ count_of lines (wire_of records t)
    → Unlinks records lines records' lines' t → IsOff records lines records' lines' t
off-kept {records} {records'} {lines} {lines'} {t} h some un =
    let w = wire_of records t in
    let new = line_without (line_of lines w) t (prev_of records t) (next_of records t) in
    let which = cases_Bool (eqb (line_of lines w).first t || eqb (line_of lines w).last t) in
    let same = ap (λ (x : Line). x.count) (get_or-set_same lines w new no_line h) in
    record {
      len = elim which [ inl e ↦ ap length (un.at_end e) | inr e ↦ (un.between e).len ];
      as_many = rw un.lines_are (length-set lines w new);
      wire = λ z. elim which [ inl e ↦ rw (un.at_end e) refl | inr e ↦ (un.between e).wire z ];
      client = λ z. elim which [ inl e ↦ rw (un.at_end e) refl | inr e ↦ (un.between e).client z ];
      count = λ u. let other : u ≢ w → count_of (set lines w new) u ≡ count_of lines u =
          λ o. ap (λ (x : Line). x.count) (get_or-set_other lines w u new no_line o) in
          rw un.lines_are (grind (arith, nat_tests));
    }

-- and the lines run through the lists without the number
pub off-linked : {records records' : List Record} {lines lines' : List Line} {order : ℕ → List ℕ} {t : ℕ}
    → Linked records lines order → wire_of records t < length lines → times t (order (wire_of records t)) ≡ 1
    → Unlinks records lines records' lines' t → IsOff records lines records' lines' t
    → Linked records' lines' (λ u. but t (order u))
off-linked {records} {records'} {lines} {lines'} {order} {t} l h one un kept =
    let w = wire_of records t in
    let n = next_of records in
    let p = prev_of records in
    let new = line_without (line_of lines w) t (p t) (n t) in
    let which = cases_Bool (eqb (line_of lines w).first t || eqb (line_of lines w).last t) in
    record {
      chain = λ u within.
          let hu : u < length lines = rw kept.as_many at within in
          elim (cases_eq u w) [
            | inl e ↦ rw e (elim which [
              | inl end ↦ rw (un.at_end end) (chain-end n p (line_of lines w) t (order w) (l.ends w h) (l.chain w h) one end)
              | inr mid ↦ chain-mid n p (next_of records') (prev_of records') (line_of lines w) t (order w) (l.ends w h) (l.chain w h) one
                  (one-line records lines order l w h) mid (un.between mid).next (un.between mid).prev
            ])
            | inr o ↦
                let k = l.once t u hu in
                let none : times t (order u) ≡ 0 = grind (arith, nat_tests) in
                rw (but-out t (order u) none) (elim which [
                  | inl end ↦ rw (un.at_end end) (l.chain u hu)
                  | inr mid ↦
                      let near = neighbours n p (line_of lines w) t (order w) (l.ends w h) (l.chain w h) one mid in
                      chain-same n p (next_of records') (prev_of records') (order u) (l.chain u hu)
                      (λ z in'. let a = (un.between mid).next z in
                      let q : z ≢ p t = λ e. absurd (o (once-at records lines order l z u w hu h in' (rw e near.0))) in
                      grind (arith, nat_tests))
                      (λ z in'. let a = (un.between mid).prev z in
                      let q : z ≢ n t = λ e. absurd (o (once-at records lines order l z u w hu h (in-tail z (order u) in')
                      (rw e near.1))) in grind (arith, nat_tests))
                ])
          ];
      ends = λ u within.
          let hu : u < length lines = rw kept.as_many at within in
          rw un.lines_are (elim (cases_eq u w) [
            | inl e ↦ rw e (rw (get_or-set_same lines w new no_line h)
                (ends-but n p (line_of lines w) t (order w) (l.ends w h) (l.chain w h) one))
            | inr o ↦
                let k = l.once t u hu in
                let none : times t (order u) ≡ 0 = grind (arith, nat_tests) in
                rw (get_or-set_other lines w u new no_line o, but-out t (order u) none) (l.ends u hu)
          ]);
      once = λ z u within.
          let hu : u < length lines = rw kept.as_many at within in
          let k = l.once z u hu in
          rw (kept.wire z) (let m = times-but z t (order u) in grind (arith, nat_tests));
      below = λ z u within some.
          let hu : u < length lines = rw kept.as_many at within in
          rw kept.len (l.below z u hu (let m = times-but z t (order u) in grind (arith, nat_tests)));
    }

-- a line on which a number stands has a record
times-le : (t : ℕ) (xs : List ℕ) → times t xs ≤ length xs
times-le t xs = omega (arith, length-but t xs)

pub some-there : {records : List Record} {lines : List Line} {order : ℕ → List ℕ} → Linked records lines order
    → (t u : ℕ) → u < length lines → 1 ≤ times t (order u) → 1 ≤ count_of lines u
some-there {records} {lines} {order} l t u h some = omega (arith, (l.ends u h).count, times-le t (order u))

-- the neighbours of a record that is at neither end are records
pub near-below : {records : List Record} {lines : List Line} {order : ℕ → List ℕ} → Linked records lines order → (t : ℕ)
    → wire_of records t < length lines → times t (order (wire_of records t)) ≡ 1
    → (eqb (line_of lines (wire_of records t)).first t || eqb (line_of lines (wire_of records t)).last t) ≡ false
    → (prev_of records t < length records) × (next_of records t < length records)
near-below {records} {lines} {order} l t h one mid =
    let w = wire_of records t in
    let near = neighbours (next_of records) (prev_of records) (line_of lines w) t (order w) (l.ends w h) (l.chain w h) one mid in
    (l.below (prev_of records t) w h near.0, l.below (next_of records t) w h near.1)
