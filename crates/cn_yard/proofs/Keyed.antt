-- Lists of keys with values, as of tokens with their clients: look-ups, counts and sums where an entry is added or taken
-- out, and where one key's value changes.
use Rattle.cn_yard.proofs.Common.{◌≡◌, ◌≢◌, ℕ, ◌+◌, ◌≤◌, ◌&&◌, Bool, cond, nat_eq, eqb, List, [], ◌∷◌, ◌++◌, refl, arith, Some, None, count_by, last_on, lookup, nat_tests, without, set_value, values_of, when, cases_Bool, sum_by, sum_by-cons, ap, ◌∙◌}
use Rattle.std.proofs.lemmas.Map.Entries.{sum_by-set_value}
use Rattle.std.proofs.lemmas.List.{map_push}
use Rattle.std.proofs.lemmas.List.Sums.{sum_by_push}

-- a look-up after a new key
pub lookup-push : {X : Type 0} (es : List (ℕ × X)) (k : ℕ) (x : X) (q : ℕ)
    → lookup (nat_eq k) es ≡ None → lookup (nat_eq q) (es ++ (k, x) ∷ []) ≡ cond (nat_eq q k) (Some x) (lookup (nat_eq q) es)
lookup-push [] k x q absent = refl
lookup-push (e ∷ es) k x q absent = grind (arith, nat_tests, lookup-push es k x q)

-- a look-up after a change of one key's value
pub lookup-set : {X : Type 0} (es : List (ℕ × X)) (k : ℕ) (x y : X) (q : ℕ)
    → lookup (nat_eq k) es ≡ Some y → lookup (nat_eq q) (set_value (nat_eq k) es x) ≡ cond (nat_eq q k) (Some x) (lookup (nat_eq q) es)
lookup-set [] k x y q here = cc
lookup-set (e ∷ es) k x y q here = grind (arith, nat_tests, lookup-set es k x y q)

-- how often a key is there after a new one
pub times-push : {X : Type 0} (es : List (ℕ × X)) (k : ℕ) (x : X) (q : ℕ)
    → count_by (λ e. nat_eq q e.0) (es ++ (k, x) ∷ []) ≡ count_by (λ e. nat_eq q e.0) es + cond (nat_eq q k) 1 0
times-push es k x q = sum_by_push (λ e. cond (nat_eq q e.0) 1 0) es (k, x)

-- a key that is not found is not there
pub times-absent : {X : Type 0} (es : List (ℕ × X)) (k : ℕ) → lookup (nat_eq k) es ≡ None → count_by (λ e. nat_eq k e.0) es ≡ 0
times-absent [] k absent = refl
times-absent (e ∷ es) k absent = grind (arith, nat_tests, times-absent es k, sum_by-cons (λ y. cond (nat_eq k y.0) 1 0) e es)

-- a change of a key's value changes no keys
pub times-set : {X : Type 0} (es : List (ℕ × X)) (k : ℕ) (x : X) (q : ℕ)
    → count_by (λ e. nat_eq q e.0) (set_value (nat_eq k) es x) ≡ count_by (λ e. nat_eq q e.0) es
times-set [] k x q = refl
times-set (e ∷ es) k x q = grind (
  arith,
  nat_tests,
  times-set es k x q,
  sum_by-cons (λ y. cond (nat_eq q y.0) 1 0) (e.0, x) es,
  sum_by-cons (λ y. cond (nat_eq q y.0) 1 0) e (set_value (nat_eq k) es x),
  sum_by-cons (λ y. cond (nat_eq q y.0) 1 0) e es,
)

-- how many values pass after a new key
pub count-push : {X : Type 0} (p : X → Bool) (es : List (ℕ × X)) (k : ℕ) (x : X)
    → count_by p (values_of (es ++ (k, x) ∷ [])) ≡ count_by p (values_of es) + cond (p x) 1 0
count-push p es k x =
    ap (count_by p) (map_push (λ (e : ℕ × _). e.1) es (k, x)) ∙ sum_by_push (λ y. cond (p y) 1 0) (values_of es) x

-- how many values pass after a change of one key's value
pub count-set : {X : Type 0} (p : X → Bool) (es : List (ℕ × X)) (k : ℕ) (x y : X)
    → lookup (nat_eq k) es ≡ Some y
    → count_by p (values_of (set_value (nat_eq k) es x)) + cond (p y) 1 0 ≡ count_by p (values_of es) + cond (p x) 1 0
count-set p es k x y here = sum_by-set_value (λ z. cond (p z) 1 0) (nat_eq k) es y x here

-- ---- counts of entries, by key and value

-- a sum over the entries after a change of one key's value
pub sum_by-set : {X : Type 0} (f : ℕ × X → ℕ) (es : List (ℕ × X)) (k : ℕ) (x y : X)
    → lookup (nat_eq k) es ≡ Some y → sum_by f (set_value (nat_eq k) es x) + f (k, y) ≡ sum_by f es + f (k, x)
sum_by-set f [] k x y here = cc
sum_by-set f ((j, z) ∷ es) k x y here = grind (
  arith,
  nat_tests,
  sum_by-set f es k x y,
  sum_by-cons f (j, x) es,
  sum_by-cons f (j, z) es,
  sum_by-cons f (j, z) (set_value (nat_eq k) es x),
)

-- how many entries have this key and a value that passes, after a new key
pub count-pair-push : {X : Type 0} (p : X → Bool) (q : ℕ) (es : List (ℕ × X)) (k : ℕ) (x : X)
    → count_by (λ e. nat_eq q e.0 && p e.1) (es ++ (k, x) ∷ []) ≡ count_by (λ e. nat_eq q e.0 && p e.1) es + cond (nat_eq q k && p x) 1 0
count-pair-push p q es k x = sum_by_push (λ e. cond (nat_eq q e.0 && p e.1) 1 0) es (k, x)

-- the same after a change of one key's value
pub count-pair-set : {X : Type 0} (p : X → Bool) (q : ℕ) (es : List (ℕ × X)) (k : ℕ) (x y : X)
    → lookup (nat_eq k) es ≡ Some y
    → count_by (λ e. nat_eq q e.0 && p e.1) (set_value (nat_eq k) es x) + cond (nat_eq q k && p y) 1 0
    ≡ count_by (λ e. nat_eq q e.0 && p e.1) es + cond (nat_eq q k && p x) 1 0
count-pair-set p q es k x y here = sum_by-set (λ e. cond (nat_eq q e.0 && p e.1) 1 0) es k x y here

-- no more entries have a key and a value that passes than have the key
pub count-pair-le-times : {X : Type 0} (p : X → Bool) (q : ℕ) (es : List (ℕ × X))
    → count_by (λ e. nat_eq q e.0 && p e.1) es ≤ count_by (λ e. nat_eq q e.0) es
count-pair-le-times p q [] = omega arith
count-pair-le-times p q (e ∷ es) = grind (
  arith,
  nat_tests,
  cases_Bool (p e.1),
  count-pair-le-times p q es,
  sum_by-cons (λ y. cond (nat_eq q y.0 && p y.1) 1 0) e es,
  sum_by-cons (λ y. cond (nat_eq q y.0) 1 0) e es,
)

-- a key that is there once has an entry that passes exactly where its value does
pub count-pair-found : {X : Type 0} (p : X → Bool) (q : ℕ) (es : List (ℕ × X)) (x : X)
    → lookup (nat_eq q) es ≡ Some x → count_by (λ e. nat_eq q e.0) es ≤ 1 → count_by (λ e. nat_eq q e.0 && p e.1) es ≡ cond (p x) 1 0
count-pair-found p q [] x found few = cc
count-pair-found p q ((k, y) ∷ es) x found few = grind (
  arith,
  nat_tests,
  cases_Bool (p y),
  count-pair-found p q es x,
  count-pair-le-times p q es,
  sum_by-cons (λ e. cond (nat_eq q e.0 && p e.1) 1 0) (k, y) es,
  sum_by-cons (λ e. cond (nat_eq q e.0) 1 0) (k, y) es,
)

-- ---- tokens with their clients, where one comes last on a wire, and where one is taken out

pub lookup-last : (other token client wire u : ℕ) (es : List (ℕ × ℕ)) → other ≢ token
    → lookup (nat_eq other) (es ++ last_on token client wire u) ≡ lookup (nat_eq other) es
lookup-last other token client wire u [] n = grind (arith, nat_tests)
lookup-last other token client wire u (e ∷ es) n = grind (arith, nat_tests, lookup-last other token client wire u es n)

pub lookup-added : (token client wire u : ℕ) (es : List (ℕ × ℕ)) → lookup (nat_eq token) es ≡ None
    → lookup (nat_eq token) (es ++ last_on token client wire u) ≡ (cond (eqb wire u) (Some client) None)
lookup-added token client wire u [] none = grind (arith, nat_tests)
lookup-added token client wire u (e ∷ es) none = grind (arith, nat_tests, lookup-added token client wire u es)

pub lookup-without : (other token : ℕ) (es : List (ℕ × ℕ)) → other ≢ token
    → lookup (nat_eq other) (without token es) ≡ lookup (nat_eq other) es
lookup-without other token [] n = refl
lookup-without other token (e ∷ es) n = grind (arith, nat_tests, lookup-without other token es n)

pub lookup-gone : (token : ℕ) (es : List (ℕ × ℕ)) → lookup (nat_eq token) (without token es) ≡ None
lookup-gone token [] = refl
lookup-gone token (e ∷ es) = grind (arith, nat_tests, lookup-gone token es)

-- a token that is not in the list is not taken out of it
pub without-same : (token : ℕ) (es : List (ℕ × ℕ)) → count_by (λ e. nat_eq token e.0) es ≡ 0 → without token es ≡ es
without-same token [] none = refl
without-same token (e ∷ es) none =
    grind (arith, nat_tests, without-same token es, sum_by-cons (λ (x : ℕ × ℕ). cond (nat_eq token x.0) 1 0) e es)

pub without-none : (token : ℕ) (es : List (ℕ × ℕ)) (f : ℕ × ℕ → ℕ) → count_by (λ e. eqb token e.0) es ≡ 0
    → sum_by f (without token es) ≡ sum_by f es
without-none token es f none = ap (sum_by f) (without-same token es none)

-- a token that is there once is taken out
pub without-one : (token client : ℕ) (es : List (ℕ × ℕ)) (f : ℕ × ℕ → ℕ) → count_by (λ e. eqb token e.0) es ≤ 1
    → lookup (eqb token) es ≡ Some client
    → sum_by f (without token es) + f (token, client) ≡ sum_by f es
without-one token client [] f one found = cc
without-one token client ((k, c) ∷ es) f one found = grind (
  arith,
  nat_tests,
  without-one token client es f,
  without-none token es f,
  sum_by-cons (λ (x : ℕ × ℕ). cond (eqb token x.0) 1 0) (k, c) es,
  sum_by-cons f (k, c) (without token es),
  sum_by-cons f (k, c) es,
)

-- a token that is found is there
pub found-once : (token client : ℕ) (es : List (ℕ × ℕ)) → lookup (eqb token) es ≡ Some client → 1 ≤ count_by (λ e. eqb token e.0) es
found-once token client [] found = cc
found-once token client (e ∷ es) found =
    grind (arith, nat_tests, found-once token client es, sum_by-cons (λ (x : ℕ × ℕ). cond (eqb token x.0) 1 0) e es)

-- what who comes last on a wire adds to a sum
pub last_on-sum : (token client wire u : ℕ) (f : ℕ × ℕ → ℕ) → sum_by f (last_on token client wire u) ≡ when (eqb wire u) (f (token, client))
last_on-sum token client wire u f = grind (arith, nat_tests, sum_by-cons f (token, client) [])
