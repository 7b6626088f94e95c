-- The clients of a quiet state, listed by the names that they hold.
use Rattle.cn_core.proofs.Common.{times-cons, ◌≡◌, ℕ, zero, suc, ◌+◌, ◌<◌, ◌≤◌, cond, nat_eq, List, [], ◌∷◌, length, get_or, map, refl, sym, ap, ap₂, subst, ◌∙◌, arith, zero-add, Some, inl, inr, nat_tests, IsCore, On, Position, State, Walking, count_by, eq-eqb, inside_in, position_in, positions, values_of, AllPairs, Contains, keys_of, get_or-map, length-map, sum_by-cons, Lists, Standing, IsRising, ListsByName, grants_in, Holds, Clients, position_by, is_inside, name_at, times_entered, ListsStateHolders, grants_of_clients, times}
use Rattle.cn_spec.proofs.CallerLemmas.{times-inside, times-member, times-order, times-outside, times-place}
use Rattle.std.specs.List.{range_with_len}
use Rattle.std.specs.List.Sorted.{IsPermutation}
use Rattle.std.proofs.lemmas.List.Elements.{Contains-get_or}
use Rattle.std.proofs.lemmas.List.FromFn.{get_or-range_with_len, length-range_with_len}
use Rattle.std.proofs.lemmas.List.Sorted.{Contains-permutation, IsPermutation-map, IsPermutation-sym, IsPermutation-trans, length_permutation, sum_by-IsPermutation}
use Rattle.cn_names.specs.declared.standing.Standing.TheVariants.{Holds as Named}
use Rattle.cn_core.proofs.Clientele.{placed}
use Rattle.cn_core.proofs.TightLemmas.{tight-state}
use Rattle.cn_core.proofs.StateLemmas.{count-cons}

-- ---- a rising order of consecutive numbers

-- a rising list in which each number stands as often as among the numbers from a on is those numbers
rising-is : (a : ℕ) (xs : List ℕ) → ((n : ℕ) → times n xs ≡ times n (range_with_len a (length xs)))
    → AllPairs (λ x y. x ≤ y) xs → xs ≡ range_with_len a (length xs)
rising-is a [] same rising = refl
rising-is a (x ∷ xs) same rising =
    let head : x ≡ a = grind (arith, below, above) in
    let rest = rising-is (a + 1) xs (λ n.
    let first = ap {B = ℕ} (λ m. cond (nat_eq m n) 1 0) head in
    omega (arith, same n, times-cons n x xs, times-cons n a (range_with_len (a + 1) (length xs))))
    (λ i j d before within. rising (suc i) (suc j) d (omega arith) (omega arith)) in
    ap₂ (λ y ys. y ∷ ys) head rest
  where
    least : (i : ℕ) → i < length (x ∷ xs) → x ≤ get_or (x ∷ xs) i 0
    least zero within = omega arith
    least (suc i) within = rising 0 (suc i) 0 (omega arith) within

    above : a < x → ⊥
    above more =
        let one = times-inside a a (suc (length xs)) (omega arith) (omega arith) in
        let (i, within, is) = times-place (x ∷ xs) a (omega (arith, same a)) in
        omega (arith, least i within)

    below : x < a → ⊥
    below less =
        let some = times-member (x ∷ xs) 0 (omega arith) in
        omega (arith, same x, times-outside x a (suc (length xs)) (inl less))

-- an order of the numbers below k that rises is 0, 1, 2 and so on
pub rising-each_below : (k : ℕ) (xs : List ℕ) → IsPermutation (range_with_len 0 k) xs → AllPairs (λ x y. x ≤ y) xs → xs ≡ range_with_len 0 k
rising-each_below k xs order rising =
    let len : length xs ≡ k = length_permutation (range_with_len 0 k) xs order ∙ length-range_with_len 0 k in
    rising-is 0 xs (λ n. rw len (times-order (range_with_len 0 k) xs n order)) rising ∙ ap (range_with_len 0) len

-- ---- the names that the table's clients hold

-- the table's grants are the state's
grants-of : (y : Lists) (names : List (ℕ × Standing)) → grants_of_clients (placed y names) ≡ grants_in names
grants-of y [] = refl
grants-of y ((client, Walking token) ∷ names) = grants-of y names
grants-of y ((client, Named name) ∷ names) = ap (λ grants. (name, client) ∷ grants) (grants-of y names)

-- where nobody is inside, the grants are those of all clients
keys-granted : (clients : List (ℕ × Position)) → count_by is_inside (values_of clients) ≡ 0
    → map (λ grant. grant.1) (grants_of_clients clients) ≡ keys_of clients
keys-granted [] none = refl
keys-granted ((client, On wire) ∷ clients) none =
    absurd (omega (arith, sum_by-cons (λ (p : Position). cond (is_inside p) 1 0) (On wire) (values_of clients)))
keys-granted ((client, Holds name) ∷ clients) none =
    ap (λ ks. client ∷ ks) (keys-granted clients
    (omega (arith, sum_by-cons (λ (p : Position). cond (is_inside p) 1 0) (Holds name) (values_of clients))))

-- a client stands among the keys as often as in the list
times-keys : (client : ℕ) (clients : List (ℕ × Position)) → count_by (nat_eq client) (keys_of clients) ≡ times_entered client clients
times-keys client [] = refl
times-keys client (e ∷ clients) =
    let key = count-cons (nat_eq client) e.0 (keys_of clients) in
    omega (arith, times-keys client clients, count-cons (λ x. nat_eq client x.0) e clients)

-- whoever is found is in the list
found-times : (client : ℕ) (clients : List (ℕ × Position)) (p : Position) → position_in clients client ≡ Some p
    → 1 ≤ times_entered client clients
found-times client [] p found = cc
found-times client (e ∷ clients) p found = grind (
  arith,
  nat_tests,
  found-times client clients p,
  count-cons (λ x. nat_eq client x.0) e clients,
)

-- a client that is in the list once is found behind another
found-later : (client : ℕ) (e : ℕ × Position) (clients : List (ℕ × Position)) (p : Position) → times_entered client (e ∷ clients) ≤ 1
    → (times_entered client clients ≤ 1 → position_in clients client ≡ Some p) → position_in (e ∷ clients) client ≡ Some p
found-later client e clients p once later = grind (
  arith,
  nat_tests,
  found-times client clients p,
  count-cons (λ x. nat_eq client x.0) e clients,
)

-- a grant of the table is the position of its client
holder-found : (y : Lists) (names : List (ℕ × Standing)) (name client : ℕ) → times_entered client (placed y names) ≤ 1
    → Contains (grants_in names) (name, client) → position_in (placed y names) client ≡ Some (Holds name)
holder-found y [] name client once (k, within, is) = absurd (omega arith)
holder-found y ((c, Walking token) ∷ names) name client once has =
    found-later client (c, position_by y (Walking token)) (placed y names) (Holds name) once
    (λ once. holder-found y names name client once has)
holder-found y ((c, Named n) ∷ names) name client once (zero, within, is) =
    let its : c ≡ client = ap (λ (g : ℕ × ℕ). g.1) is in
    let name_is : n ≡ name = ap (λ (g : ℕ × ℕ). g.0) is in
    rw (its, name_is, eq-eqb client client refl) refl
holder-found y ((c, Named n) ∷ names) name client once (suc k, within, is) =
    found-later client (c, Holds n) (placed y names) (Holds name) once (λ once. holder-found y names name client once (k, omega arith, is))

-- the names of grants that rise
names-rise : (grants : List (ℕ × ℕ)) → IsRising grants → AllPairs (λ x y. x ≤ y) (map (λ grant. grant.0) grants)
names-rise grants rising i j d before within =
    let f = λ (grant : ℕ × ℕ). grant.0 in
    let there : j < length grants = omega (arith, length-map grants f) in
    let at = get_or-map f grants i (0, 0) d (omega arith) in
    let to = get_or-map f grants j (0, 0) d there in
    let order : (get_or grants i (0, 0)).0 ≤ (get_or grants j (0, 0)).0 =
    elim (rising i j (0, 0) before there) [ inl less ↦ omega arith | inr (same, clients) ↦ omega arith ] in
    omega arith

pub holders-listed : (s : State) (c : Clients) (holders : List ℕ) → s.clients ≡ positions c → IsCore s → inside_in s ≡ 0
    → ListsByName c.names holders → ListsStateHolders s holders
holders-listed s c holders clients is none l = record { all = all; by_name = by_name; own = own; once = once }
  where
    k : ℕ
    k = length s.clients

    f : ℕ × ℕ → ℕ
    f = λ (grant : ℕ × ℕ). grant.0

    same : grants_of_clients s.clients ≡ grants_in c.names
    same = ap grants_of_clients clients ∙ grants-of c.yard.lists c.names

    own : IsPermutation (keys_of s.clients) holders
    own =
        let keys : map (λ (grant : ℕ × ℕ). grant.1) (grants_in c.names) ≡ keys_of s.clients =
        ap (map (λ (grant : ℕ × ℕ). grant.1)) (sym same) ∙ keys-granted s.clients none in
        rw l.listed (subst (λ (ks : List ℕ). IsPermutation ks (map (λ (grant : ℕ × ℕ). grant.1) l.grants)) keys
        (IsPermutation-map (λ (grant : ℕ × ℕ). grant.1) (grants_in c.names) l.grants l.all))

    once : (client : ℕ) → count_by (nat_eq client) holders ≤ 1
    once client =
        omega (
          arith,
          sum_by-IsPermutation (λ (k : ℕ). cond (nat_eq client k) 1 0) (keys_of s.clients) holders own,
          times-keys client s.clients,
          is.state.once client,
        )

    order : IsPermutation (range_with_len 0 k) (map f l.grants)
    order =
        let names : map f (grants_of_clients s.clients) ≡ map f (grants_in c.names) = ap (map f) same in
        IsPermutation-trans _ _ _ (rw names at (tight-state s is none).tight.names) (IsPermutation-map f (grants_in c.names) l.grants l.all)

    names-are : map f l.grants ≡ range_with_len 0 k
    names-are = rising-each_below k (map f l.grants) order (names-rise l.grants l.rising)

    len : length l.grants ≡ k
    len = sym (length-map l.grants f) ∙ ap length names-are ∙ length-range_with_len 0 k

    all : length holders ≡ k
    all = ap length l.listed ∙ length-map l.grants (λ grant. grant.1) ∙ len

    by_name : (name : ℕ) → name < k → name_at (position_in s.clients (get_or holders name 0)) ≡ Some name
    by_name name below =
        let there : name < length l.grants = omega (arith, len) in
        let grant = get_or l.grants name (0, 0) in
        let its : grant.0 ≡ name = sym (get_or-map f l.grants name (0, 0) 0 there) ∙ ap (λ ns. get_or ns name 0) names-are
        ∙ get_or-range_with_len 0 k name 0 below ∙ zero-add name in
        let who : get_or holders name 0 ≡ grant.1 =
        ap (λ hs. get_or hs name 0) l.listed ∙ get_or-map (λ (g : ℕ × ℕ). g.1) l.grants name (0, 0) 0 there in
        let has = Contains-permutation l.grants (grants_in c.names) grant (IsPermutation-sym (grants_in c.names) l.grants l.all)
        (Contains-get_or l.grants name (0, 0) there) in
        let found = holder-found c.yard.lists c.names grant.0 grant.1
        (subst (λ cs. times_entered grant.1 cs ≤ 1) clients (is.state.once grant.1)) has in
        rw (who, clients, found, its) refl
