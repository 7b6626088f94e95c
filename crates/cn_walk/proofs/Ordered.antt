-- Clients who are named one by one in a lane that has the whole quota: they get the next names in their order.
use Rattle.cn_walk.proofs.Common.{◌≡◌, ℕ, add-one, ◌+◌, ◌<◌, ◌≤◌, List, [], ◌∷◌, ◌++◌, length, get_or, map, take, refl, sym, ap, subst, arith, append-nil, append_assoc, length-append, length-map, map-append, take_more, IsEachBelow, Client, tokens_in, Grant, Start, View, FloorValue, LaneValue, IsNamed, ending-at, GrantsInOrder, IsSole}
use Rattle.std.specs.List.{range_with_len}
use Rattle.std.proofs.lemmas.List.Sorted.{sum_by-IsPermutation}
use Rattle.std.proofs.lemmas.List.Sums.{sum_by_push}
use Rattle.cn_spec.proofs.CallerLemmas.{range_more}
use Rattle.cn_floor.specs.Rule.{IsStart}
use Rattle.cn_floor.specs.Steps.{StoodInState}

-- ---- one after the other

pub none-in-order : (a : LaneValue) → GrantsInOrder a a []
none-in-order a = ([], sym (append-nil a.view.grants), record { clients_are = refl; names_are = refl })

-- the next client of a list gets the next name
pub next-in-list : (a b c : LaneValue) (i : ℕ) (d : Client) (xs : List Client) → i < length xs → GrantsInOrder a b (take i xs)
    → GrantsInOrder b c (record { id = (get_or xs i d).id; entry = (get_or xs i d).entry } ∷ []) → GrantsInOrder a c (take (i + 1) xs)
next-in-list a b c i d xs l (more, grants, is) (later, grants2, is2) =
    let many = ap length is.clients_are in
    let same = simp length-map at many in
    let next : length b.view.grants ≡ length a.view.grants + length (take i xs) = rw (grants, length-append, same) in
    rw (take_more xs i d l) (
      more ++ later,
      rw (grants2, grants, append_assoc),
      record {
        clients_are = simp (map-append, is.clients_are, is2.clients_are);
        names_are = rw (map-append, is.names_are, is2.names_are, next, length-append, add-one, range_more);
      },
    )

-- ---- one client

-- the name that is new among those below m + 1, each once, is m
new-name : (m y : ℕ) (old : List ℕ) → IsEachBelow m old → IsEachBelow (m + 1) (old ++ y ∷ []) → y ≡ m
new-name m y old was is =
    let same : ℕ → ℕ = λ x. x in
    let before = sum_by-IsPermutation same (range_with_len 0 m) old was in
    let after = sum_by-IsPermutation same (range_with_len 0 (m + 1)) (old ++ y ∷ []) is in
    let next = sum_by_push same (range_with_len 0 m) (0 + m) in
    omega (arith, before, rw (add-one, range_more) at after, sum_by_push same old y)

-- a client that is named in a lane with the whole quota gets the next name
pub next-in-order : (start : Start) (a b : LaneValue) (client entry name : ℕ) → IsStart start → a.home.start ≡ start
    → IsNamed a b client entry name → tokens_in b.view.tokens ≡ 0 → IsSole a
    → IsSole b × GrantsInOrder a b (record { id = client; entry = entry } ∷ [])
next-in-order start a b client entry name began home is out sole =
    let v : View = b.view in
    let grant : Grant = record { client = client; exit = is.exit; visit = is.visit; name = name } in
    let (s, in_state) = subst (λ (z : Start). StoodInState z v) home is.in_state in
    let e = ending-at start s in_state.id v (record { began = began; rule = in_state.kept }) in_state.here in
    let entered : length v.entries ≡ length a.view.entries + 1 = rw (is.entries, length-append) in
    let quota : start.quota ≤ v.quota + length v.entries =
    omega (arith, sole.quota, ap (λ (z : Start). z.quota) home, is.quota, entered) in
    let all = (in_state.kept.accounted in_state.id v in_state.here).all in
    let names = (e.closed_floor out (omega (arith, e.sole (omega (arith, quota, e.within)), all, out))).names in
    let next : name ≡ length a.view.grants =
    new-name (length a.view.grants) name (map (λ (g : Grant). g.name) a.view.grants) sole.names
    (rw (is.grants, length-append, map-append) at names) in (
      record {
        quota = omega (arith, quota, ap (λ (z : Start). z.quota) home, ap (λ (h : FloorValue). h.start.quota) is.home);
        names = names;
      },
      (grant ∷ [], is.grants, record { clients_are = refl; names_are = λ i. next i ∷ [] }),
    )
