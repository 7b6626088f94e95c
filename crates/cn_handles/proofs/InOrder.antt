-- Clients of a list who come in by one entry, and their names.
use Rattle.cn_handles.proofs.Common.{◌≡◌, ℕ, zero, suc, ◌+◌, ◌-◌, ◌<◌, ◌≤◌, List, [], ◌∷◌, ◌++◌, arith, refl, sym, ap, ◌∙◌, append_assoc, drop, get_or, length, map, min, slice_index, slice_set, take, length-drop, length-map, map-append, Grant, AreNamesBy, HaveNames, IsLongestRun, all_by, Client}
use Rattle.std.proofs.lemmas.List.{length-take-le}
use Rattle.std.proofs.lemmas.List.Sorted.{IsPermutation-append, IsPermutation-refl}
use Rattle.cn_floor.specs.declared.view.View.{View}
use Rattle.cn_handles.proofs.Listed.{map-part}

-- names of clients, and then of others
pub both-named : (u v w : View) (xs ys ns ms : List ℕ) → HaveNames u v xs ns → HaveNames v w ys ms
    → HaveNames u w (xs ++ ys) (ns ++ ms)
both-named u v w xs ys ns ms was is = let (some, grants, a) = was in let (most, grew, b) = is in (
  some ++ most,
  grew ∙ ap (λ (gs : List Grant). gs ++ most) grants ∙ append_assoc u.grants some most,
  record {
    order = a.order ++ b.order;
    same = IsPermutation-append some a.order most b.order a.same b.same;
    whose = map-append (λ (g : Grant). g.client) a.order b.order ∙ (λ i. a.whose i ++ b.whose i);
    called = map-append (λ (g : Grant). g.name) a.order b.order ∙ (λ i. a.called i ++ b.called i);
  },
)

-- ---- clients who come in by one entry

pub ids-all : (entry : ℕ) (ids : List ℕ) → map (λ (c : Client). c.client) (all_by entry ids) ≡ ids
ids-all entry [] = refl
ids-all entry (x ∷ ids) = ap (λ (xs : List ℕ). x ∷ xs) (ids-all entry ids)

entry-at : (entry i j : ℕ) (ids : List ℕ) (c : Client) → i + j < length ids → (get_or (drop i (all_by entry ids)) j c).entry ≡ entry
entry-at entry i j [] c less = absurd (omega (arith, less))
entry-at entry zero zero (x ∷ ids) c less = refl
entry-at entry zero (suc j) (x ∷ ids) c less = entry-at entry zero j ids c (omega (arith, less))
entry-at entry (suc i) j (x ∷ ids) c less = entry-at entry i j ids c (omega (arith, less))

-- up to so many of them are a run as long as it can be
pub longest : (entry i n most : ℕ) (ids : List ℕ) → 0 < most → n ≡ min most (length ids - i) → i < length ids
    → IsLongestRun (drop i (all_by entry ids)) entry most n
longest entry i n most ids some is less =
    let long : length (drop i (all_by entry ids)) ≡ length ids - i =
    length-drop i (all_by entry ids) ∙ ap (λ (k : ℕ). k - i) (length-map ids (λ (id : ℕ). record { client = id; entry = entry })) in
    record {
      some = omega (arith, is, less, some);
      few = (omega (arith, is, long), omega (arith, is));
      same = λ j c l. entry-at entry i j ids c (omega (arith, is, l));
      ended = λ c l m. absurd (omega (arith, is, long, l, m));
    }

-- the identities of such a run
pub run-ids : (entry i n : ℕ) (ids : List ℕ) → map (λ (c : Client). c.client) (take n (drop i (all_by entry ids))) ≡ take n (drop i ids)
run-ids entry i n ids = map-part (λ (c : Client). c.client) i n (all_by entry ids)
    ∙ ap (λ (xs : List ℕ). take n (drop i xs)) (ids-all entry ids)

pub run-length : (i n : ℕ) (ids : List ℕ) → i + n ≤ length ids → length (take n (drop i ids)) ≡ n
run-length i n ids few = length-take-le n (drop i ids) (omega (arith, length-drop i ids, few))

-- as many names as clients
pub as-many-names : (v w : View) (ids names : List ℕ) → HaveNames v w ids names → length names ≡ length ids
as-many-names v w ids names have =
    let is = have.2 in
    ap (λ (xs : List ℕ). length xs) (sym is.called) ∙ length-map is.order (λ (g : Grant). g.name)
    ∙ sym (length-map is.order (λ (g : Grant). g.client)) ∙ ap (λ (xs : List ℕ). length xs) is.whose

-- a client that is named by itself
pub one-named : (ids names : List ℕ) (grant : Grant) → length ids ≡ 1 → length names ≡ length ids → grant.client ≡ slice_index ids 0
    → AreNamesBy (grant ∷ []) ids (slice_set names 0 grant.name)
one-named [] names grant one same whose = absurd (omega (arith, one))
one-named (x ∷ []) [] grant one same whose = absurd (omega (arith, same))
one-named (x ∷ []) (y ∷ []) grant one same whose = record {
  order = grant ∷ [];
  same = IsPermutation-refl (grant ∷ []);
  whose = λ i. whose i ∷ [];
  called = refl;
}
one-named (x ∷ []) (y ∷ z ∷ names) grant one same whose = absurd (omega (arith, same))
one-named (x ∷ y ∷ ids) names grant one same whose = absurd (omega (arith, one))
