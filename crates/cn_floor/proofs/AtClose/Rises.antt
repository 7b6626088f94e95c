-- What has risen since a floor began.
use Rattle.cn_floor.proofs.Common.{◌≡◌, ℕ, zero, suc, ◌+◌, ◌<◌, ◌≤◌, ◌++◌, ◌∷◌, [], List, length, get_or, map, take, drop, replicate, sym, refl, ◌∙◌, arith, subst, range_with_len, get_or-drop, length-drop, take_more, map-range_with_len_more, Balancer, Exit, IsClosed, Lists, Start, Table, WordsValue, ledger_of, on, tokens_in, nobody-on, counts-few, client_count, HasRisen, counts_by_exit, passes_of, NoneWent, nil_from_length}

-- a part of a list, place by place
part : (xs : List ℕ) (f : ℕ → ℕ) (a n : ℕ) → a + n ≤ length xs → ((i : ℕ) → i < n → get_or xs (a + i) 0 ≡ f i)
    → take n (drop a xs) ≡ map f (range_with_len 0 n)
part xs f a zero fits same = refl
part xs f a (suc n) fits same =
    let last : get_or (drop a xs) n 0 ≡ f n = get_or-drop a xs n 0 ∙ same n (omega arith) in
    let before = part xs f a n (omega arith) (λ i l. same i (omega arith)) in
    let more : take (n + 1) (drop a xs) ≡ map f (range_with_len 0 (n + 1)) =
    take_more (drop a xs) n 0 (omega (arith, length-drop a xs))
    ∙ (λ x. before x ++ last x ∷ [])
    ∙ sym (map-range_with_len_more f 0 n n (omega arith)) in
    let next : n + 1 ≡ suc n = omega arith in
    subst (λ (k : ℕ). take k (drop a xs) ≡ map f (range_with_len 0 k)) next more

module _ (start : Start) (words risen : List ℕ) (is : HasRisen start words risen) where
  abbrev t : Table
  t = start.network.table

  pub counts-part : take t.width (drop (1 + t.entries + t.balancers) risen) ≡ counts_by_exit start words
  counts-part = part risen _ (1 + t.entries + t.balancers) t.width (omega (arith, is.count)) (λ i l. is.each (Exit i) l)

  pub passes-part : take t.balancers (drop (1 + t.entries) risen) ≡ passes_of start words
  passes-part = part risen _ (1 + t.entries) t.balancers (omega (arith, is.count)) (λ b l. is.each (Balancer b) l)

-- where nobody came, nobody went
pub none-went : (w : WordsValue) → IsClosed w → client_count w ≡ 0 → NoneWent w.network.table w.words
none-went w is nobody end h =
    let t : Table = w.network.table in
    omega (arith, counts-few t is.network.formed (ledger_of t w.words w.words []) is.carried.sound end h)

-- where nobody stands, each list is empty
pub all-empty : (ls : Lists) → tokens_in ls ≡ 0 → ls ≡ replicate (length ls) []
all-empty ls none = empties ls (nobody-on ls none)
  where
    empties : (xs : Lists) → ((u : ℕ) → length (on xs u) ≡ 0) → xs ≡ replicate (length xs) []
    empties [] h = refl
    empties (x ∷ xs) h = λ i. nil_from_length x (h zero) i ∷ empties xs (λ u. h (suc u)) i
