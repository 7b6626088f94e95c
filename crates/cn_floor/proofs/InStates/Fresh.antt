-- What lanes load from the words of the entries.
use Rattle.cn_floor.proofs.Common.{◌≡◌, ℕ, zero, suc, ◌+◌, ◌≤◌, ◌<◌, Bool, true, false, eqb, List, [], ◌∷◌, ◌++◌, length, get_or, sum, All, sym, refl, ap, ◌∙◌, arith, eqb-true, Grant, IsFresh, Start, Table, View, base, clients_in, entered_in, length_push, load_bound, IsLoad, sum-below-same, sum_by-cons, sum_below, after_load, after_load_by, sum-below-fewer, sum-below-front, sum-below-le}

at_more : (ls : List ℕ) (u : ℕ) (g : ℕ → ℕ) → get_or (ls ++ g (length ls) ∷ []) u (g u) ≡ get_or ls u (g u)
at_more [] zero g = refl
at_more [] (suc u) g = refl
at_more (x ∷ ls) zero g = refl
at_more (x ∷ ls) (suc u) g = at_more ls u (λ k. g (suc k))

at-grown : (ls : List ℕ) (u a b : ℕ) → a ≤ b → get_or ls u a ≤ get_or ls u b
at-grown [] u a b h = h
at-grown (x ∷ ls) zero a b h = omega arith
at-grown (x ∷ ls) (suc u) a b h = at-grown ls u a b h

at_low : (ls : List ℕ) (u a : ℕ) → get_or ls u 0 ≤ a → get_or ls u a ≤ a
at_low [] u a h = omega arith
at_low (x ∷ ls) zero a h = h
at_low (x ∷ ls) (suc u) a h = at_low ls u a h

pub low-more : (ls : List ℕ) (g : ℕ → ℕ) → ((u : ℕ) → get_or ls u 0 ≤ g u) → (u : ℕ) → get_or (ls ++ g (length ls) ∷ []) u 0 ≤ g u
low-more [] g h zero = omega arith
low-more [] g h (suc u) = omega arith
low-more (x ∷ ls) g h zero = h 0
low-more (x ∷ ls) g h (suc u) = low-more ls (λ k. g (suc k)) (λ k. h (suc k)) u

whole : (ls : List ℕ) (g : ℕ → ℕ) → sum_below (length ls) (λ u. get_or ls u (g u)) ≡ sum ls
unfolding sum_below
whole [] g = refl
whole (x ∷ ls) g =
    let front = sum-below-front (length ls) (λ u. get_or (x ∷ ls) u (g u)) in
    omega (arith, whole ls (λ k. g (suc k)), sum_by-cons (λ (y : ℕ). y) x ls)

module _ (t : Table) (words : List ℕ) where
  abbrev word : ℕ → ℕ
  word = entered_in t words

  -- what is loaded now is what was to be loaded
  pub load-bound-more : (ls : List ℕ) → load_bound t words (ls ++ word (length ls) ∷ []) ≡ load_bound t words ls
  load-bound-more ls = sum-below-same t.entries (λ u. get_or (ls ++ word (length ls) ∷ []) u (word u)) (λ u. get_or ls u (word u))
      (λ u less. at_more ls u word)

  pub load-bound-all : (ls : List ℕ) → length ls ≡ t.entries → load_bound t words ls ≡ sum ls
  load-bound-all ls e = ap (λ (n : ℕ). sum_below n (λ u. get_or ls u (word u))) (sym e) ∙ whole ls word

  pub sum-few : (ls : List ℕ) → length ls ≤ t.entries → sum ls ≤ load_bound t words ls
  sum-few ls few = omega (arith, whole ls word, sum-below-fewer (λ u. get_or ls u (word u)) (length ls) t.entries few)

  pub load-bound-few : (ls : List ℕ) → ((u : ℕ) → get_or ls u 0 ≤ word u) → load_bound t words ls ≤ clients_in t words
  load-bound-few ls low = sum-below-le t.entries (λ u. get_or ls u (word u)) word (λ u less. at_low ls u (word u) (low u))

  pub load-bound-grown : (more : List ℕ) (ls : List ℕ) → ((u : ℕ) → word u ≤ entered_in t more u)
      → load_bound t words ls ≤ load_bound t more ls
  load-bound-grown more ls up = sum-below-le t.entries (λ u. get_or ls u (word u)) (λ u. get_or ls u (entered_in t more u))
      (λ u less. at-grown ls u (word u) (entered_in t more u) (up u))

-- names stay below what grows
pub names_below : (gs : List Grant) (k m n : ℕ) → m ≤ n → All (λ (g : Grant). k + g.name < m) gs → All (λ (g : Grant). k + g.name < n) gs
names_below gs k m n h all = λ j d less. let f = all j d less in omega (arith, f)

-- what others do
pub fresh-grown : (start : Start) (words more : List ℕ) (v : View)
    → ((u : ℕ) → entered_in start.network.table words u ≤ entered_in start.network.table more u) → IsFresh start words v
    → IsFresh start more v
fresh-grown start words more v up fresh =
    let t = start.network.table in
    let grown : load_bound t words v.loads ≤ load_bound t more v.loads = load-bound-grown t words more v.loads up in
    record {
      low = λ u. omega (arith, fresh.low u, up u);
      own = omega (arith, fresh.own);
      seen = omega (arith, fresh.seen);
      names = names_below v.grants (base start) (load_bound t words v.loads) (load_bound t more v.loads) grown fresh.names;
    }

-- a lane that has loaded nothing
pub fresh-idle : (start : Start) (words : List ℕ) (v : View) → v.loads ≡ []
    → base start + length v.entries ≤ clients_in start.network.table words → base start + v.seen ≤ clients_in start.network.table words
    → All (λ (g : Grant). base start + g.name < clients_in start.network.table words) v.grants → IsFresh start words v
fresh-idle start words v idle own seen names =
    let all : load_bound start.network.table words v.loads ≡ clients_in start.network.table words =
    ap (load_bound start.network.table words) idle in
    record {
      low = λ u. omega (arith, ap (λ (ls : List ℕ). get_or ls u 0) idle);
      own = omega (arith, own, all);
      seen = omega (arith, seen, all);
      names = names_below v.grants (base start) (clients_in start.network.table words) (load_bound start.network.table words v.loads)
          (omega (arith, all)) names;
    }

module _ (start : Start) (words : List ℕ) (v : View) (fresh : IsFresh start words v) where
  abbrev t : Table
  t = start.network.table

  abbrev ls : List ℕ
  ls = v.loads ++ entered_in t words (length v.loads) ∷ []

  low : (u : ℕ) → get_or ls u 0 ≤ entered_in t words u
  low = low-more v.loads (entered_in t words) fresh.low

  size : length ls ≡ length v.loads + 1
  size = length_push v.loads (entered_in t words (length v.loads))

  fresh-by : (b : Bool) → (b ≡ true → length v.loads + 1 ≡ t.entries) → IsFresh start words (after_load_by b start ls v)
  fresh-by true at_last =
      let same = load-bound-more t words v.loads in
      let few = load-bound-few t words ls low in
      fresh-idle start words (after_load_by true start ls v) refl (omega (arith, fresh.own))
      (omega (arith, fresh.own, load-bound-all t words ls (omega (arith, size, at_last refl))))
      (names_below v.grants (base start) (load_bound t words v.loads) (clients_in t words) (omega arith) fresh.names)
  fresh-by false at_last =
      let same : load_bound t words ls ≡ load_bound t words v.loads = load-bound-more t words v.loads in
      record {
        low = low;
        own = omega (arith, fresh.own);
        seen = omega (arith, fresh.seen);
        names = names_below v.grants (base start) (load_bound t words v.loads) (load_bound t words ls) (omega arith) fresh.names;
      }

  -- a load keeps what is known, whatever it finds
  pub fresh-load : IsFresh start words (after_load start (entered_in t words (length v.loads)) v)
  fresh-load = fresh-by (eqb (length v.loads + 1) t.entries) (λ e. eqb-true (length v.loads + 1) t.entries e)

  -- and the last one gives an answer
  pub load-says : length v.loads < t.entries → clients_in t words ≤ base start + start.quota
      → IsLoad start v (entered_in t words (length v.loads))
  load-says less within =
      let same = load-bound-more t words v.loads in
      let few = load-bound-few t words ls low in
      record {
        few = omega (arith, sum-few t words ls (omega (arith, size)));
        last = λ e.
            let all = load-bound-all t words ls (omega (arith, size)) in (
              omega (arith, fresh.own),
              record {
                own = omega (arith, fresh.own);
                seen = omega (arith, fresh.seen);
                names = λ j d l. let g = fresh.names j d l in omega (arith, g);
                quota = omega arith;
              },
            );
      }
