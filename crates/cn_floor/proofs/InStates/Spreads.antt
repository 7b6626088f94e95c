-- Words that lie a stride apart in their table: a rule about words holds of it as well.
use Rattle.std.proofs.lemmas.List.{get_or-append_right, set-append_right, replicate-append-replicate}
use Rattle.cn_floor.proofs.Common.{◌≡◌, ℕ, zero, suc, ◌+◌, ◌-◌, ◌*◌, ◌<◌, ◌≤◌, List, [], ◌∷◌, ◌++◌, length, replicate, get_or, set, sym, refl, ap, ◌∙◌, subst, arith, Allows, Me, Splits, State, length-replicate, spread, length-append, mul-le-mul_left, Act, Joins, Valid, carried_after, stepped, HoldsSpread, picked, FloorValue, HoldsAt, Start, View, start_of, word_count, IsCounters, FloorState}
use Rattle.cn_floor.specs.InsideCounters.{floor_of}
use Rattle.cn_floor.specs.declared.floor.counters.Counters.TheInside.{Inside}

-- ---- past what lies between

get-past : (g j : ℕ) (xs : List ℕ) → get_or (replicate g 0 ++ xs) (g + j) 0 ≡ get_or xs j 0
get-past g j xs = get_or-append_right (replicate g 0) xs g (g + j) 0 (length-replicate g 0) (omega arith)
    ∙ ap (λ (k : ℕ). get_or xs k 0) (omega arith)

set-past : (g j n : ℕ) (xs : List ℕ) → set (replicate g 0 ++ xs) (g + j) n ≡ replicate g 0 ++ set xs j n
set-past g j n xs = set-append_right (replicate g 0) xs g (g + j) n (length-replicate g 0) (omega arith)
    ∙ ap (λ (k : ℕ). replicate g 0 ++ set xs k n) (omega arith)

picked-past : (stride g : ℕ) (xs : List ℕ) → picked stride g (replicate g 0 ++ xs) ≡ picked stride 0 xs
picked-past stride zero xs = refl
picked-past stride (suc g) xs = picked-past stride g xs

module _ (stride : ℕ) (some-stride : 1 ≤ stride) where
  abbrev between : ℕ
  between = stride - 1

  next : (i : ℕ) → stride * suc i ≡ suc (between + stride * i)
  next i = omega arith

  none : stride * 0 ≡ 0
  none = omega arith

  -- the places of fewer words are fewer
  pub low-spread : {i n : ℕ} → i < n → stride * i < stride * n
  low-spread {i} {n} less = let most : stride * suc i ≤ stride * n = mul-le-mul_left stride less in omega (arith, next i)

  -- ---- the word at a place

  pub get-spread : (words : List ℕ) (i : ℕ) → get_or (spread stride words) (stride * i) 0 ≡ get_or words i 0
  get-spread [] i = refl
  get-spread (w ∷ ws) zero = ap (λ (n : ℕ). get_or (spread stride (w ∷ ws)) n 0) none
  get-spread (w ∷ ws) (suc i) =
      ap (λ (n : ℕ). get_or (spread stride (w ∷ ws)) n 0) (next i) ∙ get-past between (stride * i) (spread stride ws) ∙ get-spread ws i

  pub set-spread : (words : List ℕ) (i n : ℕ) → set (spread stride words) (stride * i) n ≡ spread stride (set words i n)
  set-spread [] i n = refl
  set-spread (w ∷ ws) zero n = ap (λ (m : ℕ). set (spread stride (w ∷ ws)) m n) none
  set-spread (w ∷ ws) (suc i) n =
      ap (λ (m : ℕ). set (spread stride (w ∷ ws)) m n) (next i)
      ∙ ap (λ (ys : List ℕ). w ∷ ys) (set-past between (stride * i) n (spread stride ws))
      ∙ ap (λ (ys : List ℕ). w ∷ (replicate between 0 ++ ys)) (set-spread ws i n)

  pub length-spread : (words : List ℕ) → length (spread stride words) ≡ stride * length words
  length-spread [] = sym none
  length-spread (w ∷ ws) =
      omega (
        arith,
        length-append (replicate between 0) (spread stride ws),
        length-replicate {A = ℕ} between 0,
        length-spread ws,
        next (length ws),
      )

  pub picked-spread : (words : List ℕ) → picked stride 0 (spread stride words) ≡ words
  picked-spread [] = refl
  picked-spread (w ∷ ws) = ap (λ (ys : List ℕ). w ∷ ys) (picked-past stride between (spread stride ws) ∙ picked-spread ws)

  -- ---- what a seat may do

  module _ {S V : Type 0} (holds : State S V → Type 0) where
    -- a step on a word
    pub allows-spread : (slots id : ℕ) (me : Me S V) (i : ℕ) (f : ℕ → ℕ) (then : ℕ → Me S V → Type 0)
        → Allows holds slots id me i f then → Allows (HoldsSpread stride holds) slots id me (stride * i) f then
    allows-spread slots id me i f then allow s kept homes at fits =
        let words : List ℕ = kept.0 in
        let s' : State S V = record { words = words; homes = s.homes; views = s.views } in
        let found : get_or words i 0 ≡ get_or s.words (stride * i) 0 =
        sym (ap (λ (ws : List ℕ). get_or ws (stride * i) 0) kept.1 ∙ get-spread words i) in
        let may = allow s' kept.2 homes at (subst (λ (n : ℕ). n < 18446744073709551616) (sym found) fits) in
        let put : set s.words (stride * i) (f (get_or words i 0)) ≡ spread stride (set words i (f (get_or words i 0))) =
        ap (λ (ws : List ℕ). set ws (stride * i) (f (get_or words i 0))) kept.1 ∙ set-spread words i (f (get_or words i 0)) in
        subst
        (λ (n : ℕ). (w : V) × (a : Act S) × Valid s.homes me.1 a × HoldsSpread stride holds (stepped s (stride * i) (f n) id me.1 w a)
        × then n (w, carried_after me.1 a))
        found
        (may.0, may.1, may.2, (set words i (f (get_or words i 0)), put, may.3), may.4)

    pub splits-spread : (id : ℕ) (v left right : V) → Splits holds id v left right → Splits (HoldsSpread stride holds) id v left right
    splits-spread id v left right split s kept at =
        (kept.0, kept.1, split (record { words = kept.0; homes = s.homes; views = s.views }) kept.2 at)

    pub joins-spread : (id : ℕ) (v : V) (other : ℕ) (w both spent : V) → Joins holds id v other w both spent
        → Joins (HoldsSpread stride holds) id v other w both spent
    joins-spread id v other w both spent join s kept at differ there =
        (kept.0, kept.1, join (record { words = kept.0; homes = s.homes; views = s.views }) kept.2 at differ there)

    -- the same, by the place of the word
    pub allows-at : {slots id : ℕ} {me : Me S V} {i place : ℕ} (f : ℕ → ℕ) (then : ℕ → Me S V → Type 0) → place ≡ stride * i
        → Allows holds slots id me i f then → Allows (HoldsSpread stride holds) slots id me place f then
    allows-at {slots} {id} {me} {i} {place} f then is allow =
        subst (λ (n : ℕ). Allows (HoldsSpread stride holds) slots id me n f then) (sym is) (allows-spread slots id me i f then allow)

-- What a seat may do on a floor's table, in which the words lie a stride apart, by what it may do to the words.

module _ (c : Inside) (is : IsCounters c) where
  abbrev pub Rule : FloorState → Type 0
  Rule = HoldsSpread c.table.shared.key.stride (HoldsAt (start_of c.table.shared.key))

  some : 1 ≤ c.table.shared.key.stride
  some = omega (arith, is.apart, is.stride.0)

  -- for the floor as contracts see it
  module _ {floor : FloorValue} (at : floor_of c ≡ floor) where
    pub entries : c.entries ≡ floor.start.network.table.entries
    entries = is.entries ∙ ap (λ (f : FloorValue). f.start.network.table.entries) at

    about : floor.start ≡ start_of c.table.shared.key
    about = sym (ap (λ (f : FloorValue). f.start) at)

    pub there : {place i : ℕ} → place ≡ c.stride * i → i < word_count floor.start.network.table → place < c.table.shared.table_id.words
    there lies low = omega (
      arith,
      lies,
      is.words,
      low-spread c.stride is.stride.0 low,
      ap (λ (f : FloorValue). c.stride * word_count f.start.network.table) at,
    )

    -- the lanes' word lies first
    pub first-there : 0 < c.table.shared.table_id.words
    first-there = let first : 0 ≡ c.stride * 0 = omega arith in there first (omega arith)

    pub at-word : {slots id place i : ℕ} {me : Me (Unit {0}) View} (f : ℕ → ℕ) (then : ℕ → Me (Unit {0}) View → Type 0)
        → place ≡ c.stride * i → Allows (HoldsAt floor.start) slots id me i f then → Allows Rule slots id me place f then
    at-word {slots} {id} {place} {i} {me} f then lies allow =
        allows-at c.table.shared.key.stride some (HoldsAt (start_of c.table.shared.key)) f then
        (lies ∙ ap (λ (n : ℕ). n * i) (sym is.apart))
        (subst (λ (s : Start). Allows (HoldsAt s) slots id me i f then) about allow)

    pub splits-at : {id : ℕ} {v left right : View} → Splits (HoldsAt floor.start) id v left right → Splits Rule id v left right
    splits-at {id} {v} {left} {right} split =
        splits-spread c.table.shared.key.stride some (HoldsAt (start_of c.table.shared.key)) id v left right
        (subst (λ (s : Start). Splits (HoldsAt s) id v left right) about split)

    pub joins-at : {id other : ℕ} {v w both spent : View} → Joins (HoldsAt floor.start) id v other w both spent
        → Joins Rule id v other w both spent
    joins-at {id} {other} {v} {w} {both} {spent} join =
        joins-spread c.table.shared.key.stride some (HoldsAt (start_of c.table.shared.key)) id v other w both spent
        (subst (λ (s : Start). Joins (HoldsAt s) id v other w both spent) about join)

-- Words that are laid a stride apart one after the other.

-- the first words, and zeros for the others
abbrev pub laid : ℕ → List ℕ → List ℕ
laid zero ws = replicate (length ws) 0
laid (suc n) [] = []
laid (suc n) (w ∷ ws) = w ∷ laid n ws

-- one more
pub laid-next : (ws : List ℕ) (n : ℕ) → n < length ws → set (laid n ws) n (get_or ws n 0) ≡ laid (suc n) ws
laid-next [] n less = absurd (omega arith)
laid-next (w ∷ ws) zero less = refl
laid-next (w ∷ ws) (suc n) less = ap (λ (xs : List ℕ). w ∷ xs) (laid-next ws n (omega arith))

-- all
pub laid-all : (ws : List ℕ) (n : ℕ) → n ≡ length ws → laid n ws ≡ ws
laid-all [] zero all = refl
laid-all [] (suc n) all = refl
laid-all (w ∷ ws) zero all = absurd (omega arith)
laid-all (w ∷ ws) (suc n) all = ap (λ (xs : List ℕ). w ∷ xs) (laid-all ws n (omega arith))

-- zeros a stride apart are zeros
pub spread-zeros : (stride : ℕ) → 1 ≤ stride → (n : ℕ) → spread stride (replicate n 0) ≡ replicate (stride * n) 0
spread-zeros stride some zero = let none : 0 ≡ stride * 0 = omega arith in ap (λ (k : ℕ). replicate {A = ℕ} k 0) none
spread-zeros stride some (suc n) =
    let more : suc (stride - 1 + stride * n) ≡ stride * suc n = omega arith in
    ap (λ (xs : List ℕ). 0 ∷ (replicate (stride - 1) 0 ++ xs)) (spread-zeros stride some n)
    ∙ ap (λ (xs : List ℕ). 0 ∷ xs) (replicate-append-replicate (stride - 1) (stride * n) 0)
    ∙ ap (λ (k : ℕ). replicate {A = ℕ} k 0) more

-- words that lie side by side
pub spread-one : (ws : List ℕ) → spread 1 ws ≡ ws
spread-one [] = refl
spread-one (w ∷ ws) = ap (λ (xs : List ℕ). w ∷ xs) (spread-one ws)
