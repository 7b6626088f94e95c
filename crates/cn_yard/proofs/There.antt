-- Where the tokens of a yard stand, and the first token of a wire.
use Rattle.cn_yard.proofs.Common.{◌≡◌, ◌≢◌, ℕ, zero, suc, ◌<◌, ◌≤◌, inl, inr, eqb, List, [], length, refl, sym, ap, ◌∙◌, arith, Option, Some, None, Lists, cases_eq, cases_lt, count_by, lookup, nat_tests, on, standing, times_in, tokens_in, without, eq-eqb, sum_by, get_or_past, sum-below-part, sum-below-parts, IsThere, here_or, standing_below, nat_eq, true, false, cond, ◌+◌, ◌∷◌, ◌++◌, Yard, last_on, sum_by-append, sum_by-cons, sum_below, when, sum-below-one, sum-below-shift, sum-below-zero, first_of}
use Rattle.cn_yard.proofs.Keyed.{found-once, without-none, without-one, last_on-sum, without-same}

pub first : {a b : ℕ × ℕ} → Some a ≡ Some b → a.0 ≡ b.0
first h = cc

pub second : {a b : ℕ × ℕ} → Some a ≡ Some b → a.1 ≡ b.1
second h = cc

-- where a token stands, as a search finds it
stands-found : (n : ℕ) (y : Lists) (token wire client : ℕ) → standing_below n y token ≡ Some (wire, client)
    → (wire < n) × (lookup (eqb token) (on y wire) ≡ Some client)
unfolding standing_below
stands-found zero y token wire client e = cc
stands-found (suc n) y token wire client e = by (lookup (eqb token) (on y n)) refl e (λ r. stands-found n y token wire client r)
  where
    by : (here : Option ℕ) → lookup (eqb token) (on y n) ≡ here → here_or n here (standing_below n y token) ≡ Some (wire, client)
        → (standing_below n y token ≡ Some (wire, client) → (wire < n) × (lookup (eqb token) (on y wire) ≡ Some client))
        → (wire < suc n) × (lookup (eqb token) (on y wire) ≡ Some client)
    by None is e rest = let (l, r) = rest e in (omega arith, r)
    by (Some c) is e rest =
        let w : n ≡ wire = first e in
        let k : c ≡ client = second e in
        (omega arith, ap (λ (u : ℕ). lookup (eqb token) (on y u)) (sym w) ∙ is ∙ ap (λ (z : ℕ). Some z) k)

-- a token that stands on a wire, and nowhere twice, is there
pub there : (y : Lists) (token client wire : ℕ) → times_in y token ≤ 1 → standing y token ≡ Some (wire, client)
    → IsThere y token client wire
there y token client wire once stands =
    let n : ℕ = length y in
    let (inside, found) = stands-found n y token wire client stands in
    let times : ℕ → ℕ = λ u. count_by (λ e. eqb token e.0) (on y u) in
    let some = found-once token client (on y wire) found in
    let here = sum-below-part n wire times inside in
    record {
      found = stands;
      inside = inside;
      less = λ u f.
          let out : wire ≢ u → sum_by f (without token (on y u)) ≡ sum_by f (on y u) = λ d. without-none token (on y u) f (none u d) in
          grind (arith, nat_tests, without-one token client (on y wire) f (omega arith) found);
    }
  where
    none : (u : ℕ) → wire ≢ u → count_by (λ e. eqb token e.0) (on y u) ≡ 0
    none u d =
        let (inside, found) = stands-found (length y) y token wire client stands in
        elim (cases_lt u (length y)) [
          | inl l ↦ omega (
            arith,
            once,
            found-once token client (on y wire) found,
            sum-below-parts (length y) wire u (λ x. count_by (λ e. eqb token e.0) (on y x)) inside l d,
          )
          | inr l ↦ ap (λ es. count_by (λ (e : ℕ × ℕ). eqb token e.0) es) (get_or_past y u [] l)
        ]

-- a token stands on one wire, for one client
pub there-alike : (y : Lists) (token client other wire to : ℕ) → IsThere y token client wire → IsThere y token other to
    → (client ≡ other) × (wire ≡ to)
there-alike y token client other wire to a b = let same = sym a.found ∙ b.found in (second same, first same)

-- where no token stands none stands on any wire
pub nobody-on : (y : Lists) → tokens_in y ≡ 0 → (u : ℕ) → length (on y u) ≡ 0
nobody-on y none u = elim (cases_lt u (length y)) [
  | inl l ↦ omega (arith, sum-below-part (length y) u (λ w. length (on y w)) l)
  | inr l ↦ ap (λ (es : List (ℕ × ℕ)). length es) (get_or_past y u [] l)
]

-- Where the tokens of a yard stand.

-- ---- of any yard: a token that is on only one wire, or on none, and yards that agree

pub standing-none : (n : ℕ) (y : Lists) (token : ℕ) → ((u : ℕ) → u < n → lookup (nat_eq token) (on y u) ≡ None)
    → standing_below n y token ≡ None
unfolding standing_below
standing-none zero y token none = refl
standing-none (suc n) y token none = rw (none n (omega arith), standing-none n y token (λ u h. none u (omega arith)))

pub standing-only : (n : ℕ) (y : Lists) (token wire client : ℕ) → wire < n → lookup (nat_eq token) (on y wire) ≡ Some client
    → ((u : ℕ) → u ≢ wire → lookup (nat_eq token) (on y u) ≡ None) → standing_below n y token ≡ Some (wire, client)
unfolding standing_below
standing-only zero y token wire client h here elsewhere = absurd (omega arith)
standing-only (suc n) y token wire client h here elsewhere =
    elim (cases_eq n wire) [
      | inl e ↦ rw (e, here)
      | inr d ↦ rw (elsewhere n d) (standing-only n y token wire client (omega arith) here elsewhere)
    ]

pub standing-same : (n : ℕ) (y z : Lists) (token : ℕ)
    → ((u : ℕ) → lookup (nat_eq token) (on z u) ≡ lookup (nat_eq token) (on y u))
    → standing_below n z token ≡ standing_below n y token
unfolding standing_below
standing-same zero y z token same = refl
standing-same (suc n) y z token same = rw (same n, standing-same n y z token same)

-- ---- the three changes

-- whoever else stands there stands where it stood, and a token that has come stands on its wire
pub standing-added : (old new : Lists) (token client wire : ℕ) → length new ≡ length old → wire < length old
    → ((u : ℕ) → u < length old → lookup (nat_eq token) (on new u) ≡ cond (eqb wire u) (Some client) None)
    → ((other u : ℕ) → other ≢ token → lookup (nat_eq other) (on new u) ≡ lookup (nat_eq other) (on old u))
    → (other : ℕ) → standing new other ≡ cond (eqb other token) (Some (wire, client)) (standing old other)
unfolding standing_below
standing-added old new token client wire wires within own others other =
    rw wires (elim (cases_eq other token) [
      | inl e ↦ rw (e) (let same : eqb token token ≡ true = grind (arith, nat_tests) in rw same (by (length old) within own))
      | inr n ↦ let differ : eqb other token ≡ false = grind (arith, nat_tests) in
          rw differ (standing-same (length old) old new other (λ u. others other u n))
    ])
  where
    by : (n : ℕ) → wire < n → ((u : ℕ) → u < n → lookup (nat_eq token) (on new u) ≡ cond (eqb wire u) (Some client) None)
        → standing_below n new token ≡ Some (wire, client)
    by zero h own = absurd (omega arith)
    by (suc n) h own =
        let rest : wire < n → standing_below n new token ≡ Some (wire, client) = λ l. by n l (λ u k. own u (omega arith)) in
        grind (arith, nat_tests, own n)

-- The first token of a wire, taken off it.

-- how often a token stands in a list
abbrev pub times_on : ℕ → List (ℕ × ℕ) → ℕ
times_on token es = count_by (λ e. nat_eq token e.0) es

nowhere : (token : ℕ) (es : List (ℕ × ℕ)) → times_on token es ≡ 0 → lookup (nat_eq token) es ≡ None
nowhere token [] none = refl
nowhere token (e ∷ es) none =
    grind (arith, nat_tests, nowhere token es, sum_by-cons (λ (x : ℕ × ℕ). cond (nat_eq token x.0) 1 0) e es)

module _ (y : Lists) (token client wire : ℕ) (rest : List (ℕ × ℕ)) (once : (k : ℕ) → times_in y k ≤ 1) (inside : wire < length y)
    (begins : on y wire ≡ (token, client) ∷ rest) where
  abbrev times : ℕ → ℕ
  times u = times_on token (on y u)

  here : times wire ≡ 1 + times_on token rest
  here =
      ap (times_on token) begins
      ∙ grind (arith, nat_tests, sum_by-cons (λ (x : ℕ × ℕ). cond (nat_eq token x.0) 1 0) (token, client) rest)

  none_after : times_on token rest ≡ 0
  none_after = omega (arith, once token, here, sum-below-part (length y) wire times inside)

  none-elsewhere : (u : ℕ) → u ≢ wire → times u ≡ 0
  none-elsewhere u other = elim (cases_lt u (length y)) [
    | inl l ↦ omega (arith, once token, here, sum-below-parts (length y) wire u times inside l (λ e. other (sym e)))
    | inr l ↦ ap (times_on token) (get_or_past y u [] l)
  ]

  -- it is there
  pub first-there : IsThere y token client wire
  first-there =
      let found : lookup (nat_eq token) (on y wire) ≡ Some client = ap (lookup (nat_eq token)) begins ∙ rw (eq-eqb token token refl) refl in
      there y token client wire (once token) (standing-only (length y) y token wire client inside found
      (λ u other. nowhere token (on y u) (none-elsewhere u other)))

  -- the tokens after it are left on its wire, and all on other wires
  pub rest-on : without token (on y wire) ≡ rest
  rest-on = ap (without token) begins ∙ rw (eq-eqb token token refl) (without-same token rest none_after)

  pub others-on : (u : ℕ) → u ≢ wire → without token (on y u) ≡ on y u
  others-on u other = without-same token (on y u) (none-elsewhere u other)

  -- elsewhere or gone, no token stands twice
  module _ (z : Lists) (long : length z ≡ length y) (k : ℕ) where
    abbrev f : ℕ × ℕ → ℕ
    f e = cond (nat_eq k e.0) 1 0

    abbrev moved_from : ℕ → ℕ
    moved_from u = when (eqb wire u) (f (token, client))

    all-z : times_in z k ≡ sum_below (length y) (λ u. sum_by f (on z u))
    all-z = ap (λ (n : ℕ). sum_below n (λ u. sum_by f (on z u))) long

    pub once-moved : (to : ℕ) → to < length y → ((u : ℕ) → on z u ≡ without token (on y u) ++ last_on token client to u) → times_in z k ≤ 1
    once-moved to lands lists =
        let each : (u : ℕ) → u < length y → sum_by f (on z u) + moved_from u ≡ sum_by f (on y u) + when (eqb to u) (f (token, client)) =
        λ u l. omega (
          arith,
          ap (sum_by f) (lists u),
          sum_by-append f (without token (on y u)) (last_on token client to u),
          last_on-sum token client to u f,
          first-there.less u f,
        ) in
        let moved = sum-below-shift (length y) (λ u. sum_by f (on z u)) moved_from (λ u. sum_by f (on y u))
        (λ u. when (eqb to u) (f (token, client))) each in
        omega (
          arith,
          once k,
          all-z,
          moved,
          sum-below-one (length y) wire (f (token, client)) inside,
          sum-below-one (length y) to (f (token, client)) lands,
        )

    pub once-gone : ((u : ℕ) → on z u ≡ without token (on y u)) → times_in z k ≤ 1
    once-gone lists =
        let each : (u : ℕ) → u < length y → sum_by f (on z u) + moved_from u ≡ sum_by f (on y u) + 0 =
        λ u l. omega (arith, ap (sum_by f) (lists u), first-there.less u f) in
        let moved = sum-below-shift (length y) (λ u. sum_by f (on z u)) moved_from (λ u. sum_by f (on y u)) (λ _. 0) each in
        omega (arith, once k, all-z, moved, sum-below-zero (length y) (λ _. 0) (λ _. refl))

-- ---- the first token of a wire, as a yard returns it

pub record IsFirst (wire : ℕ) (y : Yard) (token : ℕ) : Type 0 where
  pub client : ℕ
  pub after : List (ℕ × ℕ)
  pub begins : on y.lists wire ≡ (token, client) ∷ after

pub first-is : (wire token : ℕ) (y : Yard) → Some token ≡ first_of (on y.lists wire) → IsFirst wire y token
first-is wire token y first = by (on y.lists wire) refl first
  where
    by : (es : List (ℕ × ℕ)) → on y.lists wire ≡ es → Some token ≡ first_of es → IsFirst wire y token
    by [] is h = cc h
    by (e ∷ es) is h =
        let same : e.0 ≡ token = cc (sym h) in
        record { client = e.1; after = es; begins = is ∙ (λ i. (same i, e.1) ∷ es) }

-- a wire without a first token is empty
pub none-first : (es : List (ℕ × ℕ)) → ((token : ℕ) → first_of es ≡ Some token → ⊥) → es ≡ []
none-first [] none = refl
none-first (e ∷ es) none = absurd (none e.0 refl)
