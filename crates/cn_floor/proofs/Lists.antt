-- The tokens of a lane on their wires, where one comes or goes.
use Rattle.cn_floor.proofs.Common.{◌≡◌, ℕ, ◌+◌, ◌<◌, ◌≤◌, inl, inr, eqb, List, [], ◌∷◌, ◌++◌, length, get_or, map, set, sum_by, take, refl, ap, sym, ◌∙◌, arith, range_with_len, IsThere, cases_lt, get_or_past, last_on, length-map-range_with_len, ne_eqb, sum_by-append, sum_by-cons, when, without, length-set, take_all, take_more, take_more_set, get_or-map-range_with_len, fill_by_all, last_on-sum}

pub ones : {X : Type 0} (xs : List X) → sum_by (λ (_ : X). 1) xs ≡ length xs
ones [] = refl
ones {X} (x ∷ xs) = omega (arith, ones xs, sum_by-cons (λ (_ : X). 1) x xs)

-- ---- lists that are copied, place by place

pub copied-next : (xs ys : List ℕ) (i y : ℕ) → length xs ≡ length ys → i < length ys → take i xs ≡ take i ys → get_or ys i 0 ≡ y
    → (length (set xs i y) ≡ length ys) × (take (i + 1) (set xs i y) ≡ take (i + 1) ys)
copied-next xs ys i y long low so-far next = (
  length-set xs i y ∙ long,
  take_more_set xs i y (omega (arith, low, long)) ∙ ap (λ (zs : List ℕ). zs ++ y ∷ []) so-far
      ∙ ap (λ (z : ℕ). take i ys ++ z ∷ []) (sym next) ∙ sym (take_more ys i 0 low),
)

pub copied-all : (xs ys : List ℕ) (i : ℕ) → length xs ≡ length ys → length ys ≤ i → take i xs ≡ take i ys → xs ≡ ys
copied-all xs ys i long end so-far =
    sym (take_all i xs (omega (arith, long, end))) ∙ so-far ∙ take_all i ys end

-- ---- lists that are made anew

module _ (lists : List (List (ℕ × ℕ))) (make : ℕ → List (ℕ × ℕ)) where
  pub made_at : (u : ℕ) → u < length lists → get_or (map make (range_with_len 0 (length lists))) u [] ≡ make u
  made_at u l = get_or-map-range_with_len make 0 (length lists) u u [] l (omega arith)

  pub made-beyond : (u : ℕ) → length lists ≤ u → get_or (map make (range_with_len 0 (length lists))) u [] ≡ []
  made-beyond u l = get_or_past (map make (range_with_len 0 (length lists))) u []
      (omega (arith, length-map-range_with_len make 0 (length lists)))

  -- where nothing is made beyond the wires
  pub made-on : ((u : ℕ) → length lists ≤ u → make u ≡ []) → (u : ℕ) → get_or (map make (range_with_len 0 (length lists))) u [] ≡ make u
  made-on beyond u = elim (cases_lt u (length lists)) [ inl l ↦ made_at u l | inr l ↦ made-beyond u l ∙ sym (beyond u l) ]

  -- the lists of another yard are these where they are so on each wire
  pub made : (news : List (List (ℕ × ℕ))) → length news ≡ length lists → ((u : ℕ) → get_or news u [] ≡ make u)
      → news ≡ map make (range_with_len 0 (length lists))
  made news long each =
      fill_by_all make news (length lists) [] long (λ k h. each k)

-- who comes is put last on a wire
pub weigh-come : (lists : List (List (ℕ × ℕ))) (token client wire : ℕ) → wire < length lists → (u : ℕ) (f : ℕ × ℕ → ℕ)
    → sum_by f (get_or (map (λ x. get_or lists x [] ++ last_on token client wire x) (range_with_len 0 (length lists))) u [])
    ≡ sum_by f (get_or lists u []) + when (eqb wire u) (f (token, client))
weigh-come lists token client wire inside u f =
    ap (sum_by f) (made-on lists (λ x. get_or lists x [] ++ last_on token client wire x)
    (λ x past. rw (get_or_past lists x [] past, ne_eqb wire x (λ e. omega (arith, e, past, inside))) refl) u)
    ∙ sum_by-append f (get_or lists u []) (last_on token client wire u) ∙ omega (arith, last_on-sum token client wire u f)

-- the lists, from which a token is taken, and to which `more` is added at each wire
abbrev pub lists_after : ℕ → (ℕ → List (ℕ × ℕ)) → List (List (ℕ × ℕ)) → List (List (ℕ × ℕ))
lists_after token more lists = map (λ u. without token (get_or lists u []) ++ more u) (range_with_len 0 (length lists))

module _ (lists : List (List (ℕ × ℕ))) (token : ℕ) (more : ℕ → List (ℕ × ℕ)) (beyond : (u : ℕ) → length lists ≤ u → more u ≡ []) where
  pub lists-after-on : (u : ℕ) → get_or (lists_after token more lists) u [] ≡ without token (get_or lists u []) ++ more u
  lists-after-on = made-on lists (λ u. without token (get_or lists u []) ++ more u)
      (λ u past. rw (get_or_past lists u [] past, beyond u past) refl)

  -- however the tokens are weighed
  weigh-after : (client wire : ℕ) → IsThere lists token client wire → (u : ℕ) (f : ℕ × ℕ → ℕ)
      → sum_by f (get_or (lists_after token more lists) u []) + when (eqb wire u) (f (token, client))
      ≡ sum_by f (get_or lists u []) + sum_by f (more u)
  weigh-after client wire is u f =
      omega (arith, ap (sum_by f) (lists-after-on u), sum_by-append f (without token (get_or lists u [])) (more u), is.less u f)

-- who goes to a wire, which is among these, leaves the other
pub weigh-pass : (lists : List (List (ℕ × ℕ))) (token client wire to : ℕ) → IsThere lists token client wire → to < length lists
    → (u : ℕ) (f : ℕ × ℕ → ℕ)
    → sum_by f (get_or (lists_after token (last_on token client to) lists) u []) + when (eqb wire u) (f (token, client))
    ≡ sum_by f (get_or lists u []) + when (eqb to u) (f (token, client))
weigh-pass lists token client wire to is inside u f = omega (
  arith,
  weigh-after lists token (last_on token client to) (λ x past. rw (ne_eqb to x (λ e. omega (arith, e, past, inside))) refl)
      client wire is u f,
  last_on-sum token client to u f,
)

-- who leaves is on no wire
pub weigh-leave : (lists : List (List (ℕ × ℕ))) (token client wire : ℕ) → IsThere lists token client wire → (u : ℕ) (f : ℕ × ℕ → ℕ)
    → sum_by f (get_or (lists_after token (λ _. []) lists) u []) + when (eqb wire u) (f (token, client)) ≡ sum_by f (get_or lists u [])
weigh-leave lists token client wire is u f = omega (arith, weigh-after lists token (λ _. []) (λ _ _. refl) client wire is u f)
