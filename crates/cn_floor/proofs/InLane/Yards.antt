-- The yard of a lane.
use Rattle.cn_floor.proofs.Common.{rules, ◌≡◌, ℕ, zero, suc, ◌<◌, inl, inr, eqb, List, [], ◌∷◌, length, replicate, Option, Some, None, sym, refl, ap, subst, arith, IsSome, Lists, cases_eq, cases_lt, eq-eqb, get_or_past, length-replicate, on, sum-below-zero, tokens_in, get_or-replicate, IsLowest, empty, first_of, here_or, standing, standing_below}
use Rattle.std.specs.Map.{lookup}

-- where nobody stands on any wire nobody is inside
pub nobody-there : (y : Lists) → ((wire : ℕ) → length (on y wire) ≡ 0) → tokens_in y ≡ 0
nobody-there y none = sum-below-zero (length y) (λ u. length (on y u)) none

-- a wire with a token is one of the yard's
pub some-inside : (y : Lists) (wire : ℕ) → 0 < length (on y wire) → wire < length y
some-inside y wire some = elim (cases_lt wire (length y)) [
  | inl l ↦ l
  | inr l ↦ absurd (omega (arith, some, ap (λ (es : List (ℕ × ℕ)). length es) (get_or_past y wire [] l)))
]

-- the lowest wire is a wire of the network
pub lowest-inside : (y : Lists) (wire : ℕ) → IsLowest y wire → wire < length y
lowest-inside y wire is = some-inside y wire is.some

found : (es : List (ℕ × ℕ)) (token : ℕ) → first_of es ≡ Some token → IsSome (lookup (eqb token) es)
found [] token h = cc
found (e ∷ es) token h = let same : e.0 ≡ token = cc in rw (eq-eqb token e.0 (sym same)) (search rules)

stands-below : (y : Lists) (wire token n : ℕ) → IsSome (lookup (eqb token) (on y wire)) → wire < n → IsSome (standing_below n y token)
unfolding standing_below
stands-below y wire token zero some h = absurd (omega arith)
stands-below y wire token (suc n) some h = by (lookup (eqb token) (on y n)) refl (λ l. stands-below y wire token n some l)
  where
    by : (o : Option ℕ) → lookup (eqb token) (on y n) ≡ o → (wire < n → IsSome (standing_below n y token))
        → IsSome (here_or n o (standing_below n y token))
    by (Some c) is rest = search rules
    by None is rest = elim (cases_eq wire n) [
      | inl e ↦ absurd (none (on y n) (subst (λ (u : ℕ). IsSome (lookup (eqb token) (on y u))) e some) is)
      | inr d ↦ rest (omega arith)
    ]
      where
        none : (es : List (ℕ × ℕ)) → IsSome (lookup (eqb token) es) → lookup (eqb token) es ≡ None → ⊥
        none es a b = cc

-- the first token of a wire stands in the yard
pub first-stands : (y : Lists) (wire token : ℕ) → wire < length y → first_of (on y wire) ≡ Some token → IsSome (standing y token)
first-stands y wire token inside first = stands-below y wire token (length y) (found (on y wire) token first) inside

-- an empty yard
pub nobody-in : (n : ℕ) → tokens_in (empty n).lists ≡ 0
nobody-in n =
    nobody-there (empty n).lists (λ u. ap (λ (es : List (ℕ × ℕ)). length es) (none u))
  where
    none : (u : ℕ) → on (empty n).lists u ≡ []
    none u = elim (cases_lt u n) [
      | inl l ↦ get_or-replicate n u [] [] l
      | inr l ↦ get_or_past (replicate n []) u [] (omega (arith, length-replicate {A = List (ℕ × ℕ)} n []))
    ]
