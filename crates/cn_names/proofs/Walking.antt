-- Who is walking, and what the others hold; each client stands in the list at most once.
use Rattle.cn_names.proofs.Common.{arith, ◌≡◌, ℕ, suc, true, false, nat_eq, List, [], ◌∷◌, length, None, Some, refl, ap, nat_tests, eq-eqb, IsDistinct-head, IsDistinct-tail, IsDistinct, AllByRecursion, list_any, keys_of, values_of, Standing, Walking, Holds, grants_in, true≢false, count_by, sym, ◌≤◌, ◌∙◌, cond}
use Rattle.std.proofs.lemmas.List.Sums.{sum_by-cons}
use Rattle.cn_yard.proofs.CallerLemmas.{times-absent}
use Rattle.cn_names.specs.Names.{IsWalking, is_walking, standing_of_client}

-- a client from which each client of the list differs has no standing there
stranger : (client : ℕ) (names : List (ℕ × Standing)) → AllByRecursion (λ other. nat_eq client other ≡ false) (keys_of names)
    → standing_of_client names client ≡ None
stranger client [] differ = refl
stranger client (e ∷ names) differ = rw differ.0 (stranger client names differ.1)

-- a client's standing stays where another client, which differs from all, comes before it
behind : (other client : ℕ) (s : Standing) (names : List (ℕ × Standing)) (token : ℕ)
    → AllByRecursion (λ later. nat_eq client later ≡ false) (keys_of names) → standing_of_client names other ≡ Some (Walking token)
    → standing_of_client ((client, s) ∷ names) other ≡ Some (Walking token)
behind other client s names token differ found = grind (arith, nat_tests, stranger client names differ)

pub walking-from-any : (names : List (ℕ × Standing)) → IsDistinct nat_eq (keys_of names) → list_any is_walking (values_of names) ≡ true
    → (client : ℕ) × IsWalking names client
walking-from-any [] distinct any = absurd (cc)
walking-from-any ((client, Walking token) ∷ names) distinct any = (client, (token, rw (eq-eqb client client refl) refl))
walking-from-any ((client, Holds name) ∷ names) distinct any =
    let later = walking-from-any names (IsDistinct-tail nat_eq client (keys_of names) distinct) any in (
      later.0,
      (
        later.1.0,
        behind later.0 client (Holds name) names later.1.0 (IsDistinct-head nat_eq client (keys_of names) distinct)
            later.1.1,
      ),
    )

pub any-from-walking : (names : List (ℕ × Standing)) (client token : ℕ) → standing_of_client names client ≡ Some (Walking token)
    → list_any is_walking (values_of names) ≡ true
any-from-walking [] client token found = cc
any-from-walking ((first, Walking other) ∷ names) client token found = refl
any-from-walking ((first, Holds name) ∷ names) client token found = grind (arith, nat_tests, any-from-walking names client token)

-- where nobody walks, each client holds a name
pub length-grants-in : (names : List (ℕ × Standing)) → list_any is_walking (values_of names) ≡ false
    → length (grants_in names) ≡ length names
length-grants-in [] none = refl
length-grants-in ((client, Walking token) ∷ names) none = cc
length-grants-in ((client, Holds name) ∷ names) none = ap suc (length-grants-in names none)

-- where nobody walks, no client does
pub none-walking : (names : List (ℕ × Standing)) → list_any is_walking (values_of names) ≡ false → (client : ℕ)
    → IsWalking names client → ⊥
none-walking names none client (token, found) = true≢false (sym (any-from-walking names client token found) ∙ none)

-- in a list with distinct clients, each client stands at most once
pub once : (client : ℕ) (names : List (ℕ × Standing)) → IsDistinct nat_eq (keys_of names) → count_by (λ e. nat_eq client e.0) names ≤ 1
once client [] distinct = omega arith
once client (e ∷ names) distinct = grind (
  arith,
  nat_tests,
  sum_by-cons (λ (entry : ℕ × Standing). cond (nat_eq client entry.0) 1 0) e names,
  times-absent names e.0 (stranger e.0 names (IsDistinct-head nat_eq e.0 (keys_of names) distinct)),
  once client names (IsDistinct-tail nat_eq e.0 (keys_of names) distinct),
)
