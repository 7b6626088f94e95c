-- Clients whose tokens stand in a yard: who comes, who moves, who leaves.
use Rattle.cn_core.proofs.Common.{◌≡◌, ◌≢◌, ℕ, suc, ◌≤◌, cond, nat_eq, List, [], ◌∷◌, ◌++◌, get_or, map, refl, sym, ap, ◌∙◌, arith, Option, Some, None, On, Position, Walking, count_by, nat_tests, position_in, values_of, with_position, All, IsSome, eq-eqb, ne_eqb, cases_eq, inl, inr, option_map, map-append, sum_by-cons, Admits, Lists, Moves, Releases, Yard, standing, tokens_in, Standing, is_walking, standing_of_client, with_standing, Holds, is_inside, count-push, count-set, times-absent, times-push, times-set, IsPlaced, StandsFor, position_by}
use Rattle.cn_names.specs.declared.standing.Standing.TheVariants.{Holds as Named}
use Rattle.std.proofs.lemmas.List.Elements.{All-cons, All-push, All-tail}
use Rattle.std.proofs.lemmas.List.Sums.{get_or-le-sum_by}
use Rattle.cn_core.proofs.StateLemmas.{count-cons}

-- the table's entries with their positions in the yard
abbrev pub placed : Lists → List (ℕ × Standing) → List (ℕ × Position)
placed y names = map (λ e. (e.0, position_by y e.1)) names

pub position-found : (y : Lists) (names : List (ℕ × Standing)) (client : ℕ)
    → position_in (placed y names) client ≡ option_map (position_by y) (standing_of_client names client)
position-found y [] client = refl
position-found y (e ∷ names) client = grind (arith, nat_tests, position-found y names client)

pub inside-found : (y : Lists) (names : List (ℕ × Standing))
    → count_by is_inside (values_of (placed y names)) ≡ count_by is_walking (values_of names)
inside-found y [] = refl
inside-found y ((client, Walking token) ∷ names) =
    let a = count-cons is_inside (position_by y (Walking token)) (values_of (placed y names)) in
    omega (arith, inside-found y names, count-cons is_walking (Walking token) (values_of names))
inside-found y ((client, Named name) ∷ names) =
    let a = count-cons is_inside (position_by y (Named name)) (values_of (placed y names)) in
    omega (arith, inside-found y names, count-cons is_walking (Named name) (values_of names))

-- ---- what a yard that has changed says of a client

-- a client whose token did not change stands where it stood
abbrev StaysFor : Lists → Lists → ℕ × Standing → Type 0
StaysFor y z e = (position_by z e.1 ≡ position_by y e.1) × StandsFor z e.0 e.1

stays : (y z : Lists) (client token : ℕ) (s : Standing) → ((other : ℕ) → other ≢ token → standing z other ≡ standing y other)
    → (s ≡ Walking token → ⊥) → StandsFor y client s → StaysFor y z (client, s)
stays y z client token (Walking other) same differ (wire, stands) =
    let e = same other (λ t. differ (ap Walking t)) in
    (rw e refl, (wire, e ∙ stands))
stays y z client token (Named name) same differ stands = (refl, tt)

-- the token of one client is not another's
distinct-by : (y : Lists) (client other token wire : ℕ) (s : Standing) → standing y token ≡ Some (wire, client) → StandsFor y other s
    → client ≢ other → s ≡ Walking token → ⊥
distinct-by y client other token wire (Walking t) stands (w, its) differ e =
    let same : t ≡ token = cc in
    let both : ◌≡◌ {A = Option (ℕ × ℕ)} (Some (wire, client)) (Some (w, other)) = sym stands ∙ (rw same at its) in
    differ (second both)
  where
    second : {a b : ℕ × ℕ} → ◌≡◌ {A = Option (ℕ × ℕ)} (Some a) (Some b) → a.1 ≡ b.1
    second h = cc
distinct-by y client other token wire (Named name) stands its differ e = cc

-- ---- all clients but one

-- each walking client's token stands for it
abbrev pub AllStand : Lists → List (ℕ × Standing) → Type 0
AllStand y names = All (λ e. StandsFor y e.0 e.1) names

tail : (y : Lists) (e : ℕ × Standing) (names : List (ℕ × Standing)) → AllStand y (e ∷ names) → AllStand y names
tail y e names all k d h = all (suc k) d (omega arith)

-- where nobody is moved, all are where they were
placed-same : (y z : Lists) (names : List (ℕ × Standing)) → All (StaysFor y z) names → placed z names ≡ placed y names
placed-same y z [] each = refl
placed-same y z (e ∷ names) each =
    rw ((each 0 e (omega arith)).0, placed-same y z names (All-tail (StaysFor y z) e names each)) refl

-- a change that leaves as they were all who are not the client
abbrev Spares : Lists → Lists → ℕ → Type 0
Spares y z client = (e : ℕ × Standing) → StandsFor y e.0 e.1 → client ≢ e.0 → StaysFor y z e

-- where the client is nowhere in the table, no entry is its
others : (y z : Lists) (client : ℕ) (names : List (ℕ × Standing)) → Spares y z client → AllStand y names
    → count_by (λ e. nat_eq client e.0) names ≡ 0 → All (StaysFor y z) names
others y z client names spares all none k d h =
    let e : ℕ × Standing = get_or names k d in
    let most = get_or-le-sum_by (λ (x : ℕ × Standing). cond (nat_eq client x.0) 1 0) names k d h in
    spares e (all k d h) (λ same. absurd (let one = rw (eq-eqb client e.0 same) at most in omega arith))

-- one client has another standing, or its token another wire: so its position changes, and no other
placed-one : (y z : Lists) (client token : ℕ) (s : Standing) (p : Position) (names : List (ℕ × Standing)) → Spares y z client
    → position_by z s ≡ p
    → AllStand y names → count_by (λ e. nat_eq client e.0) names ≤ 1
    → placed z (with_standing names client s) ≡ with_position (placed y names) client p
placed-one y z client token s p [] spares is all once = refl
placed-one y z client token s p (e ∷ names) spares is all once =
    let spare : client ≢ e.0 → position_by z e.1 ≡ position_by y e.1 = λ d. (spares e (all 0 e (omega arith)) d).0 in
    let rest = placed-one y z client token s p names spares is (tail y e names all) in
    let rest-same = λ (none : count_by (λ x. nat_eq client x.0) names ≡ 0).
    placed-same y z names (others y z client names spares (tail y e names all) none) in
    grind (arith, nat_tests, sum_by-cons (λ (x : ℕ × Standing). cond (nat_eq client x.0) 1 0) e names)

stand-one : (y z : Lists) (client : ℕ) (s : Standing) (names : List (ℕ × Standing)) → Spares y z client → StandsFor z client s
    → AllStand y names → count_by (λ e. nat_eq client e.0) names ≤ 1
    → AllStand z (with_standing names client s)
stand-one y z client s [] spares is all once = λ k d h. absurd (omega arith)
stand-one y z client s (e ∷ names) spares is all once =
    let sum = sum_by-cons (λ (x : ℕ × Standing). cond (nat_eq client x.0) 1 0) e names in
    elim (cases_eq client e.0) [
      | inl its ↦
          let one : ◌≡◌ {A = ℕ} (cond (nat_eq client e.0) 1 0) 1 = rw (eq-eqb client e.0 its) refl in
          let none : count_by (λ x. nat_eq client x.0) names ≡ 0 = omega (arith, sum) in
          rw (eq-eqb client e.0 its) (All-cons (λ x. StandsFor z x.0 x.1) (e.0, s) names (rw its at is)
          (λ k d h. (others y z client names spares (tail y e names all) none k d h).1))
      | inr differ ↦
          let rest = stand-one y z client s names spares is (tail y e names all) (omega (arith, sum)) in
          rw (ne_eqb client e.0 differ) (All-cons (λ x. StandsFor z x.0 x.1) e (with_standing names client s)
          (spares e (all 0 e (omega arith)) differ).1 rest)
    ]

-- a standing that a client has already
with-same : (client : ℕ) (s : Standing) (names : List (ℕ × Standing)) → standing_of_client names client ≡ Some s
    → with_standing names client s ≡ names
with-same client s [] found = refl
with-same client s ((c, t) ∷ names) found = grind (arith, nat_tests, with-same client s names)

-- ---- the changes

-- whoever is not the client of a token is spared where only that token changes
spared : (y z : Lists) (client token wire : ℕ) → standing y token ≡ Some (wire, client)
    → ((other : ℕ) → other ≢ token → standing z other ≡ standing y other) → Spares y z client
spared y z client token wire stands same e its differ =
    stays y z e.0 token e.1 same (distinct-by y client e.0 token wire e.1 stands its differ) its

-- the token of a walking client stands for it
pub stands-for : (y : Lists) (names : List (ℕ × Standing)) (client token : ℕ) → AllStand y names
    → standing_of_client names client ≡ Some (Walking token)
    → (wire : ℕ) × (standing y token ≡ Some (wire, client))
stands-for y [] client token all found = absurd (cc)
stands-for y (e ∷ names) client token all found = elim (cases_eq client e.0) [
  | inl who ↦
      let its : e.1 ≡ Walking token = let here = rw (eq-eqb client e.0 who) at found in cc in
      rw who (rw its at (all 0 e (omega arith)))
  | inr differ ↦ stands-for y names client token (tail y e names all) (rw (ne_eqb client e.0 differ) at found)
]

-- a client comes in with a token
pub come : {y z : Yard} {names : List (ℕ × Standing)} {client token wire : ℕ} → Admits y z token client wire
    → IsPlaced (record { yard = y; names = names }) → standing_of_client names client ≡ None
    → (placed z.lists (names ++ (client, Walking token) ∷ []) ≡ placed y.lists names ++ (client, On wire) ∷ [])
    × IsPlaced (record { yard = z; names = names ++ (client, Walking token) ∷ [] })
come {y} {z} {names} {client} {token} {wire} a is absent =
    let now : standing z.lists token ≡ Some (wire, client) = a.standing_now token ∙ rw (eq-eqb token token refl) refl in
    let all : All (StaysFor y.lists z.lists) names = λ k d h. each (get_or names k d) (is.stand k d h) in (
      map-append (λ (e : ℕ × Standing). (e.0, position_by z.lists e.1)) names ((client, Walking token) ∷ [])
          ∙ rw (placed-same y.lists z.lists names all, now) refl,
      record {
        stand = All-push (λ e. StandsFor z.lists e.0 e.1) names (client, Walking token)
            (λ k d h. (all k d h).1) (wire, now);
        once = λ q. grind (arith, nat_tests, is.once q, times-push names client (Walking token) q, times-absent names client absent);
        walking = a.tokens ∙ omega (arith, is.walking, count-push is_walking names client (Walking token));
      },
    )
  where
    each : (e : ℕ × Standing) → StandsFor y.lists e.0 e.1 → StaysFor y.lists z.lists e
    each e its = stays y.lists z.lists e.0 token e.1
        (λ other n. a.standing_now other ∙ rw (ne_eqb other token n) refl) (fresh e.1 its) its
      where
        fresh : (s : Standing) → StandsFor y.lists e.0 s → s ≡ Walking token → ⊥
        fresh (Walking t) (w, h) q = let same : t ≡ token = cc in let found = rw same at h in let none = a.fresh in absurd (cc)
        fresh (Named name) h q = cc

-- a client's token goes to another wire
pub go : {y z : Yard} {names : List (ℕ × Standing)} (client : ℕ) {token wire : ℕ}
    → ((from who : ℕ) → standing y.lists token ≡ Some (from, who) → Moves y z token who wire)
    → IsPlaced (record { yard = y; names = names }) → standing_of_client names client ≡ Some (Walking token)
    → (placed z.lists names ≡ with_position (placed y.lists names) client (On wire)) × IsPlaced (record { yard = z; names = names })
go {y} {z} {names} client {token} {wire} moves is found =
    let (from, stands) = stands-for y.lists names client token is.stand found in
    let m = moves from client stands in
    let spares = spared y.lists z.lists client token from stands
    (λ other n. m.standing_now other ∙ rw (ne_eqb other token n) refl) in
    let now : standing z.lists token ≡ Some (wire, client) = m.standing_now token ∙ rw (eq-eqb token token refl) refl in
    let same = with-same client (Walking token) names found in
    let one = placed-one y.lists z.lists client token (Walking token) (On wire) names spares (rw now refl) is.stand (is.once client) in
    let all = stand-one y.lists z.lists client (Walking token) names spares (wire, now) is.stand (is.once client) in
    (rw same at one, record { stand = rw same at all; once = is.once; walking = m.tokens ∙ is.walking })

-- a client leaves with a name
pub leave : {y z : Yard} {names : List (ℕ × Standing)} (client name : ℕ) {token : ℕ} → Releases y z token
    → IsPlaced (record { yard = y; names = names }) → standing_of_client names client ≡ Some (Walking token)
    → (placed z.lists (with_standing names client (Named name)) ≡ with_position (placed y.lists names) client (Holds name))
    × IsPlaced (record { yard = z; names = with_standing names client (Named name) })
leave {y} {z} {names} client name {token} r is found =
    let (from, stands) = stands-for y.lists names client token is.stand found in
    let spares = spared y.lists z.lists client token from stands
    (λ other n. r.standing_now other ∙ rw (ne_eqb other token n) refl) in (
      placed-one y.lists z.lists client token (Named name) (Holds name) names spares refl is.stand (is.once client),
      record {
        stand = stand-one y.lists z.lists client (Named name) names spares tt is.stand (is.once client);
        once = λ q. rw (times-set names client (Named name) q) (is.once q);
        walking = omega (arith, r.tokens, is.walking, count-set is_walking names client (Named name) (Walking token) found);
      },
    )

-- a client that came in and went at once has left no trace
pub undo : {y z w : Yard} {names : List (ℕ × Standing)} {client token wire : ℕ} → Admits y z token client wire
    → Releases z w token → IsPlaced (record { yard = y; names = names })
    → (placed w.lists names ≡ placed y.lists names) × IsPlaced (record { yard = w; names = names })
undo {y} {z} {w} {names} {client} {token} {wire} a r is = (
  placed-same y.lists w.lists names all,
  record {
    stand = λ k d h. (all k d h).1;
    once = is.once;
    walking = omega (arith, a.tokens, r.tokens, is.walking);
  },
)
  where
    same : (other : ℕ) → standing w.lists other ≡ standing y.lists other
    same other = grind (arith, nat_tests, r.standing_now other, a.standing_now other, a.fresh)

    each : (e : ℕ × Standing) → StandsFor y.lists e.0 e.1 → StaysFor y.lists w.lists e
    each (client, Walking t) (u, h) = (rw (same t) refl, (u, same t ∙ h))
    each (client, Named name) h = (refl, tt)

    all : All (StaysFor y.lists w.lists) names
    all k d h = each (get_or names k d) (is.stand k d h)

-- ---- who is in the table

pub absent-found : (y : Lists) (names : List (ℕ × Standing)) (client : ℕ) → position_in (placed y names) client ≡ None
    → standing_of_client names client ≡ None
absent-found y names client none = by (standing_of_client names client) refl (sym (position-found y names client) ∙ none)
  where
    by : (s : Option Standing) → standing_of_client names client ≡ s → option_map (position_by y) s ≡ None
        → standing_of_client names client ≡ None
    by None e h = e
    by (Some s) e h = absurd (cc)

pub live-found : {y : Yard} {names : List (ℕ × Standing)} (client : ℕ) {token : ℕ}
    → IsPlaced (record { yard = y; names = names }) → standing_of_client names client ≡ Some (Walking token)
    → IsSome (standing y.lists token)
live-found {y} {names} client {token} is found =
    let (wire, stands) = stands-for y.lists names client token is.stand found in rw stands refl

pub nobody : (y : Yard) → tokens_in y.lists ≡ 0 → IsPlaced (record { yard = y; names = [] })
nobody y none = record { stand = λ k d h. absurd (omega arith); once = λ q. omega arith; walking = none }
