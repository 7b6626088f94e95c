-- Lanes that gave names.
use Rattle.cn_clients.proofs.Common.{◌≡◌, ℕ, ◌+◌, ◌<◌, ◌≤◌, All, List, [], ◌∷◌, ◌++◌, length, get_or, refl, sym, ap, ◌∙◌, subst, arith, append_assoc, append-nil, get_or-append-add, get_or-map, length-append, length-map, map-append, times, times-append, Yard, Grant, LaneValue, IsNamed, GaveNames, names_granted}

pub gave-none : (lane : LaneValue) → GaveNames lane lane [] []
gave-none lane = record { home = refl; lists = refl; grants = ([], sym (append-nil lane.view.grants), (refl, refl)) }

pub gave-one : (a b c : LaneValue) (clients names : List ℕ) (client entry name : ℕ) → GaveNames a b clients names
    → IsNamed b c client entry name → GaveNames a c (clients ++ client ∷ []) (names ++ name ∷ [])
gave-one a b c clients names client entry name gave is =
    let (more, grants, (who, said)) = gave.grants in
    let one : List Grant = record { client = client; exit = is.exit; visit = is.visit; name = name } ∷ [] in
    record {
      home = is.home ∙ gave.home;
      lists = ap (λ (y : Yard). y.lists) is.yard ∙ gave.lists;
      grants = (
        more ++ one,
        is.grants ∙ ap (λ (gs : List Grant). gs ++ one) grants ∙ append_assoc a.view.grants more one,
        (
          ap (λ (cs : List ℕ). cs ++ client ∷ []) who ∙ sym (map-append (λ (g : Grant). g.client) more one),
          ap (λ (ns : List ℕ). ns ++ name ∷ []) said ∙ sym (map-append (λ (g : Grant). g.name) more one),
        ),
      );
    }

-- the names that a lane gave are among those of its grants
pub among : (a b : LaneValue) (clients names : List ℕ) → GaveNames a b clients names → (name : ℕ)
    → times name names ≤ times name (names_granted b.view.grants)
among a b clients names gave name =
    let (more, grants, (_, said)) = gave.grants in
    omega (
      arith,
      ap (λ (ns : List ℕ). times name ns) said,
      ap (λ (gs : List Grant). times name (names_granted gs)) grants,
      ap (λ (ns : List ℕ). times name ns) (map-append (λ (g : Grant). g.name) a.view.grants more),
      times-append name (names_granted a.view.grants) (names_granted more),
    )

-- what is below a bound in a lane is below it among these names
pub below : (a b : LaneValue) (clients names : List ℕ) (bound : ℕ) → GaveNames a b clients names → All (λ g. g.name < bound) b.view.grants
    → All (λ name. name < bound) names
below a b clients names bound gave low k d less =
    let (more, grants, (_, said)) = gave.grants in
    let none : Grant = record { client = 0; exit = 0; visit = 0; name = 0 } in
    let long : length names ≡ length more = ap (λ (ns : List ℕ). length ns) said ∙ length-map more (λ (g : Grant). g.name) in
    let all : All (λ (g : Grant). g.name < bound) (a.view.grants ++ more) =
    subst (λ (gs : List Grant). All (λ (g : Grant). g.name < bound) gs) grants low in
    let at : get_or (a.view.grants ++ more) (length a.view.grants + k) none ≡ get_or more k none =
    get_or-append-add a.view.grants more k none in
    let this : (get_or more k none).name < bound =
    subst (λ (g : Grant). g.name < bound) at
    (all (length a.view.grants + k) none (omega (arith, less, long, length-append a.view.grants more))) in
    let name : get_or names k d ≡ (get_or more k none).name =
    ap (λ (ns : List ℕ). get_or ns k d) said ∙ get_or-map (λ (g : Grant). g.name) more k none d (omega (arith, less, long)) in
    omega (arith, name, this)

-- each client has a name
pub as-many : (a b : LaneValue) (clients names : List ℕ) → GaveNames a b clients names → length names ≡ length clients
as-many a b clients names gave =
    let (more, _, (who, said)) = gave.grants in
    ap (λ (ns : List ℕ). length ns) said ∙ length-map more (λ (g : Grant). g.name) ∙ sym (length-map more (λ (g : Grant). g.client))
    ∙ ap (λ (cs : List ℕ). length cs) (sym who)

-- a lane that was looked at since gave the same names
pub gave-still : (a b c : LaneValue) (clients names : List ℕ) → GaveNames a b clients names → c.home ≡ b.home → c.yard.lists ≡ b.yard.lists
    → c.view.grants ≡ b.view.grants → GaveNames a c clients names
gave-still a b c clients names gave home lists grants =
    let (more, was, which) = gave.grants in
    record { home = home ∙ gave.home; lists = lists ∙ gave.lists; grants = (more, grants ∙ was, which) }
