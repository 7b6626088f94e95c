-- Lanes that filled slots.
use Rattle.cn_clients.proofs.Common.{◌≡◌, ℕ, ◌+◌, ◌<◌, inl, inr, List, [], ◌∷◌, ◌++◌, length, get_or, map, replicate, refl, sym, ap, ◌∙◌, subst, arith, append_assoc, append-nil, get_or-replicate, get_or_past, length-append, length-map, length-replicate, map-append, sum-below-zero, Yard, empty, on, tokens_in, Grant, LaneValue, IsNamed, Filled, FilledBy, given, names_of, written}
use Rattle.std.proofs.lemmas.Bool.{cases_lt}
use Rattle.std.proofs.lemmas.List.Elements.{All-push}
use Rattle.std.proofs.lemmas.Simd.{map-map}
use Rattle.std.specs.Sync.OnceLock.{Named}
use Rattle.cn_spec.specs.Step.{IsEachBelow}

pub filled-none : (slots : List Named) (lane : LaneValue) → FilledBy slots lane lane [] []
filled-none slots lane = record {
  home = refl;
  lists = refl;
  grants = ([], sym (append-nil lane.view.grants), refl);
  all = refl;
  by_name = λ k d less. absurd (omega arith);
}

pub filled-one : (slots : List Named) (a b c : LaneValue) (clients : List ℕ) (filled : List Filled) (one : Filled) (entry : ℕ)
    → FilledBy slots a b clients filled → IsNamed b c one.client entry one.name
    → (one.name < length slots) × (one.slot.now ≡ get_or slots one.name one.slot.now)
    → FilledBy slots a c (clients ++ one.client ∷ []) (filled ++ one ∷ [])
filled-one slots a b c clients filled one entry by is at =
    let (more, grants, same) = by.grants in
    let grant : List Grant = record { client = one.client; exit = is.exit; visit = is.visit; name = one.name } ∷ [] in
    record {
      home = is.home ∙ by.home;
      lists = ap (λ (y : Yard). y.lists) is.yard ∙ by.lists;
      grants = (
        more ++ grant,
        is.grants ∙ ap (λ (gs : List Grant). gs ++ grant) grants ∙ append_assoc a.view.grants more grant,
        map-append written filled (one ∷ []) ∙ ap (λ (ps : List (ℕ × ℕ)). ps ++ (one.name, one.client) ∷ []) same
            ∙ sym (map-append given more grant),
      );
      all = map-append (λ (f : Filled). f.client) filled (one ∷ []) ∙ ap (λ (cs : List ℕ). cs ++ one.client ∷ []) by.all;
      by_name = All-push (λ (f : Filled). (f.name < length slots) × (f.slot.now ≡ get_or slots f.name f.slot.now)) filled one by.by_name at;
    }

-- the names of the slots are those of all grants of a lane that had none
pub names-all : (slots : List Named) (a b : LaneValue) (clients : List ℕ) (filled : List Filled) → a.view.grants ≡ []
    → FilledBy slots a b clients filled → map (λ g. g.name) b.view.grants ≡ names_of filled
names-all slots a b clients filled none by =
    let (more, grants, same) = by.grants in
    ap (λ (gs : List Grant). map (λ (g : Grant). g.name) gs) (grants ∙ ap (λ (gs : List Grant). gs ++ more) none)
    ∙ sym (map-map (λ (p : ℕ × ℕ). p.0) given more)
    ∙ ap (λ (ps : List (ℕ × ℕ)). map (λ (p : ℕ × ℕ). p.0) ps) (sym same)
    ∙ map-map (λ (p : ℕ × ℕ). p.0) written filled

-- nobody is in an empty yard
pub nobody-in : (n : ℕ) → tokens_in (empty n).lists ≡ 0
nobody-in n =
    sum-below-zero (length (empty n).lists) (λ u. length (on (empty n).lists u)) (λ u. ap (λ (es : List (ℕ × ℕ)). length es) (none u))
  where
    none : (u : ℕ) → on (empty n).lists u ≡ []
    none u = elim (cases_lt u n) [
      | inl l ↦ get_or-replicate n u [] [] l
      | inr l ↦ get_or_past (replicate n []) u [] (omega (arith, length-replicate {A = List (ℕ × ℕ)} n []))
    ]

-- the grants of two lanes that had none are of all slots
pub all-filled : (slots : List Named) (a b c d : LaneValue) (first second : List ℕ) (one two : List Filled) (grants : List Grant)
    → a.view.grants ≡ [] → c.view.grants ≡ [] → FilledBy slots a b first one → FilledBy slots c d second two
    → grants ≡ b.view.grants ++ d.view.grants
    → IsEachBelow (length grants) (map (λ g. g.name) grants) → IsEachBelow (length one + length two) (names_of one ++ names_of two)
all-filled slots a b c d first second one two grants none none' by by' is each =
    let names : map (λ (g : Grant). g.name) grants ≡ names_of one ++ names_of two =
    ap (λ (gs : List Grant). map (λ (g : Grant). g.name) gs) is ∙ map-append (λ (g : Grant). g.name) b.view.grants d.view.grants
    ∙ (λ i. names-all slots a b first one none by i ++ names-all slots c d second two none' by' i) in
    let many : length grants ≡ length one + length two =
    omega (
      arith,
      length-map grants (λ (g : Grant). g.name),
      ap (λ (ns : List ℕ). length ns) names,
      length-append (names_of one) (names_of two),
      length-map one (λ (f : Filled). f.name),
      length-map two (λ (f : Filled). f.name),
    ) in
    subst (λ (x : ℕ × List ℕ). IsEachBelow x.0 x.1) (λ i. (many i, names i)) each
