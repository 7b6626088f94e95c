-- Wires are swept one after the other.
use Rattle.cn_lists.proofs.Common.{◌≡◌, ℕ, ◌+◌, List, [], ◌∷◌, ◌++◌, length, refl, sym, ap, ◌∙◌, subst, arith, AreLetBy, End, IsAtomicStep, Start, View, after_sweep, end_of, ComeTogether, EnterInTurn, after_enter_all, WalkTogether, GoTogether, SweptBy}

-- some wires were swept
abbrev pub IsSwept : Start → View → View → Type 0
IsSwept start v w = (wires : List ℕ) × SweptBy start wires v w

-- none was
pub swept-none : (start : Start) (v : View) → IsSwept start v v
unfolding SweptBy
swept-none start v = ([], refl)

-- one wire first, on which some stand, and then others
pub swept-first : {start : Start} {wire : ℕ} {end : End} {n : ℕ} {v w : View} (x : View) → GoTogether start wire end n v w
    → IsSwept start w x → IsSwept start v x
unfolding SweptBy
swept-first {start} {wire} {end} {n} {v} {w} x go (wires, later) =
    let is : w ≡ after_sweep wire (end_of start.network.table wire) n v =
    go.went ∙ ap (λ (e : End). after_sweep wire e n v) (sym go.ends) in (
      wire ∷ wires,
      (
        n,
        go.some,
        subst (λ (z : View × End). AreLetBy start v z.0 wire z.1 n) (λ i. (is i, (sym go.ends) i)) go.by,
        subst (λ (y : View). SweptBy start wires y x) is later,
      ),
    )

-- some wires, and then others
swept-on : (start : Start) (wires more : List ℕ) (v w x : View) → SweptBy start wires v w → SweptBy start more w x
    → SweptBy start (wires ++ more) v x
unfolding SweptBy
swept-on start [] more v w x same later = subst (λ (y : View). SweptBy start more y x) same later
swept-on start (wire ∷ wires) more v w x (n, some, by, rest) later = (n, some, by, swept-on start wires more _ w x rest later)

pub swept-both : (start : Start) (v w x : View) → IsSwept start v w → IsSwept start w x → IsSwept start v x
swept-both start v w x (wires, first) (more, later) = (wires ++ more, swept-on start wires more v w x first later)

-- a step for each
swept-steps : (start : Start) (wires : List ℕ) (v w : View) → SweptBy start wires v w → w.steps ≡ v.steps + length wires
unfolding SweptBy
swept-steps start [] v w same = omega (arith, ap (λ (x : View). x.steps) same)
swept-steps start (wire ∷ wires) v w (n, some, by, rest) = omega (arith, swept-steps start wires _ w rest)

-- who came in together and were swept out walked together
pub walk-together : (start : Start) (clients : List ℕ) (entry : ℕ) (v w x : View) → ComeTogether start clients entry v w → IsSwept start w x
    → WalkTogether start clients entry v x
walk-together start clients entry v w x (is, step) (wires, swept) =
    let out : SweptBy start wires (after_enter_all clients entry v) x = subst (λ (y : View). SweptBy start wires y x) is swept in
    record {
      came = subst (λ (y : View). IsAtomicStep start v y (EnterInTurn start.network.table clients entry 0 (length clients))) is step;
      wires = wires;
      swept = out;
      steps = omega (arith, swept-steps start wires (after_enter_all clients entry v) x out);
    }
