-- How many atomic steps a list takes.
use Rattle.cn_lists.proofs.Common.{◌≡◌, ℕ, zero, suc, ◌+◌, ◌*◌, ◌<◌, ◌≤◌, inl, inr, List, [], ◌∷◌, length, length-append, refl, ap, ◌∙◌, arith, mul-le-mul_left, Balancer, End, Exit, Grant, Start, StoodInState, View, after_step, after_sweep, cases_lt, end_of, length_push, on, sum-below-part, tokens_in, IsNetwork, after_enters, WalkTogether, SweptBy, after_steps, grants-kept, grants-left, kin-by, no-levels, some-inside, state-after}
use Rattle.cn_floor.specs.declared.view.Passage.{Passage}
use Rattle.cn_tables.proofs.CallerLemmas.{levels}

-- how often a view's tokens went by an end
abbrev went : View → ℕ
went v = length v.passages + length v.grants

went-one : (end : End) (n token client : ℕ) (v : View) → went (after_step token client end n v) ≡ went v + 1
went-one (Balancer b) n token client v = omega (arith, length_push {X = Passage})
went-one (Exit i) n token client v = omega (arith, length_push {X = Grant})

went-by : (end : End) (n : ℕ) (tokens : List (ℕ × ℕ)) (v : View) → went (after_steps end n tokens v) ≡ went v + length tokens
unfolding after_steps
went-by end n [] v = omega arith
went-by end n (e ∷ rest) v =
    omega (arith, went-by end (n + 1) rest (after_step e.0 e.1 end n v), went-one end n e.0 e.1 v)

-- a sweep takes no grant away
grants-grow : (end : End) (n : ℕ) (tokens : List (ℕ × ℕ)) (v : View) → length v.grants ≤ length (after_steps end n tokens v).grants
grants-grow (Balancer b) n tokens v = omega (arith, ap length (grants-kept b n tokens v))
grants-grow (Exit i) n tokens v = omega (arith, ap length (grants-left i n tokens v), length-append {A = Grant})

-- wires were swept, by so many clients at most: each sweep lets some go by, and no more than are inside
record HasSwept (start : Start) (wires n : ℕ) (v w : View) : Type 0 where
  stood : StoodInState start w
  entries : length w.entries ≡ length v.entries
  some : went v + wires ≤ went w
  most : length v.entries ≤ length v.grants + n → went w ≤ went v + n * wires

has-swept : (start : Start) (n : ℕ) (wires : List ℕ) (v w : View) → StoodInState start v → SweptBy start wires v w
    → HasSwept start (length wires) n v w
unfolding SweptBy
has-swept start n [] v w stood same = rw same (search arith)
has-swept start n (wire ∷ wires) v w stood (first, some, by, rest) =
    let end = end_of start.network.table wire in
    let next : View = after_sweep wire end first v in
    let tokens = on v.tokens wire in
    let account = by.step.kept_before.accounted by.step.id v by.step.here in
    let part = sum-below-part (length v.tokens) wire (λ u. length (on v.tokens u)) (some-inside v.tokens wire some) in
    let same : length next.entries ≡ length v.entries = ap length (kin-by end first tokens v).entries in
    let later = has-swept start n wires next w (state-after _ _ _ _ by.step) rest in
    record {
      stood = later.stood;
      entries = later.entries ∙ same;
      some = omega (arith, later.some, went-by end first tokens v, some);
      most = λ most. omega (
        arith,
        later.most (omega (arith, most, same, grants-grow end first tokens v)),
        went-by end first tokens v,
        part,
        account.all,
        most,
      );
    }

-- clients that come in go by no end
came-went : (clients : List ℕ) (entry place n : ℕ) (v : View)
    → (went (after_enters clients entry place n v) ≡ went v)
    × (length (after_enters clients entry place n v).grants ≡ length v.grants)
unfolding after_enters
came-went clients entry place zero v = (refl, refl)
came-went clients entry place (suc n) v = came-went clients entry (suc place) n _

-- a view in a state, with nobody inside, went by as many ends as its clients that left
out-went : (start : Start) (v : View) → IsNetwork start.network → StoodInState start v → tokens_in v.tokens ≡ 0
    → (length v.entries ≡ length v.grants) × (went v ≡ (start.network.depth + 1) * length v.grants)
out-went start v net (s, stood) none =
    let (level, is) = levels start.network.table net.formed start.network.depth net.deep in
    let account = stood.kept.accounted stood.id v stood.here in
    (omega (arith, account.all, none), omega (arith, account.walked level is, no-levels level v none))

-- at most one, and for each client the depth and one; and if there is one, the depth and two
pub together-steps : (start : Start) (clients : List ℕ) (entry n : ℕ) (v w : View) → IsNetwork start.network
    → WalkTogether start clients entry v w → tokens_in v.tokens ≡ 0 → tokens_in w.tokens ≡ 0 → length w.grants ≡ length v.grants + n
    → (w.steps ≤ v.steps + 1 + (start.network.depth + 1) * n) × (0 < n → v.steps + (start.network.depth + 2) ≤ w.steps)
together-steps start clients entry n v w net walk none out more =
    let step = walk.came in
    let d : ℕ = start.network.depth + 1 in
    let before = out-went start v net (step.old, record { id = step.id; here = step.here; kept = step.kept_before }) none in
    let came = came-went clients entry 0 (length clients) v in
    let swept = has-swept start n walk.wires _ w (state-after _ _ _ _ step) walk.swept in
    let after = out-went start w net swept.stood out in
    let all : d * length w.grants ≡ d * length v.grants + d * n = ap (λ (k : ℕ). d * k) more ∙ omega arith in
    let most = swept.most (omega (arith, swept.entries, after.0, more, came.1)) in (
      omega (arith, walk.steps, swept.some, came.0, before.1, after.1, all),
      λ some. elim (cases_lt (length walk.wires) d) [
        | inr l ↦ omega (arith, walk.steps, l)
        | inl l ↦
            let few : length walk.wires ≤ start.network.depth = omega (arith, l) in
            absurd (omega (arith, most, came.0, before.1, after.1, all, some, mul-le-mul_left n few))
      ],
    )
