-- A client that walks through by itself.
use Rattle.cn_floor.proofs.Common.{◌≡◌, ℕ, ◌+◌, ◌-◌, ◌^◌, ◌<◌, ◌≤◌, ◌++◌, ◌∷◌, inl, inr, All, List, [], get_or, length, replicate, refl, sym, subst, ap, ◌∙◌, arith, mul-le-mul_left, get_or-append_seam, Exit, Grant, IsAlone, IsAtomicStep, IsStart, Ledger, Start, StoodInState, View, after_enter, after_step, base, cases_lt, last_on, length-map-range_with_len, length_push, name_of, on, without, OnlyPassed, PassesOn, IsGranted, WalksThrough, FitsLanes}
use Rattle.cn_floor.proofs.Lists.{made_at, made-beyond}
use Rattle.cn_floor.proofs.AtClose.Rises.{all-empty}
use Rattle.cn_floor.proofs.InStates.Bounds.{few-came}
use Rattle.cn_floor.proofs.InStates.Fresh.{load-bound-few}
use Rattle.cn_floor.proofs.Lists.{lists-after-on}
use Rattle.cn_floor.proofs.InLane.Alone.{nobody-else, off-own, passed-more, passed-on}
use Rattle.cn_floor.proofs.InLane.Depths.{walked-steps}
use Rattle.cn_floor.proofs.InLane.Yards.{nobody-there}

-- if nobody stands on any wire, who comes in stands alone
pub alone-entered : (token client entry : ℕ) (v : View) → entry < length v.tokens → ((u : ℕ) → on v.tokens u ≡ [])
    → IsAlone (after_enter token client entry v).tokens token client entry
alone-entered token client entry v inside out =
    let make : ℕ → List (ℕ × ℕ) = λ u. on v.tokens u ++ last_on token client entry u in
    record {
      inside = omega (arith, length-map-range_with_len make 0 (length v.tokens));
      only = λ u. elim (cases_lt u (length v.tokens)) [
        | inl l ↦ made_at v.tokens make u l ∙ ap (λ (es : List (ℕ × ℕ)). es ++ last_on token client entry u) (out u)
        | inr l ↦ made-beyond v.tokens make u l ∙ sym (off-own token client entry u (λ e. omega (arith, e, l, inside)))
      ];
    }

-- who stands alone and leaves, leaves nobody
pub gone-alone : (token client wire exit n : ℕ) (v : View) → IsAlone v.tokens token client wire
    → (after_step token client (Exit exit) n v).tokens ≡ replicate (length v.tokens) []
gone-alone token client wire exit n v is =
    let lists = (after_step token client (Exit exit) n v).tokens in
    let each : (u : ℕ) → on lists u ≡ [] =
    λ u. lists-after-on v.tokens token (λ _. []) (λ _ _. refl) u
    ∙ ap (λ (es : List (ℕ × ℕ)). es ++ []) (nobody-else v.tokens token client wire is u) in
    all-empty lists (nobody-there lists (λ u. ap length (each u)))
    ∙ ap (λ (k : ℕ). replicate k []) (length-map-range_with_len (λ u. without token (on v.tokens u) ++ []) 0 (length v.tokens))

-- after a step a lane stands in a state
pub state-after : (start : Start) (v w : View) (event : Ledger → Ledger → Type 0) → IsAtomicStep start v w event → StoodInState start w
state-after start v w event step = (step.new, record { id = step.id; here = step.there; kept = step.kept_after })

-- in a state the names of a lane are below what the floor may let in
pub names-low : (start : Start) (v : View) → IsStart start → StoodInState start v → All (λ g. g.name < start.quota) v.grants
names-low start v began (s, in_state) k d less =
    let f = in_state.kept.fresh in_state.id v in_state.here in
    omega (
      arith,
      f.names k d less,
      load-bound-few start.network.table s.words v.loads f.low,
      few-came start s record { began = began; rule = in_state.kept },
    )

-- who passes balancers changes nothing else of a lane
passed-only : (start : Start) (token client : ℕ) (numbers : List ℕ) (wire : ℕ) (v : View) (to : ℕ) (w : View)
    → PassesOn start token client numbers wire v to w → OnlyPassed v w
unfolding PassesOn
passed-only start token client [] wire v to w (_, same) = rw same search
passed-only start token client (n ∷ rest) wire v to w (b, ends, by, on) =
    passed-more _ _ _ (passed-on token client b n v) (passed-only start token client rest _ _ to w on)

-- the name of a visit is a number of 64 bits where no more can come than lanes let in
pub name-small : (start : Start) (i n : ℕ) → IsStart start → FitsLanes start → i < start.network.table.width → n ≤ base start + start.quota
    → name_of start.network.table.width i n < 2 ^ 64
name-small start i n began small low few =
    let narrow = began.network.formed.width in
    let most : n ≤ 4294967296 = omega (arith, few, small.few, small.quota) in
    omega (arith, mul-le-mul_left start.network.table.width most, narrow, low)

-- its grant, and that the name is a number of 64 bits
module _ (start : Start) (client entry exit visit : ℕ) (v w : View) (began : IsStart start) (of : v.start ≡ start)
    (is : WalksThrough start client entry exit visit v w) (some-quota : 0 < v.quota) where
  abbrev name : ℕ
  name = name_of start.network.table.width exit visit - base start

  abbrev grant : Grant
  grant = record { client = client; exit = exit; visit = visit; name = name }

  only : OnlyPassed is.inside is.before
  only = passed-only start is.token client is.numbers entry is.inside is.wire is.before is.passes

  more : w.grants ≡ v.grants ++ grant ∷ []
  more =
      let begun : is.before.start ≡ start = only.start ∙ ap (λ (x : View). x.start) is.came ∙ of in
      let had : is.before.grants ≡ v.grants = only.grants ∙ ap (λ (x : View). x.grants) is.came in
      let named = λ (s : Start). record grant { name = name_of s.network.table.width exit visit - base s } in
      ap (λ (x : View). x.grants) is.after ∙ (λ i. had i ++ named (begun i) ∷ [])

  stood : StoodInState start w
  stood = state-after _ _ _ _ is.leaves.step

  pub name-low : name_of start.network.table.width exit visit - base start < start.quota
  name-low =
      let some : length v.grants < length w.grants = omega (arith, ap (λ (gs : List Grant). length gs) more, length_push v.grants grant) in
      let last : get_or w.grants (length v.grants) grant ≡ grant =
      ap (λ (gs : List Grant). get_or gs (length v.grants) grant) more ∙ get_or-append_seam v.grants grant [] grant in
      subst (λ (g : Grant). g.name < start.quota) last (names-low start w began stood (length v.grants) grant some)

  pub name-fits : name_of start.network.table.width exit visit < 2 ^ 64
  name-fits = omega (arith, name-low, began.quota, began.few)

  pub granted : IsGranted start client entry grant v w
  granted =
      let passed = only in
      let grew = more in
      let low = name-low in
      let in_state = stood in
      let steps = walked-steps start client entry exit visit v w began.network is in
      let quota = ap (λ (x : View). x.quota) is.after ∙ only.quota ∙ ap (λ (x : View). x.quota) is.came in
      search arith

-- a later visit has a greater name
pub name-rises : (width i m n : ℕ) → m ≤ n → name_of width i m ≤ name_of width i n
name-rises width i m n less = omega (arith, mul-le-mul_left width less)
