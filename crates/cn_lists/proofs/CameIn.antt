-- The clients of a list come in together, by one entry.
use Rattle.cn_lists.proofs.Common.{◌≡◌, ℕ, zero, suc, ◌+◌, ◌*◌, ◌<◌, ◌≤◌, ◌==◌, inl, inr, eqb, List, [], ◌∷◌, ◌++◌, count_by, map, take, length, replicate, refl, sym, ap, ◌∙◌, subst, arith, append-nil, slice_index, Bool, View, after_enter, append_assoc, cases_eq, cases_lt, eq-eqb, get_or_past, last_on, length-map-range_with_len, ne_eqb, on, sum-below-one, sum-below-same, times_in, when, map-append, take_more, replicate-append-replicate, times, after_enters, CameIn, HaveLeft, by_one_entry, placed, all-empty, made-beyond, made_at, nobody-there, times-map, ◌≢◌}
use Rattle.cn_ledger.specs.declared.client.Client.{Client}
use Rattle.cn_lists.proofs.Groups.{placed-clients, placed-more, placed-once, read-all}
use Rattle.cn_lists.proofs.Dealt.{off-own, on-own}
use Rattle.std.proofs.lemmas.Bool.Decides.{nat_tests}

pub none-came : (v : View) (clients : List ℕ) (entry steps : ℕ) → ((u : ℕ) → on v.tokens u ≡ [])
    → CameIn v (record v { steps = steps }) clients entry 0
unfolding placed
none-came v clients entry steps out = search (append-nil, arith)

-- one more stands last on its wire
entered-on : (token client entry : ℕ) (w : View) → entry < length w.tokens → (u : ℕ)
    → on (after_enter token client entry w).tokens u ≡ on w.tokens u ++ last_on token client entry u
entered-on token client entry w inside u =
    let make : ℕ → List (ℕ × ℕ) = λ x. on w.tokens x ++ last_on token client entry x in
    elim (cases_lt u (length w.tokens)) [
      | inl l ↦ made_at w.tokens make u l
      | inr l ↦ made-beyond w.tokens make u l
          ∙ sym (λ i. get_or_past w.tokens u [] l i
          ++ off-own token client entry u (λ e. omega (arith, e, l, inside)) i)
    ]

came-more : (v w : View) (clients : List ℕ) (entry steps k : ℕ) → CameIn v (record w { steps = steps }) clients entry k
    → entry < length w.tokens → 0 < w.quota → k < length clients
    → CameIn v (record (after_enter k (slice_index clients k) entry w) { steps = steps }) clients entry (suc k)
came-more v w clients entry steps k is inside some less =
    let client : ℕ = slice_index clients k in
    let add = entered-on k client entry w inside in
    let by : ℕ → Client = λ id. record { id = id; entry = entry } in
    let next : suc k ≡ k + 1 = omega arith in
    let at : 0 + 1 * k ≡ k = omega arith in
    let entries = ap (λ (es : List ℕ). es ++ entry ∷ []) is.entries
    ∙ append_assoc v.entries (replicate k entry) (entry ∷ [])
    ∙ (λ i. v.entries ++ (replicate-append-replicate k 1 entry ∙ (λ j. replicate (sym next j) entry)) i) in
    let came = ap (λ (cs : List Client). cs ++ by client ∷ []) is.came
    ∙ append_assoc v.came (by_one_entry entry (take k clients)) (by client ∷ [])
    ∙ ap (λ (cs : List Client). v.came ++ cs) (sym (map-append by (take k clients) (client ∷ []))
    ∙ ap (map by) (sym (ap (λ (j : ℕ). take j clients) next ∙ take_more clients k 0 less))) in
    let wires = length-map-range_with_len (λ u. on w.tokens u ++ last_on k client entry u) 0 (length w.tokens) in
    let there = add entry ∙ (λ i. is.there i ++ on-own k client entry entry refl i)
    ∙ sym (placed-more clients 0 1 k ∙ ap (λ (j : ℕ). placed clients 0 1 k ++ (j, slice_index clients j) ∷ []) at) in
    let others : (u : ℕ) → u ≢ entry → on (after_enter k client entry w).tokens u ≡ [] =
    λ u other. add u ∙ (λ i. is.others u other i ++ off-own k client entry u (λ e. other (sym e)) i) in
    search arith

-- so many more of them, one after the other
pub came-on : (v w : View) (clients : List ℕ) (entry steps k n all : ℕ)
    → CameIn v (record w { steps = steps }) clients entry k → entry < length v.tokens
    → all ≡ k + n → all ≤ v.quota → all ≤ length clients
    → CameIn v (record (after_enters clients entry k n w) { steps = steps }) clients entry all
unfolding after_enters
came-on v w clients entry steps k zero all is inside to enough within =
    let same : k ≡ all = omega (arith, to) in
    subst (λ (j : ℕ). CameIn v (record w { steps = steps }) clients entry j) same is
came-on v w clients entry steps k (suc n) all is inside to enough within =
    came-on v (after_enter k (slice_index clients k) entry w) clients entry steps (suc k) n all
    (came-more v w clients entry steps k is (omega (arith, inside, is.wires)) (omega (arith, to, enough, is.quota))
    (omega (arith, to, within))) inside (omega (arith, to)) enough within

pub came-once : (v w : View) (clients : List ℕ) (entry k : ℕ) → CameIn v w clients entry k → entry < length w.tokens → (token : ℕ)
    → times_in w.tokens token ≤ 1
came-once v w clients entry k is inside token =
    let times : ℕ → ℕ = λ u. count_by (λ e. eqb token e.0) (on w.tokens u) in
    let each : (u : ℕ) → times u ≡ when (eqb entry u) (times entry) =
    λ u. elim (cases_eq entry u) [
      | inl e ↦ rw (← e, eq-eqb entry entry refl) refl
      | inr other ↦ rw (is.others u (λ e. other (sym e)), ne_eqb entry u other) refl
    ] in
    let same : (j : ℕ) → eqb token j ≡ eqb j token = λ j. grind (arith, nat_tests) in
    omega (
      arith,
      sum-below-same (length w.tokens) times (λ u. when (eqb entry u) (times entry)) (λ u _. each u),
      sum-below-one (length w.tokens) entry (times entry) inside,
      ap (count_by (λ e. eqb token e.0)) is.there,
      ap (λ (p : ℕ → Bool). count_by (λ (e : ℕ × ℕ). p e.0) (placed clients 0 1 k)) (λ i j. same j i),
      placed-once clients k token,
    )

pub all-clients : (clients : List ℕ) (client : ℕ)
    → count_by (λ e. e.1 == client) (placed clients 0 1 (length clients)) ≡ times client clients
all-clients clients client =
    let n = length clients in
    sym (times-map (λ (e : ℕ × ℕ). e.1) client (placed clients 0 1 n))
    ∙ ap (times client) (placed-clients clients 0 n ∙ read-all clients n refl)

-- once all have left, nobody stands anywhere
pub nobody-stands : (v w x : View) (clients : List ℕ) (entry k : ℕ) → CameIn v w clients entry k → HaveLeft w x entry (on w.tokens entry)
    → x.tokens ≡ replicate (length v.tokens) []
nobody-stands v w x clients entry k came left =
    let each : (u : ℕ) → on x.tokens u ≡ [] =
    λ u. elim (cases_eq u entry) [
      | inl e ↦ subst (λ (y : ℕ). on x.tokens y ≡ []) (sym e) left.empty
      | inr other ↦ left.others u other ∙ came.others u other
    ] in
    all-empty x.tokens (nobody-there x.tokens (λ u. ap length (each u))) ∙ ap (λ (n : ℕ). replicate n []) (left.wires ∙ came.wires)
