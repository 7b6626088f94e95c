-- Names that are taken together.
use Rattle.cn_lists.proofs.Common.{◌≡◌, ℕ, zero, suc, ◌+◌, ◌-◌, ◌<◌, ◌≤◌, ◌^◌, ◌++◌, List, [], ◌∷◌, get_or, length, map, inl, inr, sym, ap, ◌∙◌, arith, length-append, get_or-append-add, get_or_append_left, Exit, Grant, IsStart, Start, View, base, cases_lt, name_of, on, GoTogether, grants_out, AreWritten, grants-many, names-low, state-after, ext_get_or, get_or-map, length-map}
use Rattle.cn_lists.specs.declared.taking.Names.{Names}
use Rattle.cn_lists.proofs.Together.{grants-by}

-- the name of each grant
pub grant-at : (width less i n k : ℕ) (tokens : List (ℕ × ℕ)) (d : Grant) → k < length tokens
    → (get_or (grants_out width less i n tokens) k d).name ≡ name_of width i (n + k) - less
unfolding grants_out
grant-at width less i n k [] d low = absurd (omega (arith, low))
grant-at width less i n zero (e ∷ rest) d low = let same : n ≡ n + 0 = omega arith in ap (λ (m : ℕ). name_of width i m - less) same
grant-at width less i n (suc k) (e ∷ rest) d low =
    let same : n + 1 + k ≡ n + suc k = omega arith in
    grant-at width less i (n + 1) k rest d (omega (arith, low)) ∙ ap (λ (m : ℕ). name_of width i m - less) same

-- the names of all grants are written where those of the first are not counted
pub written-all : {notes : Names} (before more : List Grant) (names : List ℕ) → names ≡ notes.names.now → length more ≡ length names
    → AreWritten before (before ++ more) notes → names ≡ map (λ (g : Grant). g.name) more
written-all before more names same many written =
    let none : Grant = record { client = 0; exit = 0; visit = 0; name = 0 } in
    ext_get_or 0 names (map (λ (g : Grant). g.name) more) (sym many ∙ sym (length-map more (λ (g : Grant). g.name)))
    (λ k low. ap (λ (xs : List ℕ). get_or xs k 0) same
    ∙ written.each k none (omega (arith, low, many, written.many, length-append before more))
    ∙ ap (λ (g : Grant). g.name) (get_or-append-add before more k none)
    ∙ sym (get_or-map (λ (g : Grant). g.name) more k none 0 (omega (arith, low, many))))

-- tokens leave by an exit, and their names are written after those that are
pub written-more : {before now : List Grant} {old : Names} (new : Names) (width less i n : ℕ) (tokens : List (ℕ × ℕ))
    → AreWritten before now old → new.at ≡ old.at + length tokens
    → ((k : ℕ) → k < old.at → get_or new.names.now k 0 ≡ get_or old.names.now k 0)
    → ((k : ℕ) → k < length tokens → get_or new.names.now (old.at + k) 0 ≡ name_of width i (n + k) - less)
    → AreWritten before (now ++ grants_out width less i n tokens) new
written-more {before} {now} {old} new width less i n tokens was at kept each =
    let out = grants_out width less i n tokens in
    let many = grants-many width less i n tokens in
    record {
      many = omega (arith, was.many, at, many, length-append now out);
      each = λ k d low. elim (cases_lt k old.at) [
        | inl below ↦ kept k below ∙ was.each k d below ∙ ap (λ (g : Grant). g.name) (sym (get_or_append_left now out d (length before + k)
            (omega (arith, was.many, below))))
        | inr past ↦
            let here : old.at + (k - old.at) ≡ k = omega (arith, past) in
            let there : length now + (k - old.at) ≡ length before + k = omega (arith, past, was.many) in
            ap (λ (j : ℕ). get_or new.names.now j 0) (sym here) ∙ each (k - old.at) (omega (arith, low, at, past))
            ∙ sym (grant-at width less i n (k - old.at) tokens d (omega (arith, low, at, past)))
            ∙ ap (λ (g : Grant). g.name) (sym (get_or-append-add now out (k - old.at) d) ∙ ap (λ (j : ℕ). get_or (now ++ out) j d) there)
      ];
    }

-- the names of all who leave together are numbers of 64 bits, and so is the next
pub names-fit : {start : Start} {wire i n : ℕ} {v w : View} → IsStart start → GoTogether start wire (Exit i) n v w
    → start.network.table.width ≤ 4096
    → name_of start.network.table.width i (n + length (on v.tokens wire)) < 2 ^ 64
names-fit {start} {wire} {i} {n} {v} {w} began go narrow =
    let width : ℕ = start.network.table.width in
    let tokens = on v.tokens wire in
    let k : ℕ = length tokens - 1 in
    let d : Grant = record { client = 0; exit = 0; visit = 0; name = 0 } in
    let out = grants_out width (base start) i n tokens in
    let grew = grants-by go in
    let inside : length v.grants + k < length w.grants =
    omega (
      arith,
      ap (λ (gs : List Grant). length gs) grew,
      length-append v.grants out,
      grants-many width (base start) i n tokens,
      go.some,
    ) in
    let low = names-low start w began (state-after _ _ _ _ go.by.step) (length v.grants + k) d inside in
    let at : (get_or w.grants (length v.grants + k) d).name ≡ name_of width i (n + k) - base start =
    ap (λ (gs : List Grant). (get_or gs (length v.grants + k) d).name) grew
    ∙ ap (λ (g : Grant). g.name) (get_or-append-add v.grants out k d)
    ∙ grant-at width (base start) i n k tokens d (omega (arith, go.some)) in
    let next : n + length tokens ≡ suc (n + k) = omega (arith, go.some) in
    omega (arith, low, at, began.quota, began.few, narrow, ap (λ (m : ℕ). name_of width i m) next)
