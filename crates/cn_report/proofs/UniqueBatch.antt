-- The records of a batch determine its epochs.
use Rattle.cn_report.proofs.Common.{◌≡◌, ◌<◌, ℕ, List, [], ◌∷◌, ◌++◌, length, map, drop, refl, arith, sym, ap, ◌∙◌, length-append, ◌==◌, AllByRecursion, flat_map, append-nil, length-map, filter-append, ne_eqb, Client, Arrival, BatchEpoch, AreEpochsOf, AreRising, arrivals_of, plain_epoch, arrival_at, client_of, other-epoch, same-epoch}
use mathlib.Core.List.{map-map}
use Rattle.std.proofs.lemmas.List.{map-id}
use Rattle.std.proofs.Math.Seq.{drop-append_seam}
use Rattle.cn_texts.specs.Reading.Arrival.{of_epoch}

-- the epochs above a number have none of its arrivals
above-epoch : (n : ℕ) (epochs : List BatchEpoch) → AllByRecursion (λ e. n < e.number) epochs → of_epoch n (flat_map arrivals_of epochs) ≡ []
above-epoch n [] all = refl
above-epoch n (e ∷ epochs) all =
    filter-append (λ (a : Arrival). a.epoch == n) (arrivals_of e) (flat_map arrivals_of epochs)
    ∙ (λ i. other-epoch e.number n e.clients.items (ne_eqb e.number n (λ x. omega (arith, x, all.0))) i ++ above-epoch n epochs all.1 i)

-- the first epoch's arrivals are those of its number
first-epoch : (e : BatchEpoch) (epochs : List BatchEpoch) → AllByRecursion (λ x. e.number < x.number) epochs
    → of_epoch e.number (flat_map arrivals_of (e ∷ epochs)) ≡ arrivals_of e
first-epoch e epochs all =
    filter-append (λ (a : Arrival). a.epoch == e.number) (arrivals_of e) (flat_map arrivals_of epochs)
    ∙ (λ i. same-epoch e.number e.clients.items i ++ above-epoch e.number epochs all i)
    ∙ append-nil (arrivals_of e)

abbrev head-epoch : List Arrival → ℕ
head-epoch [] = 0
head-epoch (a ∷ more) = a.epoch

head-number : (n : ℕ) (cs : List Client) (more : List Arrival) → 0 < length cs → head-epoch (map (arrival_at n) cs ++ more) ≡ n
head-number n [] more h = absurd (omega arith)
head-number n (c ∷ cs) more h = refl

clients-back : (n : ℕ) (cs : List Client) → map client_of (map (arrival_at n) cs) ≡ cs
clients-back n cs = map-map client_of (arrival_at n) cs ∙ map-id cs

rest_same : (front front2 back back2 : List Arrival) → front ≡ front2 → front ++ back ≡ front2 ++ back2 → back ≡ back2
rest_same front front2 back back2 e same =
    sym (drop-append_seam front back) ∙ (λ i. drop (length (e i)) (same i)) ∙ drop-append_seam front2 back2

none_or_some : (e : BatchEpoch) (epochs : List BatchEpoch) → 0 < length e.clients.items → [] ≡ flat_map arrivals_of (e ∷ epochs) → ⊥
none_or_some e epochs some same =
    omega (
      arith,
      ap length same,
      length-append (arrivals_of e) (flat_map arrivals_of epochs),
      length-map e.clients.items (arrival_at e.number),
      some,
    )

-- two lists of epochs that spell the same arrivals are the same
pub epochs-same : (xs ys : List BatchEpoch) → AreRising xs → AreRising ys → AllByRecursion (λ e. 0 < length e.clients.items) xs
    → AllByRecursion (λ e. 0 < length e.clients.items) ys
    → flat_map arrivals_of xs ≡ flat_map arrivals_of ys → map plain_epoch xs ≡ map plain_epoch ys
unfolding AreRising
epochs-same [] [] rx ry sx sy same = refl
epochs-same [] (y ∷ ys) rx ry sx sy same = absurd (none_or_some y ys sy.0 same)
epochs-same (x ∷ xs) [] rx ry sx sy same = absurd (none_or_some x xs sx.0 (sym same))
epochs-same (x ∷ xs) (y ∷ ys) rx ry sx sy same =
    let number : x.number ≡ y.number =
    sym (head-number x.number x.clients.items (flat_map arrivals_of xs) sx.0) ∙ ap head-epoch same
    ∙ head-number y.number y.clients.items (flat_map arrivals_of ys) sy.0 in
    let firsts : arrivals_of x ≡ arrivals_of y =
    sym (first-epoch x xs rx.0) ∙ (λ i. of_epoch (number i) (same i)) ∙ first-epoch y ys ry.0 in
    let clients : x.clients.items ≡ y.clients.items =
    sym (clients-back x.number x.clients.items) ∙ ap (map client_of) firsts ∙ clients-back y.number y.clients.items in
    let rest = epochs-same xs ys rx.1 ry.1 sx.1 sy.1
    (rest_same (arrivals_of x) (arrivals_of y) (flat_map arrivals_of xs) (flat_map arrivals_of ys) firsts same) in
    λ i. (number i, clients i) ∷ rest i

pub unique : (xs ys : List BatchEpoch) (arrivals : List Arrival) → AreEpochsOf xs arrivals → AreEpochsOf ys arrivals
    → map plain_epoch xs ≡ map plain_epoch ys
unique xs ys arrivals x y = epochs-same xs ys x.rising y.rising x.some y.some (x.spells ∙ sym y.spells)
