-- The numbers of a batch that was read, and how many clients it has.
use Rattle.cn_report.proofs.Common.{◌≡◌, ◌<◌, ◌≤◌, ◌+◌, ◌^◌, ℕ, List, [], ◌∷◌, ◌++◌, Option, Some, None, Result, length, map, take, drop, get_or, refl, arith, suc, sym, ap, ◌∙◌, subst, length-append, All, AllByRecursion, cons_option, flat_map, sum_by, nat_tests, length-map, take_all, take_more, All-cons, All-nil, filter_map-append, Record, result_ok, Client, arrival_cause, arrival_in, arrival_with_entry, arrivals_in, ruled_arrival, spelled_cause, IsBatch, arrivals_of, batch_cause, header_cause, record_cause, heading_in, IsClean, number_in, Arrival, BatchEpoch, arrival_at, cause_later}
use Rattle.std.proofs.lemmas.List.Concat.{length-flat_map}
use Rattle.cn_texts.specs.declared.reading.bounds.Bounds.{Bounds}
use Rattle.cn_texts.specs.declared.reading.batch.arrival.Heading.{Heading}
use Rattle.cn_texts.specs.declared.reading.batch_fault.BatchCause.{BatchCause}

-- ---- numbers

-- a number field spells a number of 64 bits
number-small : (field : List ℕ) (n : ℕ) → number_in field ≡ Some n → n < 2 ^ 64
unfolding number_in
number-small field n e = grind (arith, nat_tests, e)

-- the numbers of an arrival are of 64 bits
abbrev IsSmall : Arrival → Type 0
IsSmall a = (a.epoch < 2 ^ 64) × (a.client < 2 ^ 64)

arrival-small : (heading : Heading) (bounds : Bounds) (fields : Record) (a : Arrival)
    → result_ok (arrival_in heading bounds fields) ≡ Some a → IsSmall a
unfolding arrival_with_entry ruled_arrival
arrival-small heading bounds fields a is = (grind (arith, number-small, is), grind (arith, number-small, is))

arrivals-small : (heading : Heading) (bounds : Bounds) (records : List Record) → AllByRecursion IsSmall (arrivals_in heading bounds records)
arrivals-small heading bounds [] = tt
arrivals-small heading bounds (fields ∷ records) =
    by (result_ok (arrival_in heading bounds fields)) (arrival-small heading bounds fields) (arrivals-small heading bounds records)
  where
    by : (spelled : Option Arrival) → ((a : Arrival) → spelled ≡ Some a → IsSmall a)
        → AllByRecursion IsSmall (arrivals_in heading bounds records)
        → AllByRecursion IsSmall (cons_option spelled (arrivals_in heading bounds records))
    by None small more = more
    by (Some a) small more = (small a refl, more)

-- an epoch's number and its clients are of 64 bits
pub record IsSmallEpoch (e : BatchEpoch) : Type 0 where
  pub number : e.number < 2 ^ 64
  pub clients : All (λ client. client < 2 ^ 64) (map (λ (c : Client). c.id) e.clients.items)

all_front : {X : Type 0} (P : X → Type 0) (xs ys : List X) → AllByRecursion P (xs ++ ys) → AllByRecursion P xs × AllByRecursion P ys
all_front P [] ys all = (tt, all)
all_front P (x ∷ xs) ys all = let rest = all_front P xs ys all.1 in ((all.0, rest.0), rest.1)

clients-small : (n : ℕ) (cs : List Client)
    → AllByRecursion IsSmall (map (λ (c : Client). record { epoch = n; client = c.id; entry = c.entry }) cs)
    → All (λ client. client < 2 ^ 64) (map (λ (c : Client). c.id) cs)
clients-small n [] all = All-nil (λ (client : ℕ). client < 2 ^ 64)
clients-small n (c ∷ cs) all = All-cons (λ (client : ℕ). client < 2 ^ 64) c.id (map (λ (x : Client). x.id) cs) all.0.1
    (clients-small n cs all.1)

epoch-small : (n : ℕ) (cs : List Client) → 0 < length cs
    → AllByRecursion IsSmall (map (λ (c : Client). record { epoch = n; client = c.id; entry = c.entry }) cs) → n < 2 ^ 64
epoch-small n [] some all = absurd (omega (arith, some))
epoch-small n (c ∷ cs) some all = all.0.0

epochs-small : (epochs : List BatchEpoch) → AllByRecursion (λ e. 0 < length e.clients.items) epochs
    → AllByRecursion IsSmall (flat_map arrivals_of epochs) → AllByRecursion IsSmallEpoch epochs
epochs-small [] some all = tt
epochs-small (e ∷ epochs) some all =
    let (first, rest) = all_front IsSmall (arrivals_of e) (flat_map arrivals_of epochs) all in (
      record { number = epoch-small e.number e.clients.items some.0 first; clients = clients-small e.number e.clients.items first },
      epochs-small epochs some.1 rest,
    )

-- ---- how many

-- where an arrival has no cause, those before it are few
few-before : (bounds : Bounds) (before : List Arrival) (spelled : Result Arrival BatchCause) → spelled_cause bounds before spelled ≡ None
    → length before < bounds.records
unfolding arrival_cause
few-before bounds before spelled none = grind (arith, nat_tests, none)

at_most_one : (spelled : Option Arrival) → length (cons_option spelled []) ≤ 1
at_most_one None = omega arith
at_most_one (Some a) = omega arith

few-arrivals : (bounds : Bounds) (header : Record) (records : List Record) → IsClean (batch_cause bounds) (header ∷ records)
    → length (arrivals_in (heading_in (header ∷ records)) bounds records) ≤ bounds.records
few-arrivals bounds header [] clean = omega arith
few-arrivals bounds header (fields ∷ records) clean =
    let all = fields ∷ records in
    let n = length records in
    let last = get_or all n [] in
    let heading = heading_in (header ∷ all) in
    let parted : all ≡ take n all ++ last ∷ [] = sym (take_all (n + 1) all (omega arith)) ∙ take_more all n [] (omega arith) in
    let none : record_cause bounds (header ∷ take n all) last ≡ None =
    sym (cause_later header_cause (record_cause bounds) (header ∷ all) (suc n) (omega arith) (omega arith)) ∙ clean (suc n) in
    let few = few-before bounds (arrivals_in heading bounds (take n all)) (arrival_in heading bounds last) none in
    let size : length (arrivals_in heading bounds all)
    ≡ length (arrivals_in heading bounds (take n all) ++ arrivals_in heading bounds (last ∷ [])) =
    ap (λ (l : List Record). length (arrivals_in heading bounds l)) parted
    ∙ ap length (filter_map-append (λ r. result_ok (arrival_in heading bounds r)) (take n all) (last ∷ [])) in
    omega (
      arith,
      few,
      size,
      length-append (arrivals_in heading bounds (take n all)) (arrivals_in heading bounds (last ∷ [])),
      at_most_one (result_ok (arrival_in heading bounds last)),
    )

few-in : (bounds : Bounds) (records : List Record) → IsClean (batch_cause bounds) records
    → length (arrivals_in (heading_in records) bounds (drop 1 records)) ≤ bounds.records
few-in bounds [] clean = omega arith
few-in bounds (header ∷ records) clean = few-arrivals bounds header records clean

abbrev clients_in : BatchEpoch → ℕ
clients_in e = length e.clients.items

arrivals-many : (epochs : List BatchEpoch) → length (flat_map arrivals_of epochs) ≡ sum_by clients_in epochs
arrivals-many epochs = length-flat_map arrivals_of epochs
    ∙ (λ i. sum_by (λ e. length-map e.clients.items (arrival_at e.number) i) epochs)

-- a batch's numbers are of 64 bits, and its clients are no more than the limit of records
pub batch-numbers : (bounds : Bounds) (records : List Record) (epochs : List BatchEpoch) → IsBatch bounds records epochs
    → AllByRecursion IsSmallEpoch epochs × (sum_by (λ e. length e.clients.items) epochs ≤ bounds.records)
batch-numbers bounds records epochs batch =
    let spells = batch.holds.spells in (
      epochs-small epochs batch.holds.some (subst (AllByRecursion IsSmall) (sym spells)
          (arrivals-small (heading_in records) bounds (drop 1 records))),
      omega (arith, ap length spells, arrivals-many epochs, few-in bounds records batch.clean),
    )
