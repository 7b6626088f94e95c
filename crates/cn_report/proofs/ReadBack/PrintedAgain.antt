-- What a check finds of a grant list that is written.
use Rattle.cn_report.proofs.Common.{◌≡◌, ◌<◌, ◌≤◌, ◌+◌, ℕ, List, [], ◌∷◌, ◌++◌, true, length, map, refl, arith, suc, zero, sym, ap, ◌∙◌, drop, nat_eq, AllByRecursion, each-append, each-weaker, last-there, not-there, fold, list_any, range_with_len, append-nil, append_assoc, length-map, fold-append, counts_after, counts_of, shares, shares_after, Record, records_of, length-map-range_with_len, IsPermutation-refl, counts-shares, counts-shares-after, MOST_NAMED, EpochRecord, grants_spelled, of_epoch, IsTightList, epoch_numbers, printed_epoch, printed_epochs, with_number, Granted, grants_text, AreRisingRecords, AreTightRecords, checked_epoch, names_in}
use Rattle.cn_report.proofs.ReadBack.TightAgain.{all_grants, first-epoch, grant_at, grants_of, later-epoch, names-given, records-back, small-grants}
use Rattle.cn_report.proofs.ReadBack.Records.{grants-read}

-- ---- the epochs' numbers

abbrev number_of : EpochRecord → ℕ
number_of r = r.number

abbrev numbers-after : List ℕ → List Granted → List ℕ
numbers-after numbers grants = fold (λ ns g. with_number ns g.epoch) numbers grants

-- a number that is there does not come again
known-before : (numbers : List ℕ) (r : EpochRecord) (from n : ℕ) → list_any (nat_eq r.number) numbers ≡ true
    → numbers-after numbers (map (grant_at r) (range_with_len from n)) ≡ numbers
known-before numbers r from zero there = refl
known-before numbers r from (suc n) there =
    let same : with_number numbers r.number ≡ numbers = rw there refl in
    ap (λ (ns : List ℕ). numbers-after ns (map (grant_at r) (range_with_len (from + 1) n))) same ∙ known-before numbers r (from + 1) n there

-- an epoch's grants give its number once
one_number : (numbers : List ℕ) (r : EpochRecord) (n : ℕ) → 0 < n → AllByRecursion (λ k. k < r.number) numbers
    → numbers-after numbers (map (grant_at r) (range_with_len 0 n)) ≡ numbers ++ r.number ∷ []
one_number numbers r zero some below = absurd (omega arith)
one_number numbers r (suc n) some below =
    let next : with_number numbers r.number ≡ numbers ++ r.number ∷ [] =
    rw (not-there (λ k. k) r.number numbers below) refl in
    ap (λ (ns : List ℕ). numbers-after ns (map (grant_at r) (range_with_len 1 n))) next
    ∙ known-before (numbers ++ r.number ∷ []) r 1 n (last-there r.number numbers)

all-numbers : (low : ℕ) (numbers : List ℕ) (records : List EpochRecord) → AreRisingRecords records
    → AllByRecursion (λ r. 0 < r.clients) records → AllByRecursion (λ k. k < low) numbers
    → AllByRecursion (λ r. low ≤ r.number) records
    → numbers-after numbers (all_grants records) ≡ numbers ++ map number_of records
unfolding AreRisingRecords
all-numbers low numbers [] rising some below above = sym (append-nil numbers)
all-numbers low numbers (r ∷ records) rising some below above =
    let before = each-weaker (λ k. k < low) (λ k. k < r.number) (λ k h. omega (arith, h, above.0)) numbers below in
    let next = each-append (λ k. k < suc r.number) numbers (r.number ∷ [])
    (each-weaker (λ k. k < r.number) (λ k. k < suc r.number) (λ k h. omega (arith, h)) numbers before)
    (omega arith, tt) in
    fold-append (λ (ns : List ℕ) (g : Granted). with_number ns g.epoch) numbers (grants_of r) (all_grants records)
    ∙ ap (λ (ns : List ℕ). numbers-after ns (all_grants records)) (one_number numbers r r.clients some.0 before)
    ∙ all-numbers (suc r.number) (numbers ++ r.number ∷ []) records rising.1 some.1 next rising.0
    ∙ append_assoc numbers (r.number ∷ []) (map number_of records)

-- ---- what is found of each

-- among the grants of epochs, those of each are its own
abbrev HasOwn : List Granted → EpochRecord → Type 0
HasOwn all r = of_epoch r.number all ≡ grants_of r

own-later : (r : EpochRecord) (all : List EpochRecord) (records : List EpochRecord) → AllByRecursion (λ s. r.number < s.number) records
    → AllByRecursion (HasOwn (all_grants all)) records → AllByRecursion (HasOwn (all_grants (r ∷ all))) records
own-later r all [] above own = tt
own-later r all (s ∷ records) above own = (
  later-epoch s.number r all (λ same. omega (arith, same, above.0)) ∙ own.0,
  own-later r all records above.1 own.1,
)

own-grants : (records : List EpochRecord) → AreRisingRecords records → AllByRecursion (HasOwn (all_grants records)) records
unfolding AreRisingRecords
own-grants [] rising = tt
own-grants (r ∷ records) rising =
    (first-epoch r records rising.0, own-later r records records rising.0 (own-grants records rising.1))

-- the shares of its number of names
printed-one : (width : ℕ) (all : List Granted) (r : EpochRecord) → HasOwn all r → printed_epoch width all r.number ≡ checked_epoch width r
printed-one width all r own =
    let range = range_with_len 0 r.clients in
    let many : length (of_epoch r.number all) ≡ r.clients = ap length own ∙ length-map-range_with_len (grant_at r) 0 r.clients in
    let names : map (λ (g : Granted). g.name) (of_epoch r.number all) ≡ range =
    ap (map (λ (g : Granted). g.name)) own ∙ names-given r range in
    let counts : counts_of width (map (λ (g : Granted). g.name) (of_epoch r.number all)) ≡ shares r.clients width =
    ap (counts_of width) names ∙ counts-shares width r.clients range (IsPermutation-refl range) in
    λ i. (r.number, many i, counts i)

printed-each : (width : ℕ) (all : List Granted) (records : List EpochRecord) → AllByRecursion (HasOwn all) records
    → map (printed_epoch width all) (map number_of records) ≡ map (checked_epoch width) records
printed-each width all [] own = refl
printed-each width all (r ∷ records) own = λ i. printed-one width all r own.0 i ∷ printed-each width all records own.1 i

-- a check of a written list finds its epochs
pub printed-back : (most width : ℕ) (records : List EpochRecord) → most ≤ MOST_NAMED → AreTightRecords most records
    → AllByRecursion (λ r. 0 < r.clients) records
    → printed_epochs width (records_of (grants_text records)) ≡ map (checked_epoch width) records
printed-back most width records h tight some =
    let all = all_grants records in
    let spells : grants_spelled (drop 1 (records_of (grants_text records))) ≡ all =
    ap (λ (l : List Record). grants_spelled (drop 1 l)) (records-back most records h tight)
    ∙ grants-read all (small-grants most records h tight) in
    (λ i. map (printed_epoch width (spells i)) (epoch_numbers (spells i)))
    ∙ ap (map (printed_epoch width all)) (all-numbers 0 [] records tight.rising some tt
    (each-weaker (λ r. 0 < r.clients) (λ r. 0 ≤ r.number) (λ r h. omega arith) records some))
    ∙ printed-each width all records (own-grants records tight.rising)

-- ---- any tight list

-- each epoch's names are those below their number, so they are shared out, after any number of clients
pub tight-after : (most : ℕ) (records : List Record) → IsTightList most records → (w m epoch : ℕ)
    → counts_after m w (names_in epoch records) ≡ shares_after m (length (names_in epoch records)) w
tight-after most records tight w m epoch =
    let grants = of_epoch epoch (grants_spelled (drop 1 records)) in
    let many : length (names_in epoch records) ≡ length grants = length-map grants (λ (g : Granted). g.name) in
    counts-shares-after w m (length grants) (names_in epoch records) (tight.tight epoch).names
    ∙ ap (λ (k : ℕ). shares_after m k w) (sym many)
