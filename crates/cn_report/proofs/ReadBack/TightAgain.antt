-- A grant list that is written of tight epochs is tight.
use Rattle.cn_report.proofs.Common.{◌≡◌, ◌<◌, ℕ, List, [], ◌∷◌, ◌++◌, length, map, get_or, refl, arith, sym, ap, ◌∙◌, ◌==◌, ◌≢◌, AllByRecursion, flat_map, range_with_len, eq-eqb, ne_eqb, append-nil, filter-append, sum_by, fill_by_all, length-map-range_with_len, EpochRecord, of_epoch, Granted, grant_lines, clients_of_records, ◌≤◌, ◌+◌, ◌^◌, suc, zero, subst, length-append, each-append, each-weaker, inl, inr, eqb_tells, recursion_from_All, records_of, IsPermutation-refl, times-nil, MOST_NAMED, AreTightGrants, IsTightList, grants_header, grants_text, AreRisingRecords, AreTightRecords, HasOwnNames}
use Rattle.std.proofs.lemmas.List.Folds.{flat_map-map}
use Rattle.std.proofs.lemmas.List.{map-id}
use Rattle.std.proofs.lemmas.List.Concat.{length-flat_map}
use mathlib.Core.List.{map-map}
use Rattle.std.proofs.lemmas.Grind.{flat_map-append}
use Rattle.cn_report.proofs.ReadBack.Records.{line_of, NeverFall, form-clean, grants-read, IsSmall, grants-back, header_record, record_of}

-- The grants of epochs whose numbers rise, epoch by epoch.

-- who holds a name of an epoch
abbrev pub grant_at : EpochRecord → ℕ → Granted
grant_at r name = record { epoch = r.number; client = get_or r.holders.items name 0; name = name }

-- the grants of an epoch, by rising name, and of epochs
abbrev pub grants_of : EpochRecord → List Granted
grants_of r = map (grant_at r) (range_with_len 0 r.clients)

abbrev pub all_grants : List EpochRecord → List Granted
all_grants records = flat_map grants_of records

pub lines-of-all : (records : List EpochRecord)
    → flat_map (λ r. grant_lines r.number r.clients r.holders.items) records ≡ flat_map line_of (all_grants records)
lines-of-all [] = refl
lines-of-all (r ∷ records) =
    (λ i. sym (flat_map-map line_of (grant_at r) (range_with_len 0 r.clients)) i ++ lines-of-all records i)
    ∙ sym (flat_map-append line_of (grants_of r) (all_grants records))

pub grants-many : (records : List EpochRecord) → length (all_grants records) ≡ clients_of_records records
grants-many records =
    length-flat_map grants_of records
    ∙ (λ i. sum_by (λ r. length-map-range_with_len (grant_at r) 0 r.clients i) records)

-- those of one epoch
one-epoch : (r : EpochRecord) (names : List ℕ) → of_epoch r.number (map (grant_at r) names) ≡ map (grant_at r) names
one-epoch r [] = refl
one-epoch r (n ∷ names) = rw (eq-eqb r.number r.number refl) (ap (λ (l : List Granted). grant_at r n ∷ l) (one-epoch r names))

no-epoch : (e : ℕ) (r : EpochRecord) (names : List ℕ) → r.number ≢ e → of_epoch e (map (grant_at r) names) ≡ []
no-epoch e r [] other = refl
no-epoch e r (n ∷ names) other = rw (ne_eqb r.number e other) (no-epoch e r names other)

-- the epochs above a number have none of its grants
pub above : (e : ℕ) (records : List EpochRecord) → AllByRecursion (λ r. e < r.number) records → of_epoch e (all_grants records) ≡ []
above e [] all = refl
above e (r ∷ records) all =
    filter-append (λ (g : Granted). g.epoch == e) (grants_of r) (all_grants records)
    ∙ (λ i. no-epoch e r (range_with_len 0 r.clients) (λ same. omega (arith, same, all.0)) i ++ above e records all.1 i)

-- the first epoch's grants are those of its number; a later number's are those of the epochs after it
pub first-epoch : (r : EpochRecord) (records : List EpochRecord) → AllByRecursion (λ s. r.number < s.number) records
    → of_epoch r.number (all_grants (r ∷ records)) ≡ grants_of r
first-epoch r records all =
    filter-append (λ (g : Granted). g.epoch == r.number) (grants_of r) (all_grants records)
    ∙ (λ i. one-epoch r (range_with_len 0 r.clients) i ++ above r.number records all i)
    ∙ append-nil (grants_of r)

pub later-epoch : (e : ℕ) (r : EpochRecord) (records : List EpochRecord) → r.number ≢ e
    → of_epoch e (all_grants (r ∷ records)) ≡ of_epoch e (all_grants records)
later-epoch e r records other =
    filter-append (λ (g : Granted). g.epoch == e) (grants_of r) (all_grants records)
    ∙ ap (λ (l : List Granted). l ++ of_epoch e (all_grants records)) (no-epoch e r (range_with_len 0 r.clients) other)

-- an epoch's clients are its holders
pub clients-held : (r : EpochRecord) → length r.holders.items ≡ r.clients → map (λ (g : Granted). g.client) (grants_of r) ≡ r.holders.items
clients-held r whole =
    map-map (λ (g : Granted). g.client) (grant_at r) (range_with_len 0 r.clients)
    ∙ sym (fill_by_all (λ name. get_or r.holders.items name 0) r.holders.items r.clients 0 whole (λ k h. refl))

-- and its names are those below their number
pub names-given : (r : EpochRecord) (names : List ℕ) → map (λ (g : Granted). g.name) (map (grant_at r) names) ≡ names
names-given r names = map-map (λ (g : Granted). g.name) (grant_at r) names ∙ map-id names

-- an epoch with no grants has no record
none-tight : AreTightGrants []
none-tight = record { clients = λ client. omega (arith, times-nil client); names = IsPermutation-refl [] }

own-tight : (r : EpochRecord) → HasOwnNames r → AreTightGrants (grants_of r)
own-tight r own = record {
  clients = λ client. rw (clients-held r own.holders) (own.once client);
  names =
      let size : length (grants_of r) ≡ r.clients = length-map-range_with_len (grant_at r) 0 r.clients in
      rw (size, names-given r (range_with_len 0 r.clients)) (IsPermutation-refl (range_with_len 0 r.clients));
}

-- each epoch is tight
pub each-tight : (records : List EpochRecord) → AreRisingRecords records → AllByRecursion HasOwnNames records → (e : ℕ)
    → AreTightGrants (of_epoch e (all_grants records))
unfolding AreRisingRecords
each-tight [] rising own e = none-tight
each-tight (r ∷ records) rising own e = elim (eqb_tells r.number e) [
  | inl w ↦
      subst (λ (n : ℕ). AreTightGrants (of_epoch n (all_grants (r ∷ records)))) w.1
      (rw (first-epoch r records rising.0) (own-tight r own.0))
  | inr w ↦ rw (later-epoch e r records w.1) (each-tight records rising.1 own.1 e)
]

-- all numbers are of 64 bits
small_at : (holders : List ℕ) (n : ℕ) → AllByRecursion (λ client. client < 2 ^ 64) holders → get_or holders n 0 < 2 ^ 64
small_at [] n all = omega arith
small_at (h ∷ holders) zero all = all.0
small_at (h ∷ holders) (suc n) all = small_at holders n all.1

small-names : (r : EpochRecord) (from n : ℕ) → HasOwnNames r → from + n ≤ 2 ^ 64
    → AllByRecursion IsSmall (map (grant_at r) (range_with_len from n))
small-names r from zero own few = tt
small-names r from (suc n) own few = (
  record {
    epoch = own.number;
    client = small_at r.holders.items from
        (recursion_from_All (λ client. client < 2 ^ 64) r.holders.items own.clients);
    name = omega (arith, few);
  },
  small-names r (from + 1) n own (omega (arith, few)),
)

-- an epoch's names and those of the epochs after it never fall
never-falls : (r : EpochRecord) (low from n : ℕ) (more : List Granted) → low ≤ r.number → NeverFall r.number more
    → NeverFall low more → NeverFall low (map (grant_at r) (range_with_len from n) ++ more)
unfolding NeverFall
never-falls r low from zero more h rest all = all
never-falls r low from (suc n) more h rest all = (h, never-falls r r.number (from + 1) n more (omega arith) rest rest)

lower : (low from : ℕ) (gs : List Granted) → low ≤ from → NeverFall from gs → NeverFall low gs
unfolding NeverFall
lower low from [] h all = tt
lower low from (g ∷ gs) h all = (omega (arith, h, all.0), all.1)

all-fall : (low : ℕ) (records : List EpochRecord) → AllByRecursion (λ r. low ≤ r.number) records → AreRisingRecords records
    → NeverFall low (all_grants records)
unfolding NeverFall AreRisingRecords
all-fall low [] all rising = tt
all-fall low (r ∷ records) all rising =
    let above = each-weaker (λ (s : EpochRecord). r.number < s.number) (λ s. r.number ≤ s.number)
    (λ s h. omega (arith, h)) records
    rising.0 in
    let rest = all-fall r.number records above rising.1 in
    never-falls r low 0 r.clients (all_grants records) all.0 rest (lower low r.number (all_grants records) all.0 rest)

all_small : (records : List EpochRecord) → AllByRecursion HasOwnNames records → length (all_grants records) ≤ 2 ^ 64
    → AllByRecursion IsSmall (all_grants records)
all_small [] own few = tt
all_small (r ∷ records) own few =
    let size = length-append (grants_of r) (all_grants records) in
    each-append IsSmall (grants_of r) (all_grants records)
    (small-names r 0 r.clients own.0 (omega (arith, few, size, length-map-range_with_len (grant_at r) 0 r.clients)))
    (all_small records own.1 (omega (arith, few, size)))

pub small-grants : (most : ℕ) (records : List EpochRecord) → most ≤ MOST_NAMED → AreTightRecords most records
    → AllByRecursion IsSmall (all_grants records)
small-grants most records h tight = all_small records tight.names (omega (arith, h, tight.few, grants-many records))

-- the records of the written list, and the grants that they spell
pub records-back : (most : ℕ) (records : List EpochRecord) → most ≤ MOST_NAMED → AreTightRecords most records
    → records_of (grants_text records) ≡ header_record ∷ map record_of (all_grants records)
records-back most records h tight =
    ap (λ (more : List ℕ). records_of (grants_header ++ more)) (lines-of-all records)
    ∙ grants-back (all_grants records) (small-grants most records h tight)

pub written-tight : (most : ℕ) (records : List EpochRecord) → most ≤ MOST_NAMED → AreTightRecords most records
    → IsTightList most (records_of (grants_text records))
written-tight most records h tight =
    let small = small-grants most records h tight in
    let any = each-weaker HasOwnNames (λ r. 0 ≤ r.number) (λ r own. omega arith) records tight.names in
    let falls = all-fall 0 records any tight.rising in
    rw (records-back most records h tight) (record {
      form = form-clean most (all_grants records) small falls (omega (arith, tight.few, grants-many records));
      tight = λ e. rw (grants-read (all_grants records) small) (each-tight records tight.rising tight.names e);
    })
