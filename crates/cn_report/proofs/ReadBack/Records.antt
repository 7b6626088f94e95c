-- The records of a grant list that is written: they are read back, and keep the form.
use Rattle.cn_report.proofs.Common.{◌≡◌, ◌<◌, ◌^◌, ℕ, List, [], ◌∷◌, Bool, true, false, Some, length, refl, arith, rules, decimal, list_all, list_any, nat_tests, default_writer, field_text, needs_byte, number_in, ◌≤◌, ◌+◌, ◌++◌, map, suc, zero, ap, ◌∙◌, append_assoc, length-append, AllByRecursion, codes, if◌then◌else◌, flat_map, Record, records_of, escaped, fields_text, is_blank, quote_mark, read_back, row_body, row_text, grant_line, grants_header, Granted, None, sym, ⊤, append-nil, map-append, IsClean, each-append, fold-append, form-none, grant_spelled, grants_spelled, last_epoch, grants_form, record_form, AreClean, clean-all, clean-header, clean-more}
use Rattle.std.specs.Char.{is_ascii_digit}
use Rattle.std.proofs.lemmas.Fmt.{decimal_nonempty, digits_decimal, digits_value-decimal, length-decimal-le}
use Rattle.std.proofs.lemmas.Str.Parse.{IsDigitsTest, numerals_by_value}
use mathlib.Core.List.{map-map}
use Rattle.csv.specs.Machine.{next_record}
use Rattle.csv.specs.Reading.{default_config, records_from, strip_bom}
use Rattle.csv.proofs.RoundTrip.{read-write, rows_text}
use Rattle.cn_texts.specs.Grants.TightList.{header_cause}
use Rattle.csv.specs.declared.parser.State.TheVariants as st

-- A number that is written as a field is read back.

-- the tests of the first digit and of the rest
tells : IsDigitsTest (λ ds. list_all is_ascii_digit ds ≡ true)
tells = search rules

digits : (n : ℕ) → n < 2 ^ 64 → list_all is_ascii_digit (decimal n) ≡ true
digits n h = digits_decimal (numerals_by_value _ tells) n h

-- the number that its decimals spell
pub decimal-back : (n : ℕ) → n < 2 ^ 64 → number_in (decimal n) ≡ Some n
unfolding number_in
decimal-back n h =
    grind (
      arith,
      nat_tests,
      digits n h,
      digits_value-decimal (numerals_by_value _ tells) n h,
      length-decimal-le 20 n (omega arith) (omega arith) h,
      decimal_nonempty n h,
    )

-- a digit is no mark of the format
plain-digit : (b : ℕ) → is_ascii_digit b ≡ true → needs_byte default_writer b ≡ false
plain-digit b h = grind (arith, nat_tests, h)

plain-digits : (ds : List ℕ) → list_all is_ascii_digit ds ≡ true → list_any (needs_byte default_writer) ds ≡ false
plain-digits [] h = refl
plain-digits (d ∷ ds) h = grind (arith, nat_tests, h, plain-digit d, plain-digits ds)

-- a number needs no quotes
pub decimal_text : (n : ℕ) → n < 2 ^ 64 → field_text default_writer (decimal n) ≡ decimal n
decimal_text n h = rw (plain-digits (decimal n) (digits n h)) refl

-- the fields of the header, and of a grant
abbrev pub header_record : Record
header_record = codes "epoch" ∷ codes "client" ∷ codes "name" ∷ []

abbrev pub record_of : Granted → Record
record_of g = decimal g.epoch ∷ decimal g.client ∷ decimal g.name ∷ []

-- the numbers of a grant are of 64 bits
pub record IsSmall (g : Granted) : Type 0 where
  pub epoch : g.epoch < 2 ^ 64
  pub client : g.client < 2 ^ 64
  pub name : g.name < 2 ^ 64

abbrev pub line_of : Granted → List ℕ
line_of g = grant_line g.epoch g.client g.name

-- each is written as a record
header_text : grants_header ≡ row_text default_writer header_record
unfolding grants_header fields_text escaped is_blank
header_text = refl

line_text : (g : Granted) → IsSmall g → line_of g ≡ row_text default_writer (record_of g)
unfolding grant_line fields_text is_blank
line_text g small = rw (decimal_text g.epoch small.epoch, decimal_text g.client small.client, decimal_text g.name small.name)
    (simp append_assoc refl)

lines-text : (gs : List Granted) → AllByRecursion IsSmall gs → flat_map line_of gs ≡ rows_text (map record_of gs)
unfolding rows_text
lines-text [] small = refl
lines-text (g ∷ gs) small = λ i. line_text g small.0 i ++ lines-text gs small.1 i

-- records that are written are read
all-back : (records : List Record) (n : ℕ) → length records < n
    → records_from default_config n st.StartRecord (rows_text records) ≡ map read_back records
unfolding records_from rows_text next_record
all-back records zero h = absurd (omega arith)
all-back [] (suc n) h = refl
all-back (given ∷ records) (suc n) h = rw (read-write given (rows_text records))
    (ap (λ (t : List Record). read_back given ∷ t) (all-back records n (omega arith)))

-- each takes a byte
records-few : (records : List Record) → length records ≤ length (rows_text records)
unfolding rows_text
records-few [] = omega arith
records-few (given ∷ records) = omega (
  arith,
  records-few records,
  length-append (row_text default_writer given) (rows_text records),
  record-some given,
)
  where
    end : Bool → List ℕ
    end blank = if blank then quote_mark ∷ quote_mark ∷ [] else []

    record-some : (fields : Record) → 1 ≤ length (row_text default_writer fields)
    record-some fields =
        let blank = is_blank default_writer fields in
        let last : List ℕ = 10 ∷ [] in
        omega (arith, length-append (row_body default_writer fields) (end blank ++ last), length-append (end blank) last)

-- no byte order mark
no_mark : (more : List ℕ) → strip_bom (grants_header ++ more) ≡ grants_header ++ more
unfolding strip_bom grants_header
no_mark more = refl

-- the records of a written list are its header and a record for each grant
pub grants-back : (gs : List Granted) → AllByRecursion IsSmall gs
    → records_of (grants_header ++ flat_map line_of gs) ≡ header_record ∷ map record_of gs
unfolding rows_text
grants-back gs small =
    let text : grants_header ++ flat_map line_of gs ≡ rows_text (header_record ∷ map record_of gs) =
    λ i. header_text i ++ lines-text gs small i in
    let back : records_of (grants_header ++ flat_map line_of gs)
    ≡ records_from default_config (length (grants_header ++ flat_map line_of gs) + 1) st.StartRecord
    (grants_header ++ flat_map line_of gs) =
    rw (no_mark (flat_map line_of gs)) refl in
    back
    ∙ ap (λ (t : List ℕ). records_from default_config (length t + 1) st.StartRecord t) text
    ∙ all-back (header_record ∷ map record_of gs) (length (rows_text (header_record ∷ map record_of gs)) + 1)
    (omega (arith, records-few (header_record ∷ map record_of gs)))
    ∙ ap (λ (l : List Record). header_record ∷ l) (map-map read_back record_of gs)

-- A grant list that is written keeps the form.

-- a grant that is written is read
granted-back : (g : Granted) → IsSmall g → grant_spelled (record_of g) ≡ Some g
unfolding grant_spelled
granted-back g small = rw (decimal-back g.epoch small.epoch, decimal-back g.client small.client, decimal-back g.name small.name) refl

pub grants-read : (gs : List Granted) → AllByRecursion IsSmall gs → grants_spelled (map record_of gs) ≡ gs
grants-read [] small = refl
grants-read (g ∷ gs) small = rw (granted-back g small.0) (ap (λ (l : List Granted). g ∷ l) (grants-read gs small.1))

-- epochs that never fall, from this one on
unfoldable pub NeverFall : ℕ → List Granted → Type 0
NeverFall epoch [] = ⊤
NeverFall epoch (g ∷ gs) = (epoch ≤ g.epoch) × NeverFall g.epoch gs

-- the records of a written list, one after the other
clean-from : (most : ℕ) (before gs : List Granted) → AllByRecursion IsSmall before → AllByRecursion IsSmall gs
    → NeverFall (last_epoch before) gs
    → length before + length gs ≤ most
    → AreClean header_cause (record_form most) (header_record ∷ map record_of before)
    → AreClean header_cause (record_form most) (header_record ∷ map record_of (before ++ gs))
unfolding NeverFall
clean-from most before [] had small rises few clean = rw (append-nil before) clean
clean-from most before (g ∷ gs) had small rises few clean =
    let none : record_form most (header_record ∷ map record_of before) (record_of g) ≡ None =
    rw (grants-read before had, granted-back g small.0) (form-none most before g rises.0 (omega (arith, few))) in
    let more : AreClean header_cause (record_form most) (header_record ∷ map record_of (before ++ g ∷ [])) =
    rw (map-append record_of before (g ∷ [])) (clean-more (record_of g) clean none) in
    let rest = clean-from most (before ++ g ∷ []) gs (each-append IsSmall before (g ∷ []) had (small.0, tt)) small.1
    (rw (fold-append (λ (e : ℕ) (x : Granted). x.epoch) 0 before (g ∷ [])) rises.1)
    (omega (arith, few, length-append before (g ∷ []))) more in
    rw (sym (append_assoc before (g ∷ []) gs)) rest

pub form-clean : (most : ℕ) (gs : List Granted) → AllByRecursion IsSmall gs → NeverFall 0 gs → length gs ≤ most
    → IsClean (grants_form most) (header_record ∷ map record_of gs)
form-clean most gs small rises few =
    clean-all (clean-from most [] gs tt small rises (omega (arith, few)) (clean-header header_record refl))
