-- The list of the records of a text, and the records that were read so far.
use Rattle.cn_texts.proofs.Common.{◌≡◌, ◌<◌, ◌≤◌, ◌+◌, ◌-◌, ℕ, List, [], ◌∷◌, ◌++◌, true, false, Bool, Option, Some, None, length, refl, arith, suc, zero, sym, ap, inl, inr, nat_tests, ◌∙◌, subst, append-nil, field_at, append_assoc, drop, drop_more, get_or, get_or-map, length-map, map, map-append, take, take-append-drop, IfSome, option_map, HasRead, Record, records_of, Reached, ReadRecord, default_config, reader_config, reader_state, records_from, source_of, strip_bom, Reader}
use Rattle.csv.specs.Machine.{Read, ends_at_end, field_after, fields_after, is_end, next_record, step}
use Rattle.std.specs.Bool.{MatchBool}
use Rattle.std.proofs.lemmas.Bool.{cases_Bool}
use Rattle.std.proofs.lemmas.Option.{cond_some}
use Rattle.csv.proofs.ReadFacts.{rows-end, rows-more}
use Rattle.csv.specs.declared.parser.State.{State}
use Rattle.csv.specs.declared.parser.State.TheVariants as st

-- where a step ends a record, the end of the text ends no other
step-ends : (s : State) (c : ℕ) → is_end (step default_config s c).1 ≡ true
    → ends_at_end (step default_config s c).0 ≡ false
step-ends s c e = grind (arith, nat_tests)

-- after a record the end of the text ends no other, and at least one byte is taken where there is one
pub after-record : (s : State) (fields : List (List ℕ)) (field xs : List ℕ) (p : Read)
    → next_record default_config s fields field xs ≡ Some p
    → (ends_at_end p.1 ≡ false) × (length p.2 ≤ length xs - 1)
unfolding next_record
after-record s fields field [] p e =
    let (_, same) = cond_some (ends_at_end s) (fields ++ (field ∷ []), st.StartRecord, []) p e in
    subst (λ (q : Read). (ends_at_end q.1 ≡ false) × (length q.2 ≤ 0)) same (refl, omega arith)
after-record s fields field (c ∷ rest) p e =
    let to = step default_config s c in
    let others = fields_after to.1 fields field in
    let after : (ends_at_end p.1 ≡ false) × (length p.2 ≤ length rest) = elim (cases_Bool (is_end to.1)) [
      | inl is ↦
          let same : (others, to.0, rest) ≡ p = cc (rw is at e) in
          subst (λ (q : Read). (ends_at_end q.1 ≡ false) × (length q.2 ≤ length rest)) same (step-ends s c is, omega arith)
      | inr is ↦
          let more = after-record to.0 others (field_after to.1 c field) rest p (rw is at e) in
          (more.0, omega (arith, more.1))
    ] in
    (after.0, omega (arith, after.1))

-- a record that starts at a record's start takes at least one byte
record-takes : (s : State) (xs : List ℕ) (p : Read) → ends_at_end s ≡ false → next_record default_config s [] [] xs ≡ Some p
    → length p.2 < length xs
unfolding next_record
record-takes s [] p idle e = cc (rw idle at e)
record-takes s (c ∷ rest) p idle e = omega (arith, (after-record s [] [] (c ∷ rest) p e).1)

-- the records that were read are the first of all
first-records : (records : List (List (List ℕ))) (n : ℕ) (s s2 : State) (xs ys : List ℕ) → ends_at_end s ≡ false
    → length xs < n
    → Reached default_config s xs records s2 ys
    → (m : ℕ) × (records_from default_config n s xs ≡ records ++ records_from default_config (suc m) s2 ys)
unfolding Reached records_from
first-records records zero s s2 xs ys idle h reached = absurd (omega arith)
first-records [] (suc n) s s2 xs ys idle h reached = (n, rw (reached.0, reached.1) refl)
first-records (r ∷ records) (suc n) s s2 xs ys idle h reached =
    let (p, read, is, rest) = reached in
    let taken = record-takes s xs p idle read in
    let more = first-records records n p.1 s2 p.2 ys (after-record s [] [] xs p read).0 (omega (arith, taken)) rest in
    (more.0, rw (read, is) (ap (λ (t : List (List (List ℕ))). p.0 ∷ t) more.1))

-- where no record is left they are all
all-records : (records : List (List (List ℕ))) (n : ℕ) (s s2 : State) (xs ys : List ℕ) → ends_at_end s ≡ false
    → length xs < n
    → Reached default_config s xs records s2 ys
    → next_record default_config s2 [] [] ys ≡ None → records_from default_config n s xs ≡ records
unfolding records_from
all-records records n s s2 xs ys idle h reached none =
    (first-records records n s s2 xs ys idle h reached).1 ∙ rw none (append-nil records)

-- the records that a reader has read are the first of the text
pub read-first : {R : Type 0} {rem : R → Option (List ℕ)} {reader : Reader R} {text : List ℕ} {records : List Record}
    → HasRead rem reader text records → (more : List Record) × (records_of text ≡ records ++ more)
read-first {reader = reader} {text = text} {records = records} read =
    let (bytes, source, reached) = read.left in
    let first = first-records records (length (strip_bom text) + 1) st.StartRecord (reader_state reader) (strip_bom text) bytes refl
    (omega arith) reached in
    (records_from default_config (suc first.0) (reader_state reader) bytes, first.1)

-- a new reader has read nothing
pub opened : {R : Type 0} (rem : R → Option (List ℕ)) (reader : Reader R) (known : Option (List ℕ)) → reader_config reader ≡ default_config
    → reader_state reader ≡ st.StartRecord
    → source_of rem reader ≡ option_map strip_bom known → IfSome known (λ text. HasRead rem reader text [])
unfolding Reached
opened rem reader None config state source = tt
opened rem reader (Some text) config state source = record { config = config; left = (strip_bom text, source, (sym state, refl)) }

-- a read after those that were read gives one more, or finds none and has come to the end
pub read-either : {R : Type 0} (rem : R → Option (List ℕ)) (a b : Reader R) (text : List ℕ) (records : List Record) (fields : Record)
    (found : Bool) → HasRead rem a text records
    → ReadRecord rem a b found fields → MatchBool found (HasRead rem b text (records ++ fields ∷ [])) (records_of text ≡ records)
read-either rem a b text records fields true read next =
    let (bytes, source, reached) = read.left in
    let more = rows-more rem a b fields default_config st.StartRecord (strip_bom text) bytes records read.config source reached next in
    record { config = next.2 ∙ read.config; left = more }
read-either rem a b text records fields false read next =
    let (bytes, source, reached) = read.left in
    all-records records (length (strip_bom text) + 1) st.StartRecord (reader_state a) (strip_bom text) bytes refl (omega arith) reached
    (rows-end rem a b fields default_config bytes read.config source next)

-- ---- records and what they spell, one each

module _ {S T : Type 0} (f : Record → S) (w : T → S) (records : List Record) (items : List T)
    (spelled : map f records ≡ map w items) where
  pub same-length : length records ≡ length items
  same-length = sym (length-map records f) ∙ ap length spelled ∙ length-map items w

  -- the record at a place spells the item there
  pub spelled-at : (i : ℕ) (item : T) → i < length items → f (get_or records i []) ≡ w (get_or items i item)
  spelled-at i item h =
      sym (get_or-map f records i [] (w item) (omega (arith, h, same-length)))
      ∙ ap (λ (l : List S). get_or l i (w item)) spelled
      ∙ get_or-map w items i item (w item) h

  -- a record more spells an item more
  pub spelled-more : (fields : Record) (item : T) → f fields ≡ w item
      → map f (records ++ fields ∷ []) ≡ map w (items ++ item ∷ [])
  spelled-more fields item is =
      map-append f records (fields ∷ []) ∙ (λ i. spelled i ++ is i ∷ []) ∙ sym (map-append w items (item ∷ []))

-- records between others, parted at one of them
pub parted : (before records later : List Record) (i : ℕ)
    → (before ++ records) ++ later ≡ (before ++ take i records) ++ (drop i records ++ later)
parted before records later i =
    ap (λ (l : List Record). (before ++ l) ++ later) (sym (take-append-drop i records)) ∙ simp append_assoc

pub parted-at : (before records later : List Record) (i : ℕ) → i < length records
    → (before ++ records) ++ later ≡ ((before ++ take i records) ++ get_or records i [] ∷ [])
    ++ (drop (i + 1) records ++ later)
parted-at before records later i h =
    parted before records later i
    ∙ ap (λ (l : List Record). (before ++ take i records) ++ (l ++ later)) (drop_more records i [] h)
    ∙ sym (append_assoc (before ++ take i records) (get_or records i [] ∷ []) (drop (i + 1) records ++ later))

-- the field at a place of a record
pub field_within : (fields : List (List ℕ)) (place : ℕ) → place < length fields → field_at fields place ≡ Some (get_or fields place [])
unfolding field_at
field_within [] place h = absurd (omega arith)
field_within (f ∷ fields) zero h = refl
field_within (f ∷ fields) (suc place) h = field_within fields place (omega arith)
