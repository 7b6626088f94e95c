-- What stands in a list of records, and what each write of one changes.
use Rattle.std.specs.Prelude.{◌≡◌, ℕ, ◌==◌, if◌then◌else◌, List, length, get_or}
use Rattle.cn_yard.specs.declared.records.Record.{Record}

-- what is read if there is no record
abbrev pub no_record : Record
no_record = record { prev = 0; next = 0; wire = 0; client = 0 }

-- the number that the record of a number names as the next
abbrev pub next_of : List Record → ℕ → ℕ
next_of records n = (get_or records n no_record).next

-- the number that it names as the one before
abbrev pub prev_of : List Record → ℕ → ℕ
prev_of records n = (get_or records n no_record).prev

-- the line that it names
abbrev pub wire_of : List Record → ℕ → ℕ
wire_of records n = (get_or records n no_record).wire

-- its client
abbrev pub client_of : List Record → ℕ → ℕ
client_of records n = (get_or records n no_record).client

-- one number is named as the next of another, and that as the one before it
pub record IsLink (old new : List Record) (from to : ℕ) : Type 0 where
  pub len : length new ≡ length old
  pub next : (n : ℕ) → next_of new n ≡ (if n == from then to else next_of old n)
  pub prev : (n : ℕ) → prev_of new n ≡ (if n == to then from else prev_of old n)
  pub wire : (n : ℕ) → wire_of new n ≡ wire_of old n
  pub client : (n : ℕ) → client_of new n ≡ client_of old n

-- a record names another line
pub record IsPut (old new : List Record) (number to : ℕ) : Type 0 where
  pub len : length new ≡ length old
  pub next : (n : ℕ) → next_of new n ≡ next_of old n
  pub prev : (n : ℕ) → prev_of new n ≡ prev_of old n
  pub wire : (n : ℕ) → wire_of new n ≡ (if n == number then to else wire_of old n)
  pub client : (n : ℕ) → client_of new n ≡ client_of old n

-- a record has another client
pub record IsClient (old new : List Record) (number of : ℕ) : Type 0 where
  pub len : length new ≡ length old
  pub next : (n : ℕ) → next_of new n ≡ next_of old n
  pub prev : (n : ℕ) → prev_of new n ≡ prev_of old n
  pub wire : (n : ℕ) → wire_of new n ≡ wire_of old n
  pub client : (n : ℕ) → client_of new n ≡ (if n == number then of else client_of old n)
