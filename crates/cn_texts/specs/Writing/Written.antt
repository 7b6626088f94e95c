-- How much of its text a job has written.
use Rattle.std.specs.Prelude.{ℕ, ◌≡◌, ◌≤◌, List, Option, Result, Ok, Err, length, take}
use Rattle.std.specs.Io.KnownBytes.{Appends}

-- the whole text, its first bytes up to this number, or nothing
pub data Written : Type 0 where
  Whole : Written
  First : ℕ → Written
  Nothing : Written

-- what a writer has got of a text with this property, by the bytes that it holds before and after; if nothing was
-- written it is as it was
abbrev pub HasWritten : {W : Type 0} → (W → Option (List ℕ)) → (List ℕ → Type 0) → Written → W → W → Type 0
HasWritten contents Is Whole old new = (text : List ℕ) × Is text × Appends (contents old) (contents new) text
HasWritten contents Is (First count) old new =
    (text : List ℕ) × Is text × (count ≤ length text) × Appends (contents old) (contents new) (take count text)
HasWritten contents Is Nothing old new = new ≡ old

-- a job that is done has written its whole text; one that met a fault, as much as its fault states
abbrev pub written_by : {U F : Type 0} → (F → Written) → Result U F → Written
written_by until (Ok done) = Whole
written_by until (Err fault) = until fault
