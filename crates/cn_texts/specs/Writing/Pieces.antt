-- A text on its way to a writer, in pieces.
use Rattle.std.specs.Prelude.{ℕ, ◌≡◌, Bool, false, true, List, [], ◌++◌, Option, length}
use Rattle.std.specs.Io.KnownBytes.{Appends}

-- the bytes that were put and are not yet written, how many were written before them, and whether a write failed
pub record Pending : Type 0 where
  pub held : List ℕ
  pub written : ℕ
  pub failed : Bool

-- nothing was put yet
abbrev pub nothing_put : Pending
nothing_put = record { held = []; written = 0; failed = false }

-- of this text the first bytes are written, by what a writer held before and holds now; unless a write failed, the next
-- are held, and the last are left to be put
pub record IsOnItsWay (before now : Option (List ℕ)) (pending : Pending) (text left : List ℕ) : Type 0 where
  pub out : List ℕ
  pub rest : List ℕ
  pub grown : Appends before now out
  pub counted : pending.written ≡ length out
  pub whole : text ≡ out ++ rest
  pub held : pending.failed ≡ false → rest ≡ pending.held ++ left

-- once a write failed, nothing is put
abbrev pub RestsIfFailed : {W : Type 0} → W → W → Pending → Pending → Type 0
RestsIfFailed old new from to = from.failed ≡ true → (to ≡ from) × (new ≡ old)

-- these bytes are put: if they are the next of a text, what follows them is left of it
pub record Puts {W : Type 0} (contents : W → Option (List ℕ)) (old new : W) (from to : Pending)
    (bytes : List ℕ) : Type 0 where
  pub goes : (before : Option (List ℕ)) (text left : List ℕ)
      → IsOnItsWay before (contents old) from text (bytes ++ left)
      → IsOnItsWay before (contents new) to text left
