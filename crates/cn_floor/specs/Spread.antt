-- Words that lie a stride apart in their table, so that no two of them need to share a cache line. All else speaks of
-- the words side by side.
use Rattle.std.specs.Prelude.{◌≡◌, ℕ, zero, suc, ◌-◌, ◌≤◌, List, [], ◌∷◌, ◌++◌, replicate}
use Rattle.atomic_table.specs.Table.{State}
use Rattle.cn_floor.specs.declared.floor.counters.TheConstants.{MOST_STRIDE}

-- the words a stride apart, with zeros between
abbrev pub spread : ℕ → List ℕ → List ℕ
spread stride [] = []
spread stride (w ∷ ws) = w ∷ (replicate (stride - 1) 0 ++ spread stride ws)

-- of these words, the one after so many and then each a stride later
abbrev pub picked : ℕ → ℕ → List ℕ → List ℕ
picked stride skip [] = []
picked stride zero (w ∷ ws) = w ∷ picked stride (stride - 1) ws
picked stride (suc skip) (w ∷ ws) = picked stride skip ws

-- how far apart words may lie
abbrev pub IsStride : ℕ → Type 0
IsStride stride = (1 ≤ stride) × (stride ≤ MOST_STRIDE)

-- a rule about words holds of a table in which they lie a stride apart
abbrev pub HoldsSpread : {S V : Type 0} → ℕ → (State S V → Type 0) → State S V → Type 0
HoldsSpread stride holds s =
    (words : List ℕ) × (s.words ≡ spread stride words)
    × holds record { words = words; homes = s.homes; views = s.views }

-- the words of a closed table in which they lie a stride apart
abbrev pub words_in : ℕ → List ℕ → List ℕ
words_in stride spaced = picked stride 0 spaced

-- this is such a table: there is nothing but the words and the zeros between
pub record IsSpaced (stride : ℕ) (spaced : List ℕ) : Type 0 where
  pub some : 1 ≤ stride
  pub apart : spaced ≡ spread stride (words_in stride spaced)
