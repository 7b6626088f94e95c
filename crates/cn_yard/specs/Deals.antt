-- The tokens of a wire, dealt to two others by turns, or released.
use Rattle.std.specs.Prelude.{◌≡◌, ◌≢◌, ℕ, zero, suc, ◌+◌, ◌-◌, ◌%◌, ◌++◌, ◌==◌, if◌then◌else◌, List, [], ◌∷◌, length}
use Rattle.cn_yard.specs.Lists.{Moves, Releases, Yard, on, tokens_in}

-- the wire of an output
abbrev pub out_of : ℕ → ℕ → ℕ → ℕ
out_of out0 out1 output = if output == 0 then out0 else out1

-- these tokens are moved one after the other, by turns to the wires of the outputs, from this output on
unfoldable pub Deals : (ℕ → ℕ) → ℕ → List (ℕ × ℕ) → Yard → Yard → Type 0
Deals outs output [] old new = new ≡ old
Deals outs output (e ∷ rest) old new =
    (between : Yard) × Moves old between e.0 e.1 (outs (output % 2)) × Deals outs (output + 1) rest between new

-- these tokens are released one after the other
unfoldable pub Frees : List (ℕ × ℕ) → Yard → Yard → Type 0
Frees [] old new = new ≡ old
Frees (e ∷ rest) old new = (between : Yard) × Releases old between e.0 × Frees rest between new

-- every second element, from the first on for 0, from the second on for 1
unfoldable pub every_second : ℕ → List (ℕ × ℕ) → List (ℕ × ℕ)
every_second n [] = []
every_second zero (e ∷ rest) = e ∷ every_second 1 rest
every_second (suc n) (e ∷ rest) = every_second n rest

-- the tokens of a wire stand last on two others, in their order, by turns from an output on; all others as they stood
pub record IsDealt (wire output out0 out1 : ℕ) (old new : Yard) : Type 0 where
  pub wires : length new.lists ≡ length old.lists
  pub empty : on new.lists wire ≡ []
  pub first : on new.lists out0 ≡ on old.lists out0 ++ every_second output (on old.lists wire)
  pub second : on new.lists out1 ≡ on old.lists out1 ++ every_second (1 - output) (on old.lists wire)
  pub others : (u : ℕ) → u ≢ wire → u ≢ out0 → u ≢ out1 → on new.lists u ≡ on old.lists u
  pub spare : new.spare ≡ old.spare
  pub tokens : tokens_in new.lists ≡ tokens_in old.lists

-- the tokens of a wire are gone, and their records are free; all others stand as they stood
pub record IsCleared (wire : ℕ) (old new : Yard) : Type 0 where
  pub wires : length new.lists ≡ length old.lists
  pub empty : on new.lists wire ≡ []
  pub others : (u : ℕ) → u ≢ wire → on new.lists u ≡ on old.lists u
  pub spare : new.spare ≡ old.spare + length (on old.lists wire)
  pub tokens : tokens_in new.lists + length (on old.lists wire) ≡ tokens_in old.lists
