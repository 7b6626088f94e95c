-- What the networks make of the counts of their inputs: mergers, bitonic networks, blocks and periodic networks are
-- those of Aspnes, Herlihy, Shavit, Counting Networks, JACM 1994, sections 3 and 4; trees those of Shavit, Zemach,
-- Diffracting Trees, ACM TOCS 1996, section 2.
use Rattle.std.specs.Prelude.{◌≡◌, ℕ, zero, suc, ◌+◌, ◌-◌, ◌*◌, ◌/◌, ◌%◌, ◌^◌, ◌<◌, List, [], ◌∷◌, length, map, take, drop, slice_index}
use Rattle.std.specs.List.{range_with_len}
use Rattle.cn_spec.specs.Step.{half, IsStep}

-- a row of this level: 2 ^ level counts
abbrev pub IsRow : ℕ → List ℕ → Type 0
IsRow level x = length x ≡ 2 ^ level

-- n entries of x: those at places p 0, p 1, ..
abbrev pub entries_at : (ℕ → ℕ) → ℕ → List ℕ → List ℕ
entries_at p n x = map (λ j. slice_index x (p j)) (range_with_len 0 n)

-- the even subsequence: the entries at places 0, 2, 4 ..
abbrev pub evens : List ℕ → List ℕ
evens x = entries_at (λ j. 2 * j) (length x / 2) x

-- the odd subsequence: the entries at places 1, 3, 5 ..
abbrev pub odds : List ℕ → List ℕ
odds x = entries_at (λ j. 2 * j + 1) (length x / 2) x

-- the row whose even entries are x and whose odd entries are y
abbrev pub interleave : List ℕ → List ℕ → List ℕ
interleave [] y = []
interleave (a ∷ x) [] = []
interleave (a ∷ x) (b ∷ y) = a ∷ b ∷ interleave x y

-- a layer of balancers: the i-th takes entry i of x and of y, and gives entries 2 i and 2 i + 1
abbrev pub layer : List ℕ → List ℕ → List ℕ
layer [] y = []
layer (a ∷ x) [] = []
layer (a ∷ x) (b ∷ y) = half (a + b) 0 ∷ half (a + b) 1 ∷ layer x y

-- Merger, of two rows of a level; what it gives has one level more (1994, section 3)
unfoldable pub merge : ℕ → List ℕ → List ℕ → List ℕ
merge zero x y = layer x y
merge (suc level) x y = layer (merge level (evens x) (odds y)) (merge level (odds x) (evens y))

-- Bitonic, of a row of a level (1994, section 3)
unfoldable pub bitonic : ℕ → List ℕ → List ℕ
bitonic zero x = x
bitonic (suc level) x = merge level (bitonic level (take (2 ^ level) x)) (bitonic level (drop (2 ^ level) x))

-- the A-cochain: the entries at places whose low bits are 00 or 11
abbrev pub a_cochain : List ℕ → List ℕ
a_cochain x = entries_at (λ j. 2 * j + j % 2) (length x / 2) x

-- the B-cochain: the entries at places whose low bits are 01 or 10
abbrev pub b_cochain : List ℕ → List ℕ
b_cochain x = entries_at (λ j. 2 * j + 1 - j % 2) (length x / 2) x

-- Block, of a row of a level (1994, section 4)
unfoldable pub block : ℕ → List ℕ → List ℕ
block zero x = x
block (suc level) x = layer (block level (a_cochain x)) (block level (b_cochain x))

-- n Blocks, one after the other
unfoldable pub blocks : ℕ → ℕ → List ℕ → List ℕ
blocks zero level x = x
blocks (suc n) level x = blocks n level (block level x)

-- Periodic, of a row of a level: as many Blocks (1994, section 4)
unfoldable pub periodic : ℕ → List ℕ → List ℕ
periodic level x = blocks level level x

-- the chain of level i at r, which is below 2 ^ i: the entries at places with the i low bits of r
abbrev pub chain : ℕ → ℕ → List ℕ → List ℕ
chain i r x = entries_at (λ j. r + 2 ^ i * j) (length x / 2 ^ i) x

-- each chain of level i has the step property
abbrev pub HasStepChains : ℕ → List ℕ → Type 0
HasStepChains i x = (r : ℕ) → r < 2 ^ i → IsStep (chain i r x)

-- Tree, of m tokens on its one entry; its exits are a row of the level (1996, section 2)
unfoldable pub tree : ℕ → ℕ → List ℕ
tree zero m = m ∷ []
tree (suc level) m = interleave (tree level (half m 0)) (tree level (half m 1))
