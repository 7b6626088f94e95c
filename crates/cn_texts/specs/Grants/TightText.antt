-- The text of a tight list: a line for each epoch, and the end line.
use Rattle.std.specs.Prelude.{ℕ, List, [], ◌∷◌, ◌++◌, length, map, codes, decimal}
use Rattle.std.specs.List.{flat_map, sum_by}
use Rattle.cn_texts.specs.Writing.Text.{line}

-- an epoch: its number, how many clients it has, and how many of its names are those of each exit
abbrev pub tight_line : ℕ × ℕ × List ℕ → List ℕ
tight_line (number, clients, counts) =
    line (codes "epoch" ∷ decimal number ∷ codes "clients" ∷ decimal clients ∷ codes "counts" ∷ map decimal counts)

-- the same in parts: all before the counts
unfoldable pub tight_head : ℕ → ℕ → List ℕ
tight_head number clients =
    codes "epoch " ++ (decimal number ++ (codes " clients " ++ (decimal clients ++ codes " counts")))

-- each count after a space
abbrev pub tight_counts : List ℕ → List ℕ
tight_counts counts = flat_map (λ count. 32 ∷ decimal count) counts

-- how many epochs and grants there are
unfoldable pub tight_end : ℕ → ℕ → List ℕ
tight_end epochs grants = line (codes "tight" ∷ codes "epochs" ∷ decimal epochs ∷ codes "grants" ∷ decimal grants ∷ [])

-- the whole text of a tight list; each client of an epoch has a grant
abbrev pub tight_text : List (ℕ × ℕ × List ℕ) → List ℕ
tight_text epochs =
    flat_map tight_line epochs ++ tight_end (length epochs) (sum_by (λ (number, clients, counts). clients) epochs)
