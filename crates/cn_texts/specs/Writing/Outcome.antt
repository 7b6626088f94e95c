-- What an epoch gave out, as texts show it: its exits and their counts, its names and their holders.
use Rattle.std.specs.Prelude.{ℕ, List, [], ◌∷◌, ◌++◌, slice_index, codes, decimal}
use Rattle.std.specs.List.{flat_map, range_with_len}
use Rattle.cn_ledger.specs.declared.record.EpochRecord.{EpochRecord}
use Rattle.cn_texts.specs.Writing.Text.{line}

-- how many left by an exit
unfoldable pub exit_line : ℕ → ℕ → List ℕ
exit_line exit count = line (codes "exit" ∷ decimal exit ∷ codes "count" ∷ decimal count ∷ [])

-- the exits below the width, a line for each
abbrev pub exit_lines : ℕ → List ℕ → List ℕ
exit_lines width counts = flat_map (λ exit. exit_line exit (slice_index counts exit)) (range_with_len 0 width)

-- who holds a name
unfoldable pub name_line : ℕ → ℕ → List ℕ
name_line name client = line (codes "name" ∷ decimal name ∷ codes "client" ∷ decimal client ∷ [])

-- the names below the number of clients, a line for each
abbrev pub name_lines : ℕ → List ℕ → List ℕ
name_lines clients holders = flat_map (λ name. name_line name (slice_index holders name)) (range_with_len 0 clients)

-- the exits with their counts, and then the names with their holders
abbrev pub outcome_lines : ℕ → EpochRecord → List ℕ
outcome_lines width r = exit_lines width r.counts.items ++ name_lines r.clients r.holders.items
