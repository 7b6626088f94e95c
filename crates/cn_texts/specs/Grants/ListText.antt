-- The text of a grant list: the header, and for each epoch its names upward, each with its holder. It is what
-- `TightList.antt` calls a tight list.
use Rattle.std.specs.Prelude.{ℕ, List, ◌++◌, slice_index, codes, decimal}
use Rattle.std.specs.List.{flat_map, range_with_len}
use Rattle.cn_ledger.specs.declared.record.EpochRecord.{EpochRecord}

-- the header
unfoldable pub grants_header : List ℕ
grants_header = codes "epoch,client,name\n"

-- a client and its name in an epoch
unfoldable pub grant_line : ℕ → ℕ → ℕ → List ℕ
grant_line epoch client name = decimal epoch ++ codes "," ++ decimal client ++ codes "," ++ decimal name ++ codes "\n"

-- the names of an epoch below its number of clients, a line for each
abbrev pub grant_lines : ℕ → ℕ → List ℕ → List ℕ
grant_lines epoch clients holders =
    flat_map (λ name. grant_line epoch (slice_index holders name) name) (range_with_len 0 clients)

-- the whole text of a grant list
abbrev pub grants_text : List EpochRecord → List ℕ
grants_text records = grants_header ++ flat_map (λ r. grant_lines r.number r.clients r.holders.items) records
