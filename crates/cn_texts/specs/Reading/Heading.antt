-- The header of a batch, by which its records give the entries of clients or leave them to the rule.
use Rattle.std.specs.Prelude.{◌∷◌, [], Bool, List, Option, Some, None, codes, if◌then◌else◌, slice_index_or}
use Rattle.std.specs.Cmp.Lexicographic.{pointwise}
use Rattle.std.specs.Str.{bytes_eq}
use Rattle.cn_texts.specs.Reading.Records.{Record}
use Rattle.cn_texts.specs.declared.reading.batch.arrival.Heading.{Heading}
use Rattle.cn_texts.specs.declared.reading.batch.arrival.Heading.TheVariants.{WithEntry, ByRule}

-- the header of a batch that gives entries
abbrev pub is_batch_header : Record → Bool
is_batch_header fields = pointwise bytes_eq fields (codes "epoch" ∷ codes "client" ∷ codes "entry" ∷ [])

-- the header of a batch whose clients' entries follow by rule
abbrev pub is_short_header : Record → Bool
is_short_header fields = pointwise bytes_eq fields (codes "epoch" ∷ codes "client" ∷ [])

-- what a record heads, if it is a header
abbrev pub heading_of : Record → Option Heading
heading_of fields =
    if is_batch_header fields then Some WithEntry
    else if is_short_header fields then Some ByRule
    else None

-- this heading if there is one, and otherwise that with entries
abbrev pub heading_or : Option Heading → Heading
heading_or (Some heading) = heading
heading_or None = WithEntry

-- the heading of these records, which is that of the first
abbrev pub heading_in : List Record → Heading
heading_in records = heading_or (heading_of (slice_index_or records 0 []))
