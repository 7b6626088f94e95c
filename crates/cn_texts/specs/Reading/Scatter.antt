-- A hash of numbers: how it is drawn, and what it keeps after some bytes.
use Rattle.std.specs.Prelude.{ℕ, ◌+◌, ◌*◌, ◌%◌, ◌^◌, ◌∷◌, [], List, length, nat_lt, slice_index, if◌then◌else◌}
use Rattle.std.specs.Hash.DefaultHasher as sip
use Rattle.std.specs.Hash.{u64}
use Rattle.std.specs.Int.{w64, from_le_bytes}
use Rattle.std.specs.List.{fold}
use Rattle.std.specs.RandomState.{initial_hasher}
use Rattle.std.specs.declared.random_state.RandomState.{RandomState}
use Rattle.cn_texts.specs.declared.reading.scatter.Scatter.{Scatter}
use Rattle.cn_texts.specs.declared.reading.scatter.Scattered.{Scattered}

-- the word that a random state has for a place: the hash of the place
abbrev pub drawn_word : RandomState → ℕ → ℕ
drawn_word state place = sip.finish (fold sip.write (initial_hasher state) (u64 place))

-- factor and term by four words of a random state, each of 64 bits
abbrev pub drawn_by : RandomState → Scatter
drawn_by state = record {
  factor = drawn_word state 0 * 2 ^ 64 + drawn_word state 1;
  term = drawn_word state 2 * 2 ^ 64 + drawn_word state 3;
}

-- the number of the first eight bytes, the lowest first
abbrev pub word_of : List ℕ → ℕ
word_of bs =
    if nat_lt (length bs) 8 then 0
    else from_le_bytes w64 (slice_index bs 0 ∷ slice_index bs 1 ∷ slice_index bs 2 ∷ slice_index bs 3
    ∷ slice_index bs 4 ∷ slice_index bs 5 ∷ slice_index bs 6 ∷ slice_index bs 7 ∷ [])

-- after these bytes, the factor times their number is added
abbrev pub scattered : Scattered → List ℕ → Scattered
scattered s bs = record s { sum = (s.sum + (s.factor * word_of bs) % 2 ^ 128) % 2 ^ 128 }
