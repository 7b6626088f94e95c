-- What closed words keep.
use Rattle.std.specs.Prelude.{◌≡◌}
use Rattle.cn_floor.specs.declared.floor.words.Words.TheInside.{Inside}
use Rattle.cn_floor.specs.Carried.{IsClosed, WordsValue, client_count}
use Rattle.cn_floor.specs.Spacing.{stride_of}

-- closed words as contracts see them
abbrev pub words_of : Inside → WordsValue
words_of w = record { network = w.network; words = w.words.items; stride = stride_of w.spacing }

-- another floor may begin with them, and the number of clients is theirs
pub record KeepsWords (w : Inside) : Type 0 where
  pub closed : IsClosed (words_of w)
  pub clients : w.clients ≡ client_count (words_of w)
