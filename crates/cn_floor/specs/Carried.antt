-- The words of closed floors, with which another floor may begin.
use Rattle.std.specs.Prelude.{ℕ, ◌+◌, ◌≤◌, List, [], replicate}
use Rattle.cn_spec.specs.declared.limits.TheConstants.{MOST_TAKEN}
use Rattle.cn_tables.specs.Network.{Network, IsNetwork}
use Rattle.cn_ledger.specs.Ledger.{Ledger, IsTight}
use Rattle.cn_floor.specs.declared.view.Start.{Start}
use Rattle.cn_floor.specs.Rule.{IsCarried, ledger_of}
use Rattle.cn_floor.specs.Words.{clients_in, word_count}

-- the words of a network as contracts see them, and how far apart two neighbours lie in a floor that goes on from them
pub record WordsValue : Type 0 where
  pub network : Network
  pub words : List ℕ
  pub stride : ℕ

-- what a floor leaves for the next as contracts see it: the words with which that begins, and how many records of its
-- yard are free
pub record LeftoversValue : Type 0 where
  pub words : WordsValue
  pub spare : ℕ

-- how many clients they count
abbrev pub client_count : WordsValue → ℕ
client_count w = clients_in w.network.table w.words

-- words of which each is 0: nobody came; they lie side by side
abbrev pub zero_words : Network → WordsValue
zero_words network = record { network = network; words = replicate (word_count network.table) 0; stride = 1 }

-- the ledger that they record: that of clients who all are out
abbrev pub words_ledger : WordsValue → Ledger
words_ledger w = ledger_of w.network.table w.words w.words []

-- words of a sound ledger with nobody inside; they count no more clients than a floor may carry and let in
-- together
pub record IsClosed (w : WordsValue) : Type 0 where
  pub network : IsNetwork w.network
  pub carried : IsCarried w.network.table w.words
  pub few : client_count w ≤ MOST_TAKEN + MOST_TAKEN

-- each exit has let out its share of them, and each balancer has passed what the full flow brings there
abbrev pub AreTight : WordsValue → Type 0
AreTight w = IsTight w.network.table (words_ledger w)

-- what a floor over them begins with
abbrev pub start_after : WordsValue → ℕ → Start
start_after w quota = record { network = w.network; quota = quota; words = w.words; stride = w.stride }

-- and the words with which a floor began
abbrev pub words_before : Start → WordsValue
words_before start = record { network = start.network; words = start.words; stride = start.stride }
