-- A floor with nobody inside, and what it leaves when it is closed.
use Rattle.std.specs.Prelude.{◌≡◌, ℕ, ◌+◌, ◌-◌, ◌<◌, ◌≤◌, All, List, [], ◌∷◌, IsPermutation, length, map, slice_index, sum_by}
use Rattle.std.specs.List.{range_with_len}
use Rattle.cn_spec.specs.Step.{IsEachBelow, name_of, share, shares_after}
use Rattle.cn_spec.specs.Sums.{once_below, times}
use Rattle.cn_tables.specs.declared.end.End.{End}
use Rattle.cn_tables.specs.declared.end.End.TheVariants.{Exit}
use Rattle.cn_tables.specs.Table.{Stands}
use Rattle.cn_ledger.specs.Ledger.{IsTight}
use Rattle.cn_floor.specs.declared.view.Grant.{Grant}
use Rattle.cn_floor.specs.declared.view.Start.{Start}
use Rattle.cn_floor.specs.declared.view.View.{View}
use Rattle.cn_floor.specs.Carried.{WordsValue}
use Rattle.cn_floor.specs.Rule.{IsCarried, ledger_of}
use Rattle.cn_floor.specs.Views.{base, given_in, on_in}
use Rattle.cn_floor.specs.Words.{clients_in, count_in, end_word, entered_in, word_count}

-- no lane has a token on any wire
abbrev pub NobodyInside : Start → List View → Type 0
NobodyInside start views = (u : ℕ) → u < length start.network.table.ends → sum_by (on_in u) views ≡ 0

-- how many left by each exit since the floor began: the words minus the carried ones
abbrev pub counts_by_exit : Start → List ℕ → List ℕ
counts_by_exit start words =
    let t = start.network.table in
    let first = 1 + t.entries + t.balancers in
    map (λ i. slice_index words (first + i) - slice_index start.words (first + i)) (range_with_len 0 t.width)

-- how many passed each balancer since the floor began
abbrev pub passes_of : Start → List ℕ → List ℕ
passes_of start words =
    let t = start.network.table in
    let first = 1 + t.entries in
    map (λ b. slice_index words (first + b) - slice_index start.words (first + b)) (range_with_len 0 t.balancers)

-- a list that has, at the place of each end's word, how many went by the end since the floor began
pub record HasRisen (start : Start) (words risen : List ℕ) : Type 0 where
  pub count : length risen ≡ word_count start.network.table
  pub each : (end : End) → Stands start.network.table end
      → slice_index risen (end_word start.network.table end)
      ≡ slice_index words (end_word start.network.table end) - slice_index start.words
      (end_word start.network.table end)

-- a closed floor as contracts see it: what it began with, what its lane did, and the words
pub record QuietValue : Type 0 where
  pub start : Start
  pub did : View
  pub words : List ℕ

-- its words, which lie as those with which it began
abbrev pub words_after : QuietValue → WordsValue
words_after quiet = record { network = quiet.start.network; words = quiet.words; stride = quiet.start.stride }

-- the one lane has all that came in, and nobody is inside
pub record IsClosedFloor (start : Start) (v : View) (words : List ℕ) : Type 0 where
  -- everyone that came in has a grant
  pub out : length v.entries ≡ length v.grants
  pub came : clients_in start.network.table words ≡ base start + length v.grants
  -- each entry's word has the lane's own entries, above the carried ones
  pub entered : (u : ℕ) → u < start.network.table.entries
      → entered_in start.network.table words u ≡ entered_in start.network.table start.words u + times u v.entries
  -- the lane's passages and visits go on from the carried ones, each number once
  pub numbered : (end : End) (n : ℕ) → Stands start.network.table end
      → once_below (count_in start.network.table start.words end) n + given_in end n v
      ≡ once_below (count_in start.network.table words end) n
  -- so the visits on an exit are those from its share of the clients that came before up to, not including, its share
  -- of all
  pub visits : (i n : ℕ) → i < start.network.table.width
      → once_below (share (base start) start.network.table.width i) n + given_in (Exit i) n v
      ≡ once_below (share (base start + length v.grants) start.network.table.width i) n
  -- the ledger of all that ever came is tight: each exit has let out its share, each balancer has passed what the full
  -- flow brings there, and each name is granted once
  pub tight : IsTight start.network.table (ledger_of start.network.table start.words words (v ∷ []))
  -- each exit's count is its share of all that ever came minus its share of those that came before
  pub shares : counts_by_exit start words ≡ shares_after (base start) (length v.grants) start.network.table.width
  -- every answer that the lane was given is at most their number
  pub seen : v.seen ≤ length v.grants
  -- each grant has the name of its exit and visit, and the names are those below the number of grants, each once
  pub named : All (λ g. (g.exit < start.network.table.width)
      × (g.name + base start ≡ name_of start.network.table.width g.exit g.visit)) v.grants
  pub names : IsEachBelow (length v.grants) (map (λ g. g.name) v.grants)
  -- another floor may begin with the words
  pub closed : IsCarried start.network.table words

-- the clients by rising name: at each place stands the client that was granted the place's number
pub record ListsHolders (grants : List Grant) (holders : List ℕ) : Type 0 where
  pub all : length holders ≡ length grants
  pub by_name : All (λ g. slice_index holders g.name ≡ g.client) grants
  -- they are the clients of the grants, each as often as it was granted a name
  pub own : IsPermutation (map (λ g. g.client) grants) holders
