-- What calls make of takers, and why they are refused: each by the first cause that stands, in the order of the lines.
use Rattle.std.specs.Prelude.{◌≡◌, ℕ, ◌*◌, ◌/◌, ◌<◌, ◌≤◌, min, nat_le, if◌then◌else◌, List, Option, None, Some}
use Rattle.cn_tables.specs.declared.kind.Kind.{Kind}
use Rattle.cn_nets.specs.Net.{IsNetworkOf}
use Rattle.cn_floor.specs.Steps.{IsAnswer, StoodInState}
use Rattle.cn_lists.specs.Taking.{AreTaken, IsTaken, TakerValue, empty_taker}
use Rattle.cn_floor.specs.Views.{after_entered, after_look, after_split, base, split_off}
use Rattle.cn_floor.specs.Words.{word_count}
use Rattle.cn_spec.specs.declared.limits.TheConstants.{MOST_TAKEN}
use Rattle.cn_handles.specs.Calls.{number_of}
use Rattle.cn_handles.specs.declared.handles.held_taker.TheConstants.{KEPT, SHARE, SMALL_SHARE}
use Rattle.cn_handles.specs.declared.handles.refusal.Refusal.{Refusal}
use Rattle.cn_handles.specs.declared.handles.refusal.Refusal.TheVariants.{Nothing, Memory, NoSuchEntry, QuotaSpent, QuotaTooSmall}

-- there is a taker, and this holds of it
abbrev pub WithTaker : Option TakerValue → (TakerValue → Type 0) → Type 0
WithTaker taker P = (t : TakerValue) × (taker ≡ Some t) × P t

-- a taker that took nothing, with all names of a floor on which nobody came before
pub record IsFirst (t : TakerValue) : Type 0 where
  pub quota : t.home.start.quota ≡ MOST_TAKEN
  pub zero : base t.home.start ≡ 0
  pub empty : t ≡ empty_taker t.home MOST_TAKEN

-- a first taker of a floor over the network of this kind and width
abbrev pub OpensTakes : Option TakerValue → ℕ → ℕ → Type 0
OpensTakes new kind width =
    (t : TakerValue) × (k : Kind) × (new ≡ Some t) × (number_of k ≡ kind) × IsFirst t
    × IsNetworkOf (record { kind = k; width = width }) t.home.start.network

-- the words of a taker's floor lie side by side in memory for 0, and apart for each other number
pub record LieBy (number : ℕ) (t : TakerValue) : Type 0 where
  pub side_by_side : number ≡ 0 → t.home.table.words ≡ word_count t.home.start.network.table
  pub apart : 0 < number → t.home.table.words ≡ 16 * word_count t.home.start.network.table

-- how many names another taker gets of so many: half of them, up to a large share if there are more than are kept for
-- small ones, and up to a small one else
abbrev pub share_of : ℕ → ℕ
share_of quota = min (if nat_le quota KEPT then SMALL_SHARE else SHARE) (quota / 2)

-- so much of a taker's quota is another taker's, of the same floor
pub record IsSplitOff (old new other : TakerValue) (quota : ℕ) : Type 0 where
  pub first : new ≡ record old { view = after_look (after_split quota old.view) }
  pub second : other ≡ record (empty_taker old.home quota) { view = after_look (split_off quota old.view) }
  pub in_states : StoodInState old.home.start new.view × StoodInState old.home.start other.view
  pub within : quota ≤ old.view.quota

-- the same of what handles have: a taker split another one off
abbrev pub SplitsTaker : Option TakerValue → Option TakerValue → Option TakerValue → Type 0
SplitsTaker old new other =
    (t u v : TakerValue) × (old ≡ Some t) × (new ≡ Some u) × (other ≡ Some v)
    × IsSplitOff t u v (share_of t.view.quota)

-- a taker took a name
abbrev pub Takes : Option TakerValue → Option TakerValue → ℕ → ℕ → Type 0
Takes old new entry name = (t u : TakerValue) × (old ≡ Some t) × (new ≡ Some u) × IsTaken t u entry name

-- a taker took these names together, for as many clients
abbrev pub TakesMany : Option TakerValue → Option TakerValue → List ℕ → ℕ → List ℕ → Type 0
TakesMany old new clients entry names =
    (t u : TakerValue) × (old ≡ Some t) × (new ≡ Some u) × AreTaken t u clients entry names

-- a taker was answered how many came in
pub record IsTold (old new : TakerValue) (answer : ℕ) : Type 0 where
  pub fresh : IsAnswer old.home.start old.view answer
  pub taker : new ≡ record old { view = after_entered old.home.start answer old.view }
  pub in_state : StoodInState old.home.start new.view

-- the same of what a handle has
abbrev pub Tells : Option TakerValue → Option TakerValue → ℕ → Type 0
Tells old new answer = (t u : TakerValue) × (old ≡ Some t) × (new ≡ Some u) × IsTold t u answer

-- why a taker is not split: the other one would get no name
abbrev pub NotSplitOff : Option TakerValue → Refusal → Type 0
NotSplitOff taker Nothing = taker ≡ None
NotSplitOff taker QuotaTooSmall = WithTaker taker (λ t. t.view.quota < 2)
NotSplitOff taker Memory = WithTaker taker (λ t. 2 ≤ t.view.quota)
NotSplitOff taker r = ⊥

-- why so many names are not taken
abbrev pub NotTaken : Option TakerValue → ℕ → ℕ → Refusal → Type 0
NotTaken taker entry count Nothing = taker ≡ None
NotTaken taker entry count NoSuchEntry = WithTaker taker (λ t. t.home.start.network.table.entries ≤ entry)
NotTaken taker entry count QuotaSpent = WithTaker taker (λ t. (entry < t.home.start.network.table.entries)
    × (t.view.quota < count))
NotTaken taker entry count r = ⊥
