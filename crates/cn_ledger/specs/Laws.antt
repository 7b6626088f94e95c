-- What the laws of ledgers say.
use Rattle.std.specs.Prelude.{◌≡◌, ℕ, ◌+◌, ◌<◌, ◌≤◌, length}
use Rattle.cn_spec.specs.Sums.{sum_below}
use Rattle.cn_tables.specs.declared.end.End.{End}
use Rattle.cn_tables.specs.declared.end.End.TheVariants.{Exit}
use Rattle.cn_tables.specs.Network.{Network, IsNetwork}
use Rattle.cn_tables.specs.Table.{Stands, Table, end_of}
use Rattle.cn_ledger.specs.Ledger.{Ledger, IsSound, all_entered}

-- each sound ledger of a counting network has this property
abbrev pub AllSound : (Table → Ledger → Type 0) → Type 0
AllSound P =
    (network : Network) (ledger : Ledger) → IsNetwork network → IsSound network.table ledger
    → P network.table ledger

-- on a counting network such an event takes a sound ledger to a sound one
abbrev pub KeepsSound : (Table → Ledger → Ledger → Type 0) → Type 0
KeepsSound Event =
    (network : Network) (old new : Ledger) → IsNetwork network
    → Event network.table old new → IsSound network.table old → IsSound network.table new

-- on a counting network a client of which this is the event stood on the wire before it
abbrev pub StoodThere : (Table → Ledger → Ledger → Type 0) → ℕ → ℕ → Type 0
StoodThere Event client wire =
    (network : Network) (old new : Ledger) → IsNetwork network
    → Event network.table old new → (1 ≤ old.standing wire client) × (1 ≤ old.on wire)

-- no end has been passed more often than clients entered
abbrev pub HasFewCounts : Table → Ledger → Type 0
HasFewCounts t l = (end : End) → Stands t end → l.count end ≤ all_entered t l

-- how many have left, by all exits
abbrev pub all_left : Table → Ledger → ℕ
all_left t l = sum_below t.width (λ i. l.count (Exit i))

-- how many stand on wires
abbrev pub all_inside : Table → Ledger → ℕ
all_inside t l = sum_below (length t.ends) l.on

-- whoever entered has left or is inside
abbrev pub NobodyIsLost : Table → Ledger → Type 0
NobodyIsLost t l = all_left t l + all_inside t l ≡ all_entered t l

-- two grants of one name are one grant: of one client, by one exit, with one visit
abbrev pub NamesDiffer : Ledger → Type 0
NamesDiffer l =
    (client other exit another visit second name : ℕ)
    → 1 ≤ l.granted client exit visit name → 1 ≤ l.granted other another second name
    → (client ≡ other) × (exit ≡ another) × (visit ≡ second)

-- each grant was made once
abbrev pub GrantsOnce : Ledger → Type 0
GrantsOnce l =
    (client exit visit name : ℕ) → 1 ≤ l.granted client exit visit name
    → l.granted client exit visit name ≡ 1

-- a client stands on a wire that ends so
pub record StandsAt (t : Table) (l : Ledger) (client wire : ℕ) (end : End) : Type 0 where
  pub inside : wire < length t.ends
  pub ends : end_of t wire ≡ end
  pub stands : 1 ≤ l.standing wire client
