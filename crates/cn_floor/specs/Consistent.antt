-- In which order names are granted.
use Rattle.std.specs.Prelude.{◌≢◌, ℕ, ◌<◌, ◌≤◌, All, List}
use Rattle.cn_ledger.specs.Between.{GrantsBetween}
use Rattle.cn_ledger.specs.Ledger.{IsQuiescent, Ledger}
use Rattle.cn_tables.specs.Table.{Table}
use Rattle.cn_floor.specs.History.{Enter, Event, LeadsTo, Step}

-- Quiescently consistent (Aspnes, Herlihy, Shavit, Counting Networks, JACM 1994; Herlihy, Shavit, The Art of
-- Multiprocessor Programming, 2008, section 3.3): from one moment with nobody inside to a later one, with m clients
-- entered before and n since, the names that are granted are m to n - 1, each once.
abbrev pub IsQuiescentlyConsistent : Table → Ledger → Type 0
IsQuiescentlyConsistent t begin =
    (before between : List Event) (quiet later : Ledger)
    → LeadsTo t before begin quiet → LeadsTo t between quiet later
    → IsQuiescent t quiet → IsQuiescent t later
    → GrantsBetween t quiet later

-- whose event it is
abbrev pub client_of : Event → ℕ
client_of (Enter client entry) = client
client_of (Step client wire) = client

-- In real-time order, as a linearizable counter gives its names (Herlihy, Wing, TOPLAS 1990): if a client has left with
-- a name, and only then the first thing happens of another, then the other is granted a greater name.
abbrev pub KeepsRealTimeOrder : Table → Ledger → Type 0
KeepsRealTimeOrder t begin =
    (before after : List Event) (left later : Ledger) (first exit visit name second other turn greater : ℕ)
    → LeadsTo t before begin left → LeadsTo t after left later
    → 1 ≤ left.granted first exit visit name
    → All (λ event. client_of event ≢ second) before
    → left.granted second other turn greater < later.granted second other turn greater
    → name < greater
