-- What a run of an epoch gives, and why it is refused.
use Rattle.std.specs.Prelude.{◌≡◌, ℕ, ◌+◌, ◌-◌, ◌<◌, ◌≤◌, All, List, length, map, slice_index_or}
use Rattle.std.specs.List.{range_with_len}
use Rattle.cn_spec.specs.Step.{IsEachBelow, name_of, shares, shares_after}
use Rattle.cn_spec.specs.Sums.{times}
use Rattle.cn_spec.specs.Workers.{HandFits, WorkersFit}
use Rattle.cn_tables.specs.declared.end.End.TheVariants.{Balancer}
use Rattle.cn_tables.specs.Faults.{IsFirst}
use Rattle.cn_tables.specs.Network.{Network}
use Rattle.cn_tables.specs.Table.{IsFullFlow, sum_at}
use Rattle.cn_ledger.specs.declared.client.Client.{Client}
use Rattle.cn_walk.specs.declared.running.RunFault.{RunFault}
use Rattle.cn_walk.specs.declared.running.RunFault.TheVariants.{Workers, Hand, TooMany, NoSuchEntry, Memory}
use Rattle.cn_floor.specs.Carried.{WordsValue, client_count}
use Rattle.cn_floor.specs.Ends.{QuietValue, counts_by_exit, passes_of}
use Rattle.cn_walk.specs.Walks.{AreFor}
use Rattle.cn_floor.specs.Words.{clients_in, count_in, entered_in}

-- the client at a position comes by an entry that is there
abbrev pub ComesByOne : ℕ → List Client → ℕ → Type 0
ComesByOne entries clients k = (d : Client) → (slice_index_or clients k d).entry < entries

-- an epoch that may be run, of so many clients at most
pub record MayRun (most entries : ℕ) (clients : List Client) (workers hand : ℕ) : Type 0 where
  pub workers_fit : WorkersFit workers
  pub hand_fits : HandFits hand
  pub few : length clients ≤ most
  pub by_entries : All (λ c. c.entry < entries) clients

-- the fault stands, and no earlier kind of fault does; memory is refused only if the epoch may be run
abbrev pub IsRefused : ℕ → ℕ → List Client → ℕ → ℕ → RunFault → Type 0
IsRefused most entries clients workers hand Workers = ¬ WorkersFit workers
IsRefused most entries clients workers hand Hand = WorkersFit workers × ¬ HandFits hand
IsRefused most entries clients workers hand TooMany = WorkersFit workers × HandFits hand × (most < length clients)
IsRefused most entries clients workers hand (NoSuchEntry position) =
    WorkersFit workers × HandFits hand × (length clients ≤ most)
    × IsFirst (length clients) (ComesByOne entries clients) position
IsRefused most entries clients workers hand Memory = MayRun most entries clients workers hand

-- a floor that went on from words, on which these clients walked, and nobody else
pub record IsRunAfter (before : WordsValue) (clients : List Client) (quiet : QuietValue) : Type 0 where
  pub over : quiet.start.network ≡ before.network
  pub after : quiet.start.words ≡ before.words
  -- its words lay as far apart as theirs
  pub stride : quiet.start.stride ≡ before.stride
  -- its lane let them in, each by its own entry
  pub let_in : quiet.did.came ≡ clients
  -- they came after the clients of the words
  pub came : clients_in before.network.table quiet.words ≡ client_count before + length clients
  -- each exit let out its share of all minus its share of those that came before
  pub counts : counts_by_exit quiet.start quiet.words
      ≡ shares_after (client_count before) (length clients) before.network.table.width
  -- each balancer passed what the full flow of all entries brings there, minus what passed before
  pub passes : (f : ℕ → ℕ) → IsFullFlow before.network.table f
      → ((u : ℕ) → u < before.network.table.entries
      → f u ≡ entered_in before.network.table before.words u + times u (map (λ c. c.entry) clients))
      → passes_of quiet.start quiet.words
      ≡ map (λ b. sum_at before.network.table (Balancer b) f - count_in before.network.table before.words (Balancer b))
      (range_with_len 0 before.network.table.balancers)
  -- the names are those below their number, each once, and each is that of its grant's exit and visit minus the number
  -- of clients that came before
  pub names : IsEachBelow (length clients) (map (λ g. g.name) quiet.did.grants)
  pub named : All (λ g. (g.exit < before.network.table.width)
      × (g.name + client_count before ≡ name_of before.network.table.width g.exit g.visit)) quiet.did.grants
  -- and the grants are theirs, to each client as often as it is among them
  pub theirs : AreFor clients quiet.did.grants

-- a floor over the network on which these clients walked, and nobody else
pub record IsRun (network : Network) (clients : List Client) (quiet : QuietValue) : Type 0 where
  pub over : quiet.start.network ≡ network
  -- its lane let them in, each by its own entry
  pub let_in : quiet.did.came ≡ clients
  -- each exit let out its share of them
  pub counts : counts_by_exit quiet.start quiet.words ≡ shares (length clients) network.table.width
  -- each balancer passed what the full flow of their entries brings there
  pub passes : (f : ℕ → ℕ) → IsFullFlow network.table f
      → ((u : ℕ) → u < network.table.entries → f u ≡ times u (map (λ c. c.entry) clients))
      → passes_of quiet.start quiet.words
      ≡ map (λ b. sum_at network.table (Balancer b) f) (range_with_len 0 network.table.balancers)
  -- the names are those below their number, each once, and each is that of its grant's exit and visit
  pub names : IsEachBelow (length clients) (map (λ g. g.name) quiet.did.grants)
  pub named : All
      (λ g. (g.exit < network.table.width) × (g.name ≡ name_of network.table.width g.exit g.visit)) quiet.did.grants
  -- and the grants are theirs, to each client as often as it is among them
  pub theirs : AreFor clients quiet.did.grants
