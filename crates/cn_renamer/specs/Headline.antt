-- The headline: for every accepted batch, each of the three networks, every number of workers and every interleaving of
-- their steps, what a run writes gives, for each epoch of k clients, exit i the count ceiling((k - i) / w) and its
-- clients the names 0 to k-1, each once. If counters are carried: for each epoch of k clients after m, exit i has its
-- share of m+k clients minus its share of m. Without carry m is 0, and both are one. (At every moment before that the
-- rule of the floor holds: `cn_floor`'s `KeepsRule`.)
use Rattle.std.specs.Prelude.{ℕ, ◌≡◌, ◌+◌, ◌≤◌, [], ◌∷◌, Bool, IfSome, List, Option, length, map, ⊤}
use Rattle.std.specs.List.{AllZip}
use Rattle.std.specs.List.Sorted.{IsPermutation}
use Rattle.cn_spec.specs.Step.{shares_after}
use Rattle.cn_spec.specs.Sums.{times, when}
use Rattle.cn_tables.specs.Network.{Network}
use Rattle.cn_ledger.specs.declared.record.EpochRecord.{EpochRecord}
use Rattle.cn_texts.specs.Reading.Batch.{IsBatch}
use Rattle.cn_texts.specs.Reading.Bounds.{bounds_of}
use Rattle.cn_texts.specs.Reading.Records.{records_of}
use Rattle.cn_texts.specs.declared.reading.batch.BatchEpoch.{BatchEpoch}
use Rattle.cn_texts.specs.Grants.ListText.{grants_text}
use Rattle.cn_texts.specs.Writing.Report.{report_text}
use Rattle.cn_nets.specs.Net.{Description, IsNetworkOf, entries_of}
use Rattle.cn_cli.specs.declared.options.Form.{Form}
use Rattle.cn_cli.specs.declared.options.Form.TheVariants.{Report, Grants}

-- of an epoch of k clients after m each exit i of w has its share of m + k minus its share of m, where the share of k
-- is ceiling((k - i) / w); and the clients, each once, are the holders of the names 0 to k-1, in this order
pub record IsServed (w m : ℕ) (epoch : BatchEpoch) (r : EpochRecord) : Type 0 where
  pub number : r.number ≡ epoch.number
  pub clients : r.clients ≡ length epoch.clients.items
  pub counts : r.counts.items ≡ shares_after m r.clients w
  pub holders : IsPermutation (map (λ c. c.id) epoch.clients.items) r.holders.items
  pub once : (client : ℕ) → times client r.holders.items ≤ 1

-- how many clients come before the epoch after one of k clients that come after m: with carry all of them, without it
-- none
abbrev pub clients_before_next : Bool → ℕ → ℕ → ℕ
clients_before_next carry m k = when carry (m + k)

-- the epochs were served one after another; m clients come before the first
unfoldable pub AreServed : Bool → ℕ → ℕ → List BatchEpoch → List EpochRecord → Type 0
AreServed carry w m [] [] = ⊤
AreServed carry w m [] (r ∷ records) = ⊥
AreServed carry w m (e ∷ epochs) [] = ⊥
AreServed carry w m (e ∷ epochs) (r ∷ records) =
    IsServed w m e r × AreServed carry w (clients_before_next carry m (length e.clients.items)) epochs records

-- the text of epochs in the asked form
abbrev pub text_in : Form → Network → List EpochRecord → List ℕ
text_in Report network records = report_text network records
text_in Grants network records = grants_text records

-- the bytes that were read are a batch, within the bounds of a large one or of one that is not, its epochs were served
-- on the network, and this is the text of that
pub record IsRunOf (net : Description) (form : Form) (carry large : Bool) (bytes text : List ℕ) : Type 0 where
  pub epochs : List BatchEpoch
  pub batch : IsBatch (bounds_of large (entries_of net.kind net.width)) (records_of bytes) epochs
  pub network : Network
  pub built : IsNetworkOf net network
  pub records : List EpochRecord
  pub served : AreServed carry network.table.width 0 epochs records
  pub written : text ≡ text_in form network records

-- this text is that of a run of the bytes that a reader has left, if they are known
abbrev pub IsRunOfKnown : Description → Form → Bool → Bool → Option (List ℕ) → List ℕ → Type 0
IsRunOfKnown net form carry large known text = IfSome known (λ bytes. IsRunOf net form carry large bytes text)

-- the clients of an epoch, in the order of the batch
abbrev pub ids_of : BatchEpoch → List ℕ
ids_of epoch = map (λ c. c.id) epoch.clients.items

-- the names of an epoch follow the order of the batch: its n-th client, counted from 0, holds the name n
abbrev pub IsInOrder : BatchEpoch → EpochRecord → Type 0
IsInOrder epoch r = r.holders.items ≡ ids_of epoch

-- so do those of each epoch of a run
pub record IsRunInOrder (net : Description) (form : Form) (carry large : Bool) (bytes text : List ℕ) : Type 0 where
  pub run : IsRunOf net form carry large bytes text
  pub ordered : AllZip IsInOrder run.epochs run.records

-- this text is that of such a run of the bytes that a reader has left, if they are known
abbrev pub IsRunInOrderOfKnown : Description → Form → Bool → Bool → Option (List ℕ) → List ℕ → Type 0
IsRunInOrderOfKnown net form carry large known text =
    IfSome known (λ bytes. IsRunInOrder net form carry large bytes text)
