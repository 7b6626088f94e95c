-- The epochs of a batch that were run.
use Rattle.cn_renamer.proofs.Common.{◌≡◌, ℕ, ◌+◌, ◌<◌, ◌≤◌, All, Bool, true, ap, Option, List, [], ◌∷◌, drop, length, take, refl, arith, ◌∙◌, IfSome, AllZip, flat_map, drop_at, length-map, take_at, All-drop, All-head, All-take, All-weaker, sum_by-cons, sum_by-take-drop, when, MOST_NAMED, Network, Client, EpochRecord, zero_words, QuietValue, Crew, bounds_of, AreServable, IsBatch, MayCome, clients_of_epochs, records_of, BatchEpoch, AreRecordsOf, HasWritten, Written, known-map, written-map, Description, IsNetworkOf, HaveWalked, IsRunOnFloors, new_runner, IsInOrder, IsRunInOrder, IsRunInOrderOfKnown, IsRunOf, IsRunOfKnown, ids_of, text_in, MayRunAll}
use Rattle.cn_renamer.specs.Floors.{IsRunOnFloorsOfKnown}
use Rattle.cn_floor.proofs.CallerLemmas.{none-came}
use Rattle.cn_cli.specs.declared.options.Form.{Form}
use Rattle.cn_renamer.proofs.Floors.{AreMadeOf, records-made, when-zero}

-- what may come within any bounds may come within those of a large batch
one-comes : (large : Bool) (entries : ℕ) (clients : List Client) → MayCome (bounds_of large entries) clients
    → MayCome (bounds_of true entries) clients
one-comes large entries clients come = grind arith

pub may-come : (large : Bool) (entries : ℕ) (epochs : List BatchEpoch)
    → All (λ (e : BatchEpoch). MayCome (bounds_of large entries) e.clients.items) epochs
    → All (λ (e : BatchEpoch). MayCome (bounds_of true entries) e.clients.items) epochs
may-come large entries epochs come =
    All-weaker (λ (e : BatchEpoch). MayCome (bounds_of large entries) e.clients.items)
    (λ (e : BatchEpoch). MayCome (bounds_of true entries) e.clients.items)
    (λ e. one-comes large entries e.clients.items) epochs come

-- epochs that can be served may be run
pub may-run : (large : Bool) (entries : ℕ) (epochs : List BatchEpoch) → AreServable (bounds_of large entries) epochs
    → clients_of_epochs epochs ≤ MOST_NAMED → MayRunAll entries epochs (clients_of_epochs epochs)
may-run large entries epochs fits few = record { come = may-come large entries epochs fits.come; some = fits.some; few = few; all = refl }

-- epochs that each have some client have some client
pub some-client : (epochs : List BatchEpoch) → 0 < length epochs → All (λ (e : BatchEpoch). 0 < length e.clients.items) epochs
    → 0 < clients_of_epochs epochs
some-client [] none some = absurd (omega (arith, none))
some-client (e ∷ epochs) many some =
    omega (
      arith,
      sum_by-cons (λ (x : BatchEpoch). length x.clients.items) e epochs,
      All-head (λ (x : BatchEpoch). 0 < length x.clients.items) e epochs some,
    )

-- the epochs before a cut may be run, and those after it
module _ (entries : ℕ) (epochs : List BatchEpoch) (places at front : ℕ) (may : MayRunAll entries epochs places)
    (is : front ≡ clients_of_epochs (take at epochs)) where
  -- the clients of both are all
  all-cut : clients_of_epochs (take at epochs) + clients_of_epochs (drop at epochs) ≡ clients_of_epochs epochs
  all-cut = sum_by-take-drop (λ (e : BatchEpoch). length e.clients.items) epochs at

  pub may-front : MayRunAll entries (take at epochs) front
  may-front = record {
    come = All-take (λ (e : BatchEpoch). MayCome (bounds_of true entries) e.clients.items) at epochs may.come;
    some = All-take (λ (e : BatchEpoch). 0 < length e.clients.items) at epochs may.some;
    few = omega (arith, may.few, may.all, is, all-cut);
    all = is;
  }

  pub may-back : (back : ℕ) → front + back ≡ places → MayRunAll entries (drop at epochs) back
  may-back back both = record {
    come = All-drop (λ (e : BatchEpoch). MayCome (bounds_of true entries) e.clients.items) at epochs may.come;
    some = All-drop (λ (e : BatchEpoch). 0 < length e.clients.items) at epochs may.some;
    few = omega (arith, may.few, both);
    all = omega (arith, may.all, is, all-cut, both);
  }

-- if the list of all holders has the clients in the order of the batch, so have the records
pub in-order : (carry : Bool) (w m : ℕ) (epochs : List BatchEpoch) (records : List EpochRecord) (holders : List ℕ)
    → AreRecordsOf carry w m epochs records holders
    → holders ≡ flat_map ids_of epochs → AllZip IsInOrder epochs records
unfolding AreRecordsOf
in-order carry w m [] [] holders are is = tt
in-order carry w m (e ∷ epochs) (r ∷ records) holders (one, rest) is =
    let k : ℕ = length e.clients.items in
    let many : length (ids_of e) ≡ k = length-map e.clients.items (λ (c : Client). c.id) in
    let others : List ℕ = flat_map ids_of epochs in (
      one.holders ∙ ap (take k) is ∙ take_at (ids_of e) others k many,
      in-order carry w (when carry (m + k)) epochs records (drop k holders) rest (ap (drop k) is ∙ drop_at (ids_of e) others k many),
    )
in-order carry w m epochs records holders are is = absurd are

-- what is written of every list of records of these epochs is the text of a run on these floors, and in order if by one
-- worker with one client in hand
pub run-written : {W : Type 0} (contents : W → Option (List ℕ)) (old new : W) (net : Description) (form : Form) (carry large : Bool)
    (network : Network) → IsNetworkOf net network
    → (known : Option (List ℕ)) (epochs : List BatchEpoch)
    → IfSome known (λ bytes. IsBatch (bounds_of large network.table.entries) (records_of bytes) epochs)
    → AreServable (bounds_of large network.table.entries) epochs
    → (crew : Crew) (floors : List QuietValue) (holders : List ℕ) → HaveWalked crew (new_runner carry network) epochs floors holders
    → (written : Written)
    → ((records : List EpochRecord) → AreRecordsOf carry network.table.width 0 epochs records holders
    → HasWritten contents (λ text. text ≡ text_in form network records) written old new)
    → HasWritten contents (IsRunOfKnown net form carry large known) written old new
    × (crew.workers ≡ 1 → crew.hand ≡ 1
    → HasWritten contents (IsRunInOrderOfKnown net form carry large known) written old new)
    × HasWritten contents (IsRunOnFloorsOfKnown net form carry large floors known) written old new
run-written contents old new net form carry large network built known epochs batch fits crew floors holders walked
    written writes =
    let w : ℕ = network.table.width in
    let m : AreMadeOf carry w 0 epochs floors holders = rw walked.all
    (records-made carry network.table.entries w 0 (zero_words network) epochs floors walked.lists refl (none-came network.table)
    (when-zero carry)
    built.2.counts.formed.width.1 (may-come large network.table.entries epochs fits.come) walked.began walked.walked walked.listed) in
    let IsIt : List ℕ → Type 0 = λ bytes. IsBatch (bounds_of large network.table.entries) (records_of bytes) epochs in
    let IsWhole : List ℕ → Type 0 = λ text. text ≡ text_in form network m.records in
    let put : (Is : List ℕ → List ℕ → Type 0) → ((bytes text : List ℕ) → IsIt bytes → IsWhole text → Is bytes text)
    → HasWritten contents (λ text. IfSome known (λ bytes. Is bytes text)) written old new =
    λ Is is. written-map contents IsWhole (λ text. IfSome known (λ bytes. Is bytes text)) written old new
    (λ text same. known-map known IsIt (λ bytes. Is bytes text) batch (λ bytes it. is bytes text it same))
    (writes m.records m.are) in
    let run : (bytes text : List ℕ) → IsIt bytes → IsWhole text → IsRunOf net form carry large bytes text =
    λ bytes text it same. record {
      epochs = epochs;
      batch = rw built.2.entries at it;
      network = network;
      built = built;
      records = m.records;
      served = m.served;
      written = same;
    } in (
      put (IsRunOf net form carry large) run,
      λ worker hand. put (IsRunInOrder net form carry large) (λ bytes text it same. record {
        run = run bytes text it same;
        ordered = in-order carry w 0 epochs m.records holders m.are (walked.in_order worker hand);
      }),
      put (IsRunOnFloors net form carry large floors) (λ bytes text it same. record {
        run = run bytes text it same;
        began = walked.began;
        walked = walked.walked;
        records = m.on;
      }),
    )
