-- A grant list that a run has written is tight.
use Rattle.cn_report.proofs.Common.{◌≡◌, ◌<◌, ◌^◌, ℕ, ◌≤◌, ◌+◌, Bool, true, false, List, [], ◌∷◌, length, map, refl, arith, ap, ◌∙◌, sym, AllByRecursion, fold, sum_by, length-map, All-permutation, length_permutation, counts_after, shares, shares_after, MOST_NAMED, MOST_RECORDS, Client, EpochRecord, AreRising, bounds_of, IsTightList, records_of, printed_epochs, clients_of_records, BatchEpoch, Description, entries_of, Grants, AreServed, IsRunOf, IsServed, clients_before_next, AreRisingRecords, AreTightRecords, HasOwnNames, checked_epoch, names_in, served_epoch}
use Rattle.std.proofs.lemmas.List.Folds.{fold-map}
use Rattle.cn_report.proofs.ReadBack.Batches.{IsSmallEpoch, batch-numbers}
use Rattle.cn_report.proofs.ReadBack.PrintedAgain.{printed-back, tight-after}
use Rattle.cn_report.proofs.ReadBack.TightAgain.{written-tight}

module _ (carry : Bool) (width : ℕ) where
  -- what follows of each record from what holds of its epoch, of epochs that were served one after another
  each-of : (P : BatchEpoch → Type 0) (Q : EpochRecord → Type 0)
      → ((m : ℕ) (e : BatchEpoch) (r : EpochRecord) → IsServed width m e r → P e → Q r)
      → (m : ℕ) (epochs : List BatchEpoch) (records : List EpochRecord) → AreServed carry width m epochs records
      → AllByRecursion P epochs → AllByRecursion Q records
  unfolding AreServed
  each-of P Q f m [] [] served all = tt
  each-of P Q f m [] (r ∷ records) served all = absurd served
  each-of P Q f m (e ∷ epochs) [] served all = absurd served
  each-of P Q f m (e ∷ epochs) (r ∷ records) (one, rest) all =
      let next = clients_before_next carry m (length e.clients.items) in
      (f m e r one all.0, each-of P Q f next epochs records rest all.1)

  -- the records' numbers rise as the epochs' do
  rising : (m : ℕ) (epochs : List BatchEpoch) (records : List EpochRecord) → AreServed carry width m epochs records
      → AreRising epochs
      → AreRisingRecords records
  unfolding AreServed AreRising AreRisingRecords
  rising m [] [] served up = tt
  rising m [] (r ∷ records) served up = absurd served
  rising m (e ∷ epochs) [] served up = absurd served
  rising m (e ∷ epochs) (r ∷ records) (one, rest) up =
      let next = clients_before_next carry m (length e.clients.items) in (
        each-of (λ x. e.number < x.number) (λ x. r.number < x.number)
            (λ k x y same above. omega (arith, one.number, same.number, above))
            next epochs records rest up.0,
        rising next epochs records rest up.1,
      )

  -- what a record has of its epoch
  mapped : {Y : Type 0} (f : BatchEpoch → Y) (g : EpochRecord → Y)
      → ((m : ℕ) (e : BatchEpoch) (r : EpochRecord) → IsServed width m e r → g r ≡ f e)
      → (m : ℕ) (epochs : List BatchEpoch) (records : List EpochRecord) → AreServed carry width m epochs records
      → map g records ≡ map f epochs
  unfolding AreServed
  mapped f g same m [] [] served = refl
  mapped f g same m [] (r ∷ records) served = absurd served
  mapped f g same m (e ∷ epochs) [] served = absurd served
  mapped f g same m (e ∷ epochs) (r ∷ records) (one, rest) =
      let next = clients_before_next carry m (length e.clients.items) in
      λ i. same m e r one i ∷ mapped f g same next epochs records rest i

own-names : (width m : ℕ) (e : BatchEpoch) (r : EpochRecord) → IsServed width m e r → IsSmallEpoch e → HasOwnNames r
own-names width m e r served small = record {
  number = omega (arith, served.number, small.number);
  clients = All-permutation (λ (client : ℕ). client < 2 ^ 64) (map (λ (c : Client). c.id) e.clients.items) r.holders.items served.holders
      small.clients;
  holders = length_permutation _ _ served.holders ∙ length-map e.clients.items (λ (c : Client). c.id)
      ∙ sym served.clients;
  once = served.once;
}

few-records : (large : Bool) → (bounds_of large 0).records ≤ MOST_NAMED
few-records true = let same : MOST_NAMED ≤ MOST_NAMED = omega arith in same
few-records false = let less : MOST_RECORDS ≤ MOST_NAMED = omega arith in less

module _ (net : Description) (carry large : Bool) (bytes text : List ℕ) (run : IsRunOf net Grants carry large bytes text) where
  tight : AreTightRecords (bounds_of large 0).records run.records
  tight =
      let width = run.network.table.width in
      let numbers = batch-numbers (bounds_of large (entries_of net.kind net.width)) (records_of bytes) run.epochs run.batch in
      let few : sum_by (λ (e : BatchEpoch). length e.clients.items) run.epochs ≤ (bounds_of large 0).records = numbers.1 in
      let many = mapped carry width (λ e. length e.clients.items) (λ r. r.clients)
      (λ m e r one. one.clients) 0 run.epochs run.records run.served in
      let total : clients_of_records run.records ≡ sum_by (λ (e : BatchEpoch). length e.clients.items) run.epochs =
      sym (fold-map (λ (a n : ℕ). a + n) (λ (r : EpochRecord). r.clients) 0 run.records)
      ∙ ap (fold (λ (a n : ℕ). a + n) 0) many
      ∙ fold-map (λ (a n : ℕ). a + n) (λ (e : BatchEpoch). length e.clients.items) 0 run.epochs in
      record {
        rising = rising carry width 0 run.epochs run.records run.served run.batch.holds.rising;
        names = each-of carry width IsSmallEpoch HasOwnNames
            (own-names width) 0 run.epochs run.records run.served numbers.0;
        few = omega (arith, total, few);
      }

  -- a check finds no flaw in it
  pub accepted : IsTightList (bounds_of large 0).records (records_of text)
  accepted = rw run.written (written-tight (bounds_of large 0).records run.records (few-records large) tight)

  -- and lists the epochs of the batch
  pub printed : (w : ℕ) → printed_epochs w (records_of text) ≡ map (served_epoch w) run.epochs
  printed w =
      ap (λ (t : List ℕ). printed_epochs w (records_of t)) run.written
      ∙ printed-back (bounds_of large 0).records w run.records (few-records large) tight
      (each-of carry run.network.table.width (λ e. 0 < length e.clients.items) (λ r. 0 < r.clients)
      (λ m e r one some. omega (arith, one.clients, some)) 0 run.epochs
      run.records run.served run.batch.holds.some)
      ∙ mapped carry run.network.table.width (served_epoch w) (checked_epoch w)
      (λ m e r one i. (one.number i, one.clients i, shares (one.clients i) w)) 0 run.epochs run.records run.served

  -- each epoch's names are shared out, after any number of clients
  pub counted_after : (w m epoch : ℕ) → counts_after m w (names_in epoch (records_of text))
      ≡ shares_after m (length (names_in epoch (records_of text))) w
  counted_after = tight-after (bounds_of large 0).records (records_of text) accepted
