-- The records of epochs that were served, by the list of all holders: those of each epoch follow those of the one
-- before.
use Rattle.std.specs.Prelude.{ℕ, ◌≡◌, ◌+◌, Bool, List, [], ◌∷◌, drop, length, take, ⊤}
use Rattle.cn_spec.specs.Step.{shares_after}
use Rattle.cn_spec.specs.Sums.{when}
use Rattle.cn_ledger.specs.declared.record.EpochRecord.{EpochRecord}
use Rattle.cn_texts.specs.declared.reading.batch.BatchEpoch.{BatchEpoch}

-- the record is that of an epoch whose clients came after m others: each of w exits has its share of all of them, less
-- its share of those before, and these are the holders of its names
pub record IsRecordOfEpoch (w m : ℕ) (epoch : BatchEpoch) (own : List ℕ) (r : EpochRecord) : Type 0 where
  pub number : r.number ≡ epoch.number
  pub clients : r.clients ≡ length epoch.clients.items
  pub counts : r.counts.items ≡ shares_after m r.clients w
  pub holders : r.holders.items ≡ own

-- the records are those of the epochs, one by one. m clients come before the first epoch; before each later one come
-- all earlier clients if counters are carried, and else none
unfoldable pub AreRecordsOf : Bool → ℕ → ℕ → List BatchEpoch → List EpochRecord → List ℕ → Type 0
AreRecordsOf carry w m [] [] holders = ⊤
AreRecordsOf carry w m [] (r ∷ records) holders = ⊥
AreRecordsOf carry w m (e ∷ epochs) [] holders = ⊥
AreRecordsOf carry w m (e ∷ epochs) (r ∷ records) holders =
    IsRecordOfEpoch w m e (take (length e.clients.items) holders) r
    × AreRecordsOf carry w (when carry (m + length e.clients.items)) epochs records
    (drop (length e.clients.items) holders)
