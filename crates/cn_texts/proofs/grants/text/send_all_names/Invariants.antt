use Rattle.cn_texts.proofs.Common.{◌≡◌, ◌++◌, ℕ, Bool, List, drop, length, flat_map, Puts, EpochRecord, clients_of_epochs, grant_lines, AreRecordsOf}
use Rattle.cn_texts.proofs.grants.text.send_all_names.Given as goal

abbrev pub lines : List EpochRecord → List ℕ
lines records = flat_map (λ r. grant_lines r.number r.clients r.holders.items) records

-- the records of the epochs so far are put
abbrev pub invariant-loop-epoch : goal.invariant-loop-epoch
invariant-loop-epoch g l =
    record {
      as_many : clients_of_epochs (drop l.epoch-index l.epochs) ≡ length l.left;
      put : (carry : Bool) (width : ℕ) (records : List EpochRecord) → AreRecordsOf carry width 0 l.epochs records l.holders
          → (m : ℕ) × (later : List EpochRecord) × AreRecordsOf carry width m (drop l.epoch-index l.epochs) later l.left
          × (sofar : List ℕ) × (lines records ≡ sofar ++ lines later)
          × Puts g.W.Write.contents l.initial.writer l.writer l.initial.pieces l.pieces sofar;
    }
