use Rattle.cn_texts.proofs.Common.{MOST_NAMED, ◌≡◌, ◌+◌, ◌++◌, ◌≤◌, ℕ, List, drop, length, flat_map, Puts, EpochRecord, clients_of_epochs, AreRecordsOf, epoch_lines}
use Rattle.cn_texts.proofs.writing.report.send_epochs.Given as goal

-- the records of the epochs so far are put
abbrev pub invariant-loop-epoch : goal.invariant-loop-epoch
invariant-loop-epoch g l =
    record {
      as_many : clients_of_epochs (drop l.epoch-index l.epochs) ≡ length l.left;
      few : l.before + length l.left ≤ MOST_NAMED;
      put : (records : List EpochRecord) → AreRecordsOf l.carries l.width 0 l.epochs records l.holders
          → (later : List EpochRecord) × AreRecordsOf l.carries l.width l.before (drop l.epoch-index l.epochs) later l.left
          × (sofar : List ℕ) × (flat_map (epoch_lines l.width) records ≡ sofar ++ flat_map (epoch_lines l.width) later)
          × Puts g.W.Write.contents l.initial.writer l.writer l.initial.pieces l.pieces sofar;
    }
