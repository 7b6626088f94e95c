-- The text of a report: the heading, each epoch and what it gave out, and the end line.
use Rattle.std.specs.Prelude.{ℕ, List, [], ◌∷◌, ◌++◌, length, codes, decimal}
use Rattle.std.specs.List.{flat_map, sum_by}
use Rattle.cn_ledger.specs.declared.record.EpochRecord.{EpochRecord}
use Rattle.cn_tables.specs.Network.{Network}
use Rattle.cn_texts.specs.Writing.Outcome.{outcome_lines}
use Rattle.cn_texts.specs.Writing.Text.{heading, line}

-- an epoch, and how many clients entered it
unfoldable pub epoch_line : ℕ → ℕ → List ℕ
epoch_line number clients = line (codes "epoch" ∷ decimal number ∷ codes "clients" ∷ decimal clients ∷ [])

-- an epoch, and what it gave out
abbrev pub epoch_lines : ℕ → EpochRecord → List ℕ
epoch_lines width r = epoch_line r.number r.clients ++ outcome_lines width r

-- how many clients the epochs had, each of which got a name
abbrev pub clients_of_records : List EpochRecord → ℕ
clients_of_records records = sum_by (λ r. r.clients) records

-- how many epochs and grants there are
unfoldable pub report_end : ℕ → ℕ → List ℕ
report_end epochs grants = line (codes "end" ∷ codes "epochs" ∷ decimal epochs ∷ codes "grants" ∷ decimal grants ∷ [])

-- the whole text of a report
abbrev pub report_text : Network → List EpochRecord → List ℕ
report_text network records =
    heading network ++ flat_map (epoch_lines network.table.width) records
    ++ report_end (length records) (clients_of_records records)
