use Rattle.cn_texts.proofs.Common.{◌≡◌, ◌≤◌, ◌+◌, ℕ, List, [], vec_len, length, MOST_RECORDS, HasRead, IsPlain, Record}
use Rattle.cn_texts.proofs.ReadingLemmas.ScheduleRecords.{AreRead}
use Rattle.cn_texts.proofs.reading.schedule.take_commands.Given as goal

abbrev pub invariant-loop-at : goal.invariant-loop-at
invariant-loop-at g l = record {
  counted : vec_len l.commands + 1 ≡ l.at;
  few : vec_len l.commands ≤ MOST_RECORDS;
  plain : IsPlain l.records;
  taken : (text : List ℕ) → HasRead g.R.Read.remaining l.fn.records text []
      → (before : List Record) × HasRead g.R.Read.remaining l.records text before × (length before ≡ l.at)
      × AreRead before l.commands.items;
}
