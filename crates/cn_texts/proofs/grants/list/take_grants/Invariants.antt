use Rattle.cn_texts.proofs.Common.{◌≡◌, ◌≤◌, ◌+◌, ◌++◌, ℕ, List, [], HasRead, IsPlain, Record, IsChecked, count_of, Granted}
use Rattle.cn_texts.proofs.GrantLemmas.GrantRecords.{AreRead, Follow}
use Rattle.cn_texts.proofs.grants.list.take_grants.Given as goal

abbrev pub invariant-loop-at : goal.invariant-loop-at
invariant-loop-at g l = record {
  few : l.at ≤ l.most + 1;
  count : count_of l.granting + 1 ≡ l.at;
  plain : IsPlain l.records;
  taken : (text : List ℕ) → HasRead g.R.Read.remaining l.fn.records text []
      → (done records : List Record) × (earlier latest : List Granted) × HasRead g.R.Read.remaining l.records text (done ++ records)
      × AreRead l.most done earlier × Follow l.most earlier records latest × IsChecked l.granting earlier latest;
}
