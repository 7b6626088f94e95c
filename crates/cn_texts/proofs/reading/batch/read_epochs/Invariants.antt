use Rattle.cn_texts.proofs.Common.{◌+◌, ◌-◌, ℕ, List, IsPlain, StaysServable, HasHeader, HasSameHeader}
use Rattle.cn_texts.proofs.ReadingLemmas.Ahead.{HasTaken}
use Rattle.cn_texts.proofs.reading.batch.read_epochs.Given as goal

abbrev pub invariant-loop-stretch : goal.invariant-loop-stretch
invariant-loop-stretch g l = record {
  plain : IsPlain l.source.records.value;
  same : HasSameHeader l.fn.source l.source;
  keeps : StaysServable l.fn.source.bounds l.gathering;
  taken : (text : List ℕ) → HasHeader g.I.Read.remaining l.fn.source text
      → HasTaken g.I.Read.remaining l.fn.source.heading l.fn.source.bounds text l.source.records.value l.gathering;
}

abbrev pub decreases-loop-stretch : goal.decreases-loop-stretch
decreases-loop-stretch g l = l.fn.source.bounds.records + 2 - l.gathering.next
