use Rattle.cn_texts.proofs.Common.{◌≡◌, ◌++◌, ℕ, List, length, HasRead, IsPlain, Record, AreSpelled, HasSameHeader}
use Rattle.cn_texts.proofs.reading.batch.arrivals.ArrivalReader.read_stretch.Given as goal

abbrev pub invariant-loop-taken : goal.invariant-loop-taken
invariant-loop-taken g l = record {
  plain : IsPlain l.self.records.value;
  same : HasSameHeader l.initial.self l.self;
  many : length l.arrivals.items ≡ l._taken;
  reads : (text : List ℕ) (before : List Record) → HasRead g.R.Read.remaining l.initial.self.records.value text before
      → (records : List Record) × AreSpelled l.initial.self.heading l.initial.self.bounds records l.arrivals.items
      × HasRead g.R.Read.remaining l.self.records.value text (before ++ records);
}
