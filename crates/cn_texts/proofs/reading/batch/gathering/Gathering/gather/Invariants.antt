use Rattle.cn_texts.proofs.Common.{◌≡◌, ◌+◌, List, Record, IsGathered, StaysServable, AreSpelled, AreRead, Arrival, Heading}
use Rattle.cn_texts.proofs.ReadingLemmas.Stretches.{GatheredTo}
use Rattle.cn_texts.proofs.reading.batch.gathering.Gathering.gather.Given as goal

abbrev pub invariant-loop-arrival : goal.invariant-loop-arrival
invariant-loop-arrival l = record {
  keeps : StaysServable l.bounds l.self;
  next : l.self.next ≡ l.initial.self.next + l.arrival-index;
  taken : (heading : Heading) (before records : List Record) (came : List Arrival) → AreRead heading l.bounds before came
      → IsGathered l.initial.self came
      → AreSpelled heading l.bounds records l.arrivals → GatheredTo heading l.bounds before records came l.arrivals l.self l.arrival-index;
}
