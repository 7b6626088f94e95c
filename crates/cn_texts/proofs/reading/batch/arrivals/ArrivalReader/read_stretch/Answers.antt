use Rattle.cn_texts.proofs.Common.{◌≡◌, ◌∷◌, ◌++◌, [], append-nil, append_assoc, arith, false, inr, length-append, refl, rules, true, Ok, is_ok, err_from_is_err_and, Memory, batch_cause_of_fault}
use Rattle.cn_texts.proofs.ReadingLemmas.Ahead.{same-header, stretch-read}
use Rattle.cn_texts.proofs.ReadingLemmas.RecordLists.{spelled-more}
use Rattle.cn_texts.proofs.ReadingLemmas.Told.{told-other}
use Rattle.cn_texts.proofs.reading.batch.arrivals.ArrivalReader.read_stretch.Goals as goal

pub loop-taken-init : goal.loop-taken-init
loop-taken-init g c = record {
  plain = c.requires.open.plain;
  same = record { heading = refl {a = c.args.self.now.heading}; bounds = refl {a = c.args.self.now.bounds} };
  many = rw c.clear.ensures.items refl;
  reads = λ text before read. ([], rw c.clear.ensures.items refl, rw (append-nil before) read);
}

pub loop-taken-preserved : goal.loop-taken-preserved
loop-taken-preserved g c =
    let good : is_ok c.push.result ≡ true = search rules in
    let items = rw good at c.push.ensures.items in
    let xs = c.loop-taken.arrivals.items in
    record {
      plain = c.in_ok-arrival.ensures.plain;
      same = same-header c.loop-taken.invariant.same c.next_arrival.ensures.same;
      many = rw items (omega (arith, length-append xs (c.in-Some.arrival ∷ []), c.loop-taken.invariant.many));
      reads = λ text before read.
          let (records, spelled, now) = c.loop-taken.invariant.reads text before read in
          let (fields, next, is) = rw (c.in-Some.is, c.loop-taken.invariant.same.heading, c.loop-taken.invariant.same.bounds) at
          (c.in_ok-arrival.ensures.next text (before ++ records) now) in (
            records ++ fields ∷ [],
            rw items (spelled-more _ Ok records xs spelled fields c.in-Some.arrival is),
            rw (append_assoc before records (fields ∷ [])) at next,
          );
    }

pub returns-in_err-arrival-clause-reads : goal.returns-in_err-arrival-clause-reads
returns-in_err-arrival-clause-reads g c =
    let reported = err_from_is_err_and c.from_residual.result c.from_residual.ensures.1 in
    rw (reported.1, reported.2) (record {
      plain = tt;
      same = same-header c.loop-taken.invariant.same c.next_arrival.ensures.same;
      reads = λ text before read.
          let (records, spelled, now) = c.loop-taken.invariant.reads text before read in
          let was = c.loop-taken.invariant.same in
          stretch-read records spelled now (rw (was.heading, was.bounds) at
          (c.in_err-arrival.ensures.refused text (before ++ records) now));
    })

pub returns-in_default-clause-reads : goal.returns-in_default-clause-reads
returns-in_default-clause-reads g c = record {
  plain = c.in_ok-arrival.ensures.plain;
  same = same-header c.loop-taken.invariant.same c.next_arrival.ensures.same;
  reads = λ text before read.
      let (records, spelled, now) = c.loop-taken.invariant.reads text before read in
      stretch-read records spelled now (rw c.in_default.is at
      (c.in_ok-arrival.ensures.next text (before ++ records) now));
}

pub returns-then-is_err-clause-reads : goal.returns-then-is_err-clause-reads
returns-then-is_err-clause-reads g c =
    let bad : is_ok c.push.result ≡ false = search rules in
    let items = rw bad at c.push.ensures.items in
    record {
      plain = tt;
      same = same-header c.loop-taken.invariant.same c.next_arrival.ensures.same;
      reads = λ text before read.
          let (records, spelled, now) = c.loop-taken.invariant.reads text before read in
          stretch-read records (rw items spelled) now (inr (inr refl));
    }

pub returns-then-is_err-clause-told : goal.returns-then-is_err-clause-told
returns-then-is_err-clause-told g c = told-other batch_cause_of_fault Memory c.in_ok-arrival.ensures.plain.going (λ is. cc is)

pub returns-then-not-is_next_there-clause-reads : goal.returns-then-not-is_next_there-clause-reads
returns-then-not-is_next_there-clause-reads g c =
    let good : is_ok c.push.result ≡ true = search rules in
    let items = rw good at c.push.ensures.items in
    record {
      plain = c.in_ok-arrival.ensures.plain;
      same = same-header c.loop-taken.invariant.same c.next_arrival.ensures.same;
      reads = λ text before read.
          let (records, spelled, now) = c.loop-taken.invariant.reads text before read in
          let (fields, next, is) = rw (c.in-Some.is, c.loop-taken.invariant.same.heading, c.loop-taken.invariant.same.bounds) at
          (c.in_ok-arrival.ensures.next text (before ++ records) now) in
          let more = rw (append_assoc before records (fields ∷ [])) at next in
          stretch-read (records ++ fields ∷ []) (rw items
          (spelled-more _ Ok records c.loop-taken.arrivals.items spelled fields
          c.in-Some.arrival is)) more more;
    }

pub returns-clause-reads : goal.returns-clause-reads
returns-clause-reads g c = record {
  plain = c.loop-taken.invariant.plain;
  same = c.loop-taken.invariant.same;
  reads = λ text before read.
      let (records, spelled, now) = c.loop-taken.invariant.reads text before read in
      stretch-read records spelled now now;
}
