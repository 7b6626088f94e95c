use Rattle.cn_texts.proofs.Common.{List, arith, refl, Arrival, IfOk-weaker, err_from_is_err_and, records_of}
use Rattle.cn_texts.proofs.ReadingLemmas.Ahead.{after-header, at-end, goes-on, next-fault, same-header, stretch-fault}
use Rattle.cn_texts.proofs.ReadingLemmas.Told.{read-stops}
use Rattle.cn_texts.proofs.reading.batch.read_epochs.Goals as goal

-- what follows from all arrivals of a text
with-all : {Read Gathered : List Arrival → Type 0} {Answer : Type 0}
    → (came : List Arrival) × Read came × Gathered came
    → ((arrivals : List Arrival) → Read arrivals → Gathered arrivals → Answer) → Answer
with-all (came, read, gathered) answer = answer came read gathered

pub loop-stretch-init : goal.loop-stretch-init
loop-stretch-init g c =
    let source = c.args.source.now in record {
      plain = c.requires.open.plain;
      same = record { heading = refl {a = source.heading}; bounds = refl {a = source.bounds} };
      keeps = c.requires.keeps;
      taken = λ text header. after-header header c.requires.none;
    }

pub read_stretch-end-requires-clause-open : goal.read_stretch-end-requires-clause-open
read_stretch-end-requires-clause-open g c =
    let was = c.loop-stretch.invariant in
    record { plain = was.plain; within = rw was.same.bounds was.keeps.within }

pub gather-requires : goal.gather-requires
gather-requires g c = rw c.bounds-bounds.ensures c.loop-stretch.invariant.keeps

pub returns-in_err-gather-clause-answer : goal.returns-in_err-gather-clause-answer
returns-in_err-gather-clause-answer g c =
    let was = c.loop-stretch.invariant in
    let reported = err_from_is_err_and c.from_residual.result c.from_residual.ensures.1 in
    let gathers = rw (c.deref.ensures.value, c.bounds-bounds.ensures) at c.in_err-gather.ensures in
    rw (reported.1, reported.2) (λ text header.
    stretch-fault was.same (was.taken text header) c.read_stretch-end.ensures.reads c.in_err-gather.field-0.0 gathers)

pub returns-in_err-gather-clause-told : goal.returns-in_err-gather-clause-told
returns-in_err-gather-clause-told g c =
    let reported = err_from_is_err_and c.from_residual.result c.from_residual.ensures.1 in
    rw (reported.1, reported.2) (λ is. absurd (c.in_err-gather.ensures.not_read is))

pub returns-in-Err-clause-answer : goal.returns-in-Err-clause-answer
returns-in-Err-clause-answer g c = λ text header.
    let was = c.loop-stretch.invariant in
    let gathers = rw (c.deref.ensures.value, c.bounds-bounds.ensures) at c.in_ok-gather.ensures in
    rw c.next-at.ensures
    (next-fault was.same (was.taken text header) c.read_stretch-end.ensures.reads gathers c.in-Err.cause c.in-Err.is)

pub returns-in-Err-clause-told : goal.returns-in-Err-clause-told
returns-in-Err-clause-told g c = read-stops c.in-Err.cause (rw c.in-Err.is at c.read_stretch-end.ensures.told)

pub returns-then-not-others-clause-answer : goal.returns-then-not-others-clause-answer
returns-then-not-others-clause-answer g c = λ text header.
    let was = c.loop-stretch.invariant in
    let gathers = rw (c.deref.ensures.value, c.bounds-bounds.ensures) at c.in_ok-gather.ensures in
    with-all (at-end was.same (was.taken text header) c.read_stretch-end.ensures.reads gathers
    (rw c.if-not-others.true at c.in-Ok.is))
    (c.finish.ensures.answer c.args.source.now.heading c.args.source.now.bounds (records_of text))

pub returns-then-not-others-clause-fits : goal.returns-then-not-others-clause-fits
returns-then-not-others-clause-fits g c =
    let keeps = rw c.bounds-bounds.ensures at c.in_ok-gather.ensures.keeps in
    IfOk-weaker c.finish.result _ _ (λ epochs fits. fits c.args.source.now.bounds keeps) c.finish.ensures.fits

pub returns-then-not-others-clause-few : goal.returns-then-not-others-clause-few
returns-then-not-others-clause-few g c =
    let keeps = rw c.bounds-bounds.ensures at c.in_ok-gather.ensures.keeps in
    IfOk-weaker c.finish.result _ _ (λ epochs few. few c.args.source.now.bounds keeps) c.finish.ensures.few

pub loop-stretch-smaller : goal.loop-stretch-smaller
loop-stretch-smaller g c =
    let some = rw (c.in-Ok.is, c.if-not-others.false) at c.read_stretch-end.ensures.some in
    let next = rw c.deref.ensures.value at c.in_ok-gather.ensures.next in
    omega (arith, some refl, next, c.loop-stretch.invariant.keeps.few)

pub loop-stretch-preserved : goal.loop-stretch-preserved
loop-stretch-preserved g c =
    let was = c.loop-stretch.invariant in
    let read = c.read_stretch-end.ensures.reads in
    let goes = rw c.if-not-others.false at c.in-Ok.is in
    let gathers = rw (c.deref.ensures.value, c.bounds-bounds.ensures) at c.in_ok-gather.ensures in
    record {
      plain = rw goes at read.plain;
      same = same-header was.same read.same;
      keeps = gathers.keeps;
      taken = λ text header. goes-on was.same (was.taken text header) read gathers goes;
    }
