use Rattle.cn_texts.proofs.Common.{arith, ◌++◌, sym, take}
use Rattle.cn_texts.proofs.ReadingLemmas.Stretches.{all-gathered, gathered-next, gathering-fault, none-gathered-of}
use Rattle.cn_texts.proofs.reading.batch.gathering.Gathering.gather.Goals as goal

pub loop-arrival-init : goal.loop-arrival-init
loop-arrival-init c = record {
  keeps = c.requires;
  next = omega arith;
  taken = λ heading before records came taken gathered spelled. none-gathered-of taken gathered;
}

pub returns-in-Err : goal.returns-in-Err
returns-in-Err c = record {
  keeps = tt;
  next = tt;
  at = sym c.in-Err.ensures.stays;
  not_read = c.in-Err.ensures.not_read;
  answer = λ heading before records later came taken gathered spelled.
      let at = c.loop-arrival.arrival-index in
      let to = c.loop-arrival.invariant.taken heading before records came taken gathered spelled in
      gathering-fault at to c.loop-arrival-test.true spelled _ later c.in-Err.cause
      (c.in-Err.ensures.err (came ++ take at c.args.arrivals.now) to.gathered);
}

pub loop-arrival-preserved : goal.loop-arrival-preserved
loop-arrival-preserved c = record {
  keeps = c.in_default.ensures.keeps;
  next = omega (arith, c.in_default.ensures.next, c.loop-arrival.invariant.next);
  taken = λ heading before records came taken gathered spelled.
      let at = c.loop-arrival.arrival-index in
      let to = c.loop-arrival.invariant.taken heading before records came taken gathered spelled in
      let (none, more) = c.in_default.ensures.ok (came ++ take at c.args.arrivals.now) to.gathered in
      gathered-next at to c.loop-arrival-test.true spelled _ none more;
}

pub returns : goal.returns
returns c = record {
  keeps = c.loop-arrival.invariant.keeps;
  next = omega (arith, c.loop-arrival.invariant.next, c.loop-arrival-test.false);
  at = tt;
  not_read = tt;
  answer = λ heading before records later came taken gathered spelled.
      all-gathered spelled c.loop-arrival-test.false
      (c.loop-arrival.invariant.taken heading before records came taken gathered spelled);
}
