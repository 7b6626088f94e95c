use Rattle.cn_walk.proofs.Common.{rules, ◌<◌, get_or, get_or_default, take_all, All-more, Client}
use Rattle.cn_walk.proofs.running.may_run.Goals as goal

pub loop-position-preserved : goal.loop-position-preserved
loop-position-preserved c =
    let d : Client = record { id = 0; entry = 0 } in
    let one : (get_or c.args.clients.now c.loop-position.position d).entry < c.from-entries.result = search (rules, get_or_default) in
    All-more (λ (k : Client). k.entry < c.from-entries.result) c.args.clients.now c.loop-position.position d c.loop-position-test.true
    c.loop-position.invariant one

pub returns-clause-allowed : goal.returns-clause-allowed
returns-clause-allowed c =
    let whole = take_all c.loop-position.position c.args.clients.now (search rules) in
    record {
      workers_fit = search rules;
      hand_fits = search rules;
      few = search rules;
      by_entries = rw (whole, c.from-entries.ensures, c.entries.ensures.value) at c.loop-position.invariant;
    }
