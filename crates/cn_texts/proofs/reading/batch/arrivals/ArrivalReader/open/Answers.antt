use Rattle.std.proofs.lemmas.Option.{IfSome_then}
use Rattle.cn_texts.proofs.reading.batch.arrivals.ArrivalReader.open.Goals as goal

pub returns-in-Ok-clause-header : goal.returns-in-Ok-clause-header
returns-in-Ok-clause-header g c =
    IfSome_then (g.R.Read.remaining c.args.reader) c.in_ok-records.ensures.opened (λ text read.
    let (fields, now, heads) = rw c.deref_mut.ensures.value at c.in-Ok.ensures.ok text read in
    record { fields = fields; read = now; heads = heads })
