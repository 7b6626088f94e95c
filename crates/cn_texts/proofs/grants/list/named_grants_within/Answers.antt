use Rattle.cn_texts.proofs.Common.{records_of, IsNamedList, bounds_of}
use Rattle.cn_texts.proofs.GrantLemmas.TightFacts.{exact}
use Rattle.std.proofs.lemmas.Option.{IfSome_then}
use Rattle.cn_texts.proofs.grants.list.named_grants_within.Goals as goal

pub returns-clause-answer : goal.returns-clause-answer
returns-clause-answer g c =
    IfSome_then (g.R.Read.remaining c.args.reader) (rw c.new.ensures at c.in_ok-records.ensures.opened)
    (rw (c.deref_mut.ensures.value, c.of-bounds.ensures.bounds) at c.take_grants.ensures.answer)

pub returns-clause-exact : goal.returns-clause-exact
returns-clause-exact g c =
    IfSome_then (g.R.Read.remaining c.args.reader) (rw c.new.ensures at c.in_ok-records.ensures.opened)
    (λ text read. exact (λ epochs. IsNamedList (bounds_of c.args.large 0).records (records_of text) epochs.items)
    (bounds_of c.args.large 0).records (records_of text) c.take_grants.result
    (rw (c.deref_mut.ensures.value, c.of-bounds.ensures.bounds) at c.take_grants.ensures.answer text read))
