use Rattle.std.proofs.lemmas.Option.{IfSome_then}
use Rattle.cn_texts.proofs.reading.schedule.read_schedule.Goals as goal

pub returns : goal.returns
returns g c =
    IfSome_then (g.R.Read.remaining c.args.reader) (rw c.new.ensures at c.in_ok-records.ensures.opened)
    (rw c.deref_mut.ensures.value at c.take_commands.ensures.answer)
