use Rattle.cn_texts.proofs.Common.{◌∙◌, ap, reader_config, reader_state, source_of}
use Rattle.cn_texts.proofs.ReadingLemmas.RecordLists.{opened}
use Rattle.cn_texts.proofs.reading.records.open_records.Goals as goal

pub returns-in-Ok-clause-opened : goal.returns-in-Ok-clause-opened
returns-in-Ok-clause-opened g c =
    let made = c.from_reader.ensures in
    let config = rw c.flexible.ensures at made.config in
    let boxed = c.deref_mut.ensures.value ∙ c.in_ok-records.ensures.ok in
    let same = c.in-Ok.ensures.same in
    opened g.R.Read.remaining c.set_byte_headers.new.self (g.R.Read.remaining c.args.reader)
    (ap reader_config same ∙ ap reader_config boxed ∙ config ∙ c.new-builder.ensures.config)
    (ap reader_state same ∙ ap reader_state boxed ∙ made.state)
    (ap (source_of g.R.Read.remaining) same ∙ ap (source_of g.R.Read.remaining) boxed ∙ made.source)
