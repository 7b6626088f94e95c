use Rattle.cn_texts.proofs.Common.{◌∙◌, inl, fields_of}
use Rattle.cn_texts.proofs.ReadingLemmas.RecordLists.{read-either}
use Rattle.cn_texts.proofs.reading.records.next_record.Goals as goal

pub returns-in-Ok-clause-plain : goal.returns-in-Ok-clause-plain
returns-in-Ok-clause-plain g c =
    let read = c.in-Ok.ensures.reads c.requires.untrimmed c.requires.ready in
    record {
      ready = inl (c.in-Ok.ensures.ready c.requires.untrimmed);
      untrimmed = read.3 ∙ c.requires.untrimmed;
      flexible = c.in-Ok.ensures.flexible ∙ c.requires.flexible;
      going = c.in-Ok.ensures.goes ∙ c.requires.going;
    }

pub returns-in-Ok-clause-reads : goal.returns-in-Ok-clause-reads
returns-in-Ok-clause-reads g c = λ text before read.
    read-either g.R.Read.remaining c.args.records.now c.read_byte_record.new.self text before (fields_of c.read_byte_record.new.row)
    c.in-Ok.found read
    (c.in-Ok.ensures.reads c.requires.untrimmed c.requires.ready)
