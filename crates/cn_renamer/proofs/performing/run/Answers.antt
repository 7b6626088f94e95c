use Rattle.cn_renamer.proofs.Common.{Ok, Err, map, string_bytes, rules}
use Rattle.cn_renamer.proofs.Asked.{is-built}
use Rattle.cn_renamer.proofs.performing.run.Goals as goal

pub returns-in-Ok : goal.returns-in-Ok
returns-in-Ok g c = record {
  asked = Ok c.in-Ok.job;
  read = c.in-Ok.ensures.ok;
  written = c.perform.ensures.written;
  ends = c.perform.ensures.ends;
}

pub returns-in-Err : goal.returns-in-Err
returns-in-Err g c =
    let known = g.I.Read.remaining c.args.reader in
    record {
      asked = Err c.in-Err.fault;
      read = c.in-Err.ensures.err;
      written = c.end_without_job.ensures.written known;
      ends = c.end_without_job.ensures.ends known;
    }

pub perform-requires : goal.perform-requires
perform-requires g c = (search rules, is-built (map string_bytes c.args.words.items) c.in-Ok.job c.in-Ok.ensures.ok)
