use Rattle.cn_renamer.proofs.Common.{ap, err_from_is_err_and, written-map, First, Epochs, IsReplayText}
use Rattle.cn_renamer.proofs.Kept.{all-showable, replay-is}
use Rattle.cn_renamer.proofs.replaying.write_replayed.Goals as goal

pub write_replay-requires-clause-showable : goal.write_replay-requires-clause-showable
write_replay-requires-clause-showable g c =
    let (answers, given) = c.in_ok-kept.ensures.answered in
    let network = ap (λ (e : Epochs). e.core.network) c.requires.begun in
    let width = c.args.network.now.table.width in
    rw c.deref.ensures.value (all-showable width answers c.in_ok-kept.kept.items (rw network at given.are_kept))

pub returns-in_err-write_replay : goal.returns-in_err-write_replay
returns-in_err-write_replay g c =
    let fault = err_from_is_err_and c.from_residual-in_err-write_replay.result c.from_residual-in_err-write_replay.ensures.1 in
    let (answers, given) = c.in_ok-kept.ensures.answered in
    rw (fault.1, fault.2) (
    written-map g.W.Write.contents _ (IsReplayText c.args.network.now c.args.commands.now) (First c.in_err-write_replay.field-0.0.written)
    c.args.writer.now c.write_replay.new.writer
    (replay-is c.args.network.now c.args.epochs.now c.kept_answers.new.epochs c.args.commands.now answers c.in_ok-kept.kept.items
    c.number.result c.entered.result c.inside.result c.requires.begun c.requires.agrees given
    c.in_ok-kept.ensures.network c.number.ensures.by_turns c.entered.ensures.by_history c.inside.ensures.by_history)
    (rw c.deref.ensures.value at c.in_err-write_replay.ensures))

pub returns : goal.returns
returns g c =
    let (answers, given) = c.in_ok-kept.ensures.answered in
    let (text, is, grows) = rw c.deref.ensures.value at c.in_ok-write_replay.ensures in (
      text,
      replay-is c.args.network.now c.args.epochs.now c.kept_answers.new.epochs c.args.commands.now answers c.in_ok-kept.kept.items
          c.number.result c.entered.result c.inside.result c.requires.begun c.requires.agrees given
          c.in_ok-kept.ensures.network c.number.ensures.by_turns c.entered.ensures.by_history c.inside.ensures.by_history text is,
      grows,
    )
