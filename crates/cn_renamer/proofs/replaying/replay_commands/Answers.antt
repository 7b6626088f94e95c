use Rattle.cn_renamer.proofs.Common.{written-map, written_by, until_output, IsReplayOfCommands}
use Rattle.cn_renamer.proofs.replaying.replay_commands.Goals as goal

pub returns : goal.returns
returns g c =
    written-map g.W.Write.contents _ (IsReplayOfCommands c.args.net.now c.args.commands.now)
    (written_by until_output c.write_replayed.result) c.args.writer.now c.write_replayed.new.writer
    (λ text is. record { network = c.in_ok-network.network; built = c.in_ok-network.ensures.ok; replayed = is }) c.write_replayed.ensures
