use Rattle.cn_texts.specs.Writing.Replay.{answer_line, not_quiet_line}
use Rattle.cn_texts.proofs.writing.replay.send_turn.Goals as goal

pub returns-in-Turned : goal.returns-in-Turned
unfolding answer_line
returns-in-Turned g c = rw c.in-Turned.is c.send_record.ensures

pub returns-in-NotQuiet : goal.returns-in-NotQuiet
unfolding answer_line not_quiet_line
returns-in-NotQuiet g c = rw (c.in-TurnRefused.is, c.in-NotQuiet.is) c.send_numbered.ensures
