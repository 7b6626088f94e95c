use Rattle.cn_texts.proofs.Common.{◌∙◌, sym}
use Rattle.cn_texts.specs.Writing.Replay.{answer_line}
use Rattle.cn_texts.proofs.WritingLemmas.Putting.{put-failed}
use Rattle.cn_texts.proofs.writing.replay.send_answer.Goals as goal

pub returns-then-has_failed-clause-puts : goal.returns-then-has_failed-clause-puts
returns-then-has_failed-clause-puts g c = put-failed (sym c.has_failed.ensures ∙ c.if-has_failed.true)

pub returns-in-Replied-clause-puts : goal.returns-in-Replied-clause-puts
unfolding answer_line
returns-in-Replied-clause-puts g c = rw (c.in-Enter.is, c.in-Replied.is) c.send_enter.ensures

pub returns-in-Replied-answer-clause-puts : goal.returns-in-Replied-answer-clause-puts
unfolding answer_line
returns-in-Replied-answer-clause-puts g c = rw (c.in-Step.is, c.in-Replied-answer.is) c.send_step.ensures

pub returns-in-Turn-clause-puts : goal.returns-in-Turn-clause-puts
returns-in-Turn-clause-puts g c = rw c.in-Turn.is c.send_turn.ensures
