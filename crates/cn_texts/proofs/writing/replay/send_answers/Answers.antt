use Rattle.cn_texts.proofs.Common.{◌≡◌, ◌∙◌, ap, arith, get_or, sym, zip, All-get_or, Answer, Command, IsShowable, answer_line}
use Rattle.std.proofs.lemmas.Slice.Zip.{get_or-zip, length-zip}
use Rattle.cn_ledger.specs.declared.command.Command.TheVariants.{Enter}
use Rattle.cn_texts.proofs.WritingLemmas.Putting.{put-last, put-next, put-none}
use Rattle.cn_texts.proofs.writing.replay.send_answers.Goals as goal

pub loop-position-init : goal.loop-position-init
loop-position-init g c = put-none

pub send_answer-requires-clause-showable : goal.send_answer-requires-clause-showable
send_answer-requires-clause-showable g c =
    let answer = c.index-answers-position in
    rw answer.is (All-get_or (IsShowable c.args.width) c.args.answers.now c.loop-position.position answer.result (omega arith)
    c.requires.showable)

pub loop-position-preserved : goal.loop-position-preserved
loop-position-preserved g c =
    let commands = c.args.commands.now in
    let answers = c.args.answers.now in
    let i = c.loop-position.position in
    let answer = c.index-answers-position in
    let command : Command = get_or commands i (Enter 0 0) in
    let long = length-zip commands answers in
    let at : (command, answer.result) ≡ get_or (zip commands answers) i (Enter 0 0, answer.result) =
    ap (λ (a : Answer). (command, a)) answer.is
    ∙ sym (get_or-zip commands answers i (Enter 0 0, answer.result) (omega arith) (omega arith)) in
    put-next (λ (command, answer). answer_line c.args.width command answer) (zip commands answers) i (Enter 0 0, answer.result)
    (command, answer.result) (omega (arith, long)) at c.loop-position.invariant c.send_answer.ensures.puts

pub returns : goal.returns
returns g c =
    put-last (λ (command, answer). answer_line c.args.width command answer) (zip c.args.commands.now c.args.answers.now)
    c.loop-position.position (omega (arith, length-zip c.args.commands.now c.args.answers.now)) c.loop-position.invariant
