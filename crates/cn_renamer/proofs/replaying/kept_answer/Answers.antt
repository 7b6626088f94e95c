use Rattle.cn_renamer.proofs.Common.{◌≡◌, ◌∙◌, rules, sym, HadMemory}
use Rattle.cn_renamer.proofs.Kept.{is-kept}
use Rattle.cn_renamer.proofs.replaying.kept_answer.Goals as goal

pub returns-clause-answered : goal.returns-clause-answered
returns-clause-answered c =
    let old = c.args.epochs.now in
    let none : old.core.base ≡ 0 = sym c.base.ensures.value ∙ c.base.ensures.cleared c.requires.clears in
    let memory : HadMemory c.answer-answer.result = search rules in (
      c.answer-answer.result,
      record {
        by_history = c.answer-answer.ensures.history;
        memory = memory;
        is_kept = is-kept old c.answer-answer.new.self c.args.command c.answer-answer.result c.without_counts.result none
            c.state_laws.ensures.few c.answer-answer.ensures.event c.without_counts.ensures;
      },
    )
