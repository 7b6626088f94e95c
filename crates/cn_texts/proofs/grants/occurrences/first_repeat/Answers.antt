use Rattle.cn_texts.proofs.Common.{sym, arith}
use Rattle.cn_texts.proofs.GrantLemmas.Repeats.{none-rising, repeat-first, seen-again, seen-all, seen-first, seen-other}
use Rattle.cn_texts.proofs.grants.occurrences.first_repeat.Goals as goal
use Rattle.cn_texts.proofs.grants.occurrences.first_repeat.Goals.{then-number-occurrences, else-number-occurrences}

pub loop-at-init : goal.loop-at-init
loop-at-init c = record { seen = seen-first c.sort_unstable.new.self }

pub loop-at-preserved : goal.loop-at-preserved
loop-at-preserved c = record {
  seen = elim c.if-number-occurrences.branch [
    | then-number-occurrences w ↦
        rw w.first-is (seen-again c.loop-at.first c.loop-at.invariant.seen c.loop-at-test.true
        (omega (arith, c.loop-at.auto.at), sym w.if-number-occurrences.true) w.earlier.ensures.low w.earlier.ensures.lower
        w.earlier.ensures.one)
    | else-number-occurrences w ↦ rw w.first-is (seen-other c.loop-at.invariant.seen
        (λ e. w.if-number-occurrences.false (sym e)))
  ];
}

pub returns-clause-first : goal.returns-clause-first
returns-clause-first c = λ numbers is.
    repeat-first numbers c.sort_unstable.new.self (rw is at c.sort_unstable.ensures.permutation) c.sort_unstable.ensures.sorted
    c.loop-at.first (seen-all c.loop-at.invariant.seen (omega (arith, c.loop-at-test.false)))

pub returns-clause-rising : goal.returns-clause-rising
returns-clause-rising c = λ numbers is none.
    none-rising numbers c.sort_unstable.new.self (rw is at c.sort_unstable.ensures.permutation) c.sort_unstable.ensures.sorted
    (rw none at (seen-all c.loop-at.invariant.seen (omega (arith, c.loop-at-test.false))))
