use Rattle.cn_handles.proofs.Common.{◌+◌, inl, inr, List, get_or, set, ap, ◌∙◌, arith, length-set, cases_eq, get_or_default, get_or-set_other, get_or-set_same, copy_of}
use Rattle.cn_floor.specs.declared.view.Grant as floor
use Rattle.cn_handles.specs.declared.handles.grants.Grant.{Grant}
use Rattle.cn_handles.proofs.handles.grants.copy_from.Goals as goal

abbrev none : floor.Grant
none = record { client = 0; exit = 0; visit = 0; name = 0 }

pub loop-i-preserved : goal.loop-i-preserved
loop-i-preserved c =
    let i = c.loop-i.i in
    let from : List floor.Grant = c.args.grants.now in
    let to : List Grant = c.loop-i.copies in
    let one : Grant = c.copy_of.result in (
      length-set to i one ∙ c.loop-i.invariant.0,
      λ k d e l. elim (cases_eq k i) [
        | inl same ↦
            ap (λ n. get_or (set to i one) n d) same
            ∙ get_or-set_same to i one d (omega (arith, c.loop-i-test.true, c.loop-i.invariant.0, c.loop-i.auto.copies))
            ∙ c.copy_of.ensures ∙ ap copy_of (get_or_default from (c.args.first + i) none e
            (omega (arith, c.loop-i-test.true, c.requires, c.loop-i.invariant.0, c.loop-i.auto.i-end)))
            ∙ ap (λ n. copy_of (get_or from (c.args.first + n) e)) (omega (arith, same))
        | inr other ↦ get_or-set_other to i k one d other ∙ c.loop-i.invariant.1 k d e (omega arith)
      ],
    )
