use Rattle.cn_wiring.proofs.Common.{rules, ◌≡◌, replicate, None}
use Rattle.cn_wiring.proofs.Entries.{loose-entries, level-entries}
use Rattle.cn_wiring.proofs.draft.Draft.new.Goals as goal

pub returns-clause-loose : goal.returns-clause-loose
returns-clause-loose c =
    let items : c.in_ok-vec.field-0.items ≡ replicate c.args.entries None = search rules in
    rw items (loose-entries c.args.entries)

pub returns-clause-level : goal.returns-clause-level
returns-clause-level c =
    let items : c.in_ok-vec.field-0.items ≡ replicate c.args.entries None = search rules in
    rw items (λ w _. level-entries c.args.entries w)
