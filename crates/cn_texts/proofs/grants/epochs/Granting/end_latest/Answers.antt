use Rattle.cn_texts.proofs.Common.{◌∙◌, arith, sym, Granted}
use Rattle.cn_texts.proofs.GrantLemmas.CheckedGrants.{as-many, gap-none, gap-some, is-none}
use Rattle.cn_texts.proofs.grants.epochs.Granting.end_latest.Goals as goal

pub returns-in-Some-clause-gap : goal.returns-in-Some-clause-gap
returns-in-Some-clause-gap c = λ earlier latest held.
    let same = c.in_ok-settle.ensures.same in
    let many = as-many (λ (x : Granted). x.name) latest c.args.self.now.names.items held.names in
    let none = sym same.1 ∙ is-none (sym c.is_some.ensures ∙ c.if-is_some.false) in
    let (rising, names) = c.in_ok-settle.ensures.names earlier latest held in
    let (inside, lacks, least) = (rw c.as_slice.ensures.value at c.in-Some.ensures) rising in
    rw same.2 (gap-some c.args.self.now earlier latest held none c.in-Some.name
    (omega (arith, inside, same.5, many)) (sym (names _) ∙ lacks) (λ n h. sym (names n) ∙ least n h))

pub returns-in_ok-push-clause-gap : goal.returns-in_ok-push-clause-gap
returns-in_ok-push-clause-gap c = λ earlier latest held.
    let same = c.in_ok-settle.ensures.same in
    let many = as-many (λ (x : Granted). x.name) latest c.args.self.now.names.items held.names in
    let new = is-none (sym c.is_some.ensures ∙ c.if-is_some.false) in
    let (rising, names) = c.in_ok-settle.ensures.names earlier latest held in
    let full = (rw c.as_slice.ensures.value at c.in_default.ensures) rising in
    rw new (gap-none c.args.self.now earlier latest held (sym same.1 ∙ new)
    (λ n h. sym (names n) ∙ full n (omega (arith, h, same.5, many))))

pub returns-else-not-is_empty-clause-gap : goal.returns-else-not-is_empty-clause-gap
returns-else-not-is_empty-clause-gap c = λ earlier latest held.
    let same = c.in_ok-settle.ensures.same in
    let many = as-many (λ (x : Granted). x.name) latest c.args.self.now.names.items held.names in
    let new = is-none (sym c.is_some.ensures ∙ c.if-is_some.false) in
    let (rising, names) = c.in_ok-settle.ensures.names earlier latest held in
    let full = (rw c.as_slice.ensures.value at c.in_default.ensures) rising in
    rw new (gap-none c.args.self.now earlier latest held (sym same.1 ∙ new)
    (λ n h. sym (names n) ∙ full n (omega (arith, h, same.5, many))))
