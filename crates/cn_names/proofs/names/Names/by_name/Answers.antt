use Rattle.cn_names.proofs.Common.{◌∙◌, sym, refl, ℕ, length, ap, length_permutation, grants_in}
use Rattle.std.proofs.lemmas.List.{length-map}
use Rattle.cn_names.proofs.Walking.{walking-from-any, none-walking, length-grants-in}
use Rattle.cn_names.proofs.names.Names.by_name.Goals as goal

pub returns-then-is_any_walking-clause-walking : goal.returns-then-is_any_walking-clause-walking
returns-then-is_any_walking-clause-walking c =
    let e = c.is_any_walking.ensures in
    (λ _. walking-from-any c.args.self.now e.unique (sym e.value ∙ c.if-is_any_walking.true), λ _. refl)

pub returns-in-Ok-clause-everyone : goal.returns-in-Ok-clause-everyone
returns-in-Ok-clause-everyone c =
    let e = c.is_any_walking.ensures in
    let l = c.in-Ok.ensures in
    ap length l.listed ∙ length-map l.grants (λ (grant : ℕ × ℕ). grant.1) ∙ length_permutation (grants_in c.args.self.now) l.grants l.all
    ∙ length-grants-in c.args.self.now (sym e.value ∙ c.if-is_any_walking.false)

pub returns-in-Ok-clause-walking : goal.returns-in-Ok-clause-walking
returns-in-Ok-clause-walking c =
    let none = sym c.is_any_walking.ensures.value ∙ c.if-is_any_walking.false in
    (λ said. absurd (cc), λ someone. absurd (none-walking c.args.self.now none someone.0 someone.1))

pub returns-in-Ok-clause-settled : goal.returns-in-Ok-clause-settled
returns-in-Ok-clause-settled c =
    none-walking c.args.self.now (sym c.is_any_walking.ensures.value ∙ c.if-is_any_walking.false)

pub returns-in-Err-clause-walking : goal.returns-in-Err-clause-walking
returns-in-Err-clause-walking c =
    let none = sym c.is_any_walking.ensures.value ∙ c.if-is_any_walking.false in
    (λ said. absurd (cc), λ someone. absurd (none-walking c.args.self.now none someone.0 someone.1))
