use Rattle.cn_texts.proofs.Common.{◌∙◌, ◌≡◌, ℕ, List, None, Some, ap, arith, length, map, refl, with_items_is, length_permutation, has_number, numbers_of, Occurrence, Granted}
use Rattle.cn_texts.proofs.GrantLemmas.CheckedGrants.{all-fresh, client-twice, name-twice}
use Rattle.cn_texts.proofs.Each.{any-map}
use Rattle.cn_texts.proofs.GrantLemmas.Repeats.{numbers-occurrences, same-numbers}
use Rattle.std.proofs.Common.{Global, Vec}
use Rattle.std.specs.List.Sorted.{IsPermutation}
use Rattle.std.specs.Vec.{with_items}
use Rattle.cn_texts.proofs.grants.epochs.Granting.settle.Goals as goal

-- in another order there are as many
same-many : (v : Vec Occurrence Global) (old new : List Occurrence) → old ≡ v.items → length old ≡ v.len
    → IsPermutation old new → length (with_items v new).items ≡ length v.items
same-many v old new was long order =
    let same : length new ≡ length old = length_permutation old new order in
    ap length (with_items_is v new (same ∙ long)) ∙ same ∙ ap length was

pub returns-in-None-None-clause-fresh : goal.returns-in-None-None-clause-fresh
returns-in-None-None-clause-fresh c = λ earlier latest held.
    all-fresh c.args.self.now earlier latest held
    (rw c.in-None-None.is-0 at (c.first_repeat-client.ensures.first _ (c.as_mut_slice.ensures.value ∙ held.clients)))
    (rw c.in-None-None.is-1 at (c.first_repeat-name.ensures.first _ (c.as_mut_slice-2.ensures.value ∙ held.names)))

pub returns-in-None-None-clause-names : goal.returns-in-None-None-clause-names
returns-in-None-None-clause-names c = λ earlier latest held.
    let old = c.as_mut_slice-2.ensures.value ∙ held.names in
    let names : List ℕ = map (λ (x : Granted). x.name) latest in
    let as_many : length c.first_repeat-name.new.occurrences ≡ c.args.self.now.names.len =
    length_permutation _ _ c.first_repeat-name.ensures.order ∙ c.as_mut_slice-2.ensures.len in
    rw (with_items_is c.args.self.now.names c.first_repeat-name.new.occurrences as_many) (
      c.first_repeat-name.ensures.rising names old c.in-None-None.is-1,
      λ n. same-numbers c.as_mut_slice-2.result.now c.first_repeat-name.new.occurrences c.first_repeat-name.ensures.order n
          ∙ ap (λ (l : List Occurrence). has_number (numbers_of l) n) old
          ∙ ap (λ (l : List ℕ). has_number l n) (numbers-occurrences 0 names)
          ∙ any-map (λ (x : Granted). x.name) n latest,
    )

pub returns-in-None-Some-clause-twice : goal.returns-in-None-Some-clause-twice
returns-in-None-Some-clause-twice c = λ earlier latest held.
    rw c.from.ensures (name-twice c.args.self.now earlier latest held c.in-None-Some.name None
    (rw c.in-None-Some.is-1 at (c.first_repeat-name.ensures.first _ (c.as_mut_slice-2.ensures.value ∙ held.names)))
    (rw c.in-None-Some.is-0 at (c.first_repeat-client.ensures.first _ (c.as_mut_slice.ensures.value ∙ held.clients))) tt)

pub returns-in-Some-None-clause-twice : goal.returns-in-Some-None-clause-twice
returns-in-Some-None-clause-twice c = λ earlier latest held.
    rw c.from-in-Some-None.ensures (client-twice c.args.self.now earlier latest held c.in-Some-None.client None
    (rw c.in-Some-None.is-0 at (c.first_repeat-client.ensures.first _ (c.as_mut_slice.ensures.value ∙ held.clients)))
    (rw c.in-Some-None.is-1 at (c.first_repeat-name.ensures.first _ (c.as_mut_slice-2.ensures.value ∙ held.names))) tt)

pub returns-in-Some-Some-clause-twice : goal.returns-in-Some-Some-clause-twice
returns-in-Some-Some-clause-twice c = λ earlier latest held.
    rw c.from-in-Some-Some.ensures (name-twice c.args.self.now earlier latest held c.in-Some-Some.name (Some c.in-Some-Some.client)
    (rw c.in-Some-Some.is-1 at (c.first_repeat-name.ensures.first _ (c.as_mut_slice-2.ensures.value ∙ held.names)))
    (rw c.in-Some-Some.is-0 at (c.first_repeat-client.ensures.first _ (c.as_mut_slice.ensures.value ∙ held.clients)))
    (omega (arith, c.if-name-client.true)))

pub returns-in-Some-Some-2-clause-twice : goal.returns-in-Some-Some-2-clause-twice
returns-in-Some-Some-2-clause-twice c = λ earlier latest held.
    rw c.from-in-Some-Some-2.ensures (client-twice c.args.self.now earlier latest held c.in-Some-Some.client (Some c.in-Some-Some.name)
    (rw c.in-Some-Some.is-0 at (c.first_repeat-client.ensures.first _ (c.as_mut_slice.ensures.value ∙ held.clients)))
    (rw c.in-Some-Some.is-1 at (c.first_repeat-name.ensures.first _ (c.as_mut_slice-2.ensures.value ∙ held.names)))
    (omega (arith, c.if-name-client.false)))

pub returns-in-None-None-clause-same : goal.returns-in-None-None-clause-same
returns-in-None-None-clause-same c =
    let clients = c.as_mut_slice.ensures in
    let names = c.as_mut_slice-2.ensures in
    let some = same-many c.args.self.now.clients _ _ clients.value clients.len c.first_repeat-client.ensures.order in
    let others = same-many c.args.self.now.names _ _ names.value names.len c.first_repeat-name.ensures.order in
    (refl, refl, refl, refl, some, others)

pub returns-in-None-Some-clause-same : goal.returns-in-None-Some-clause-same
returns-in-None-Some-clause-same c =
    let clients = c.as_mut_slice.ensures in
    let names = c.as_mut_slice-2.ensures in
    let some = same-many c.args.self.now.clients _ _ clients.value clients.len c.first_repeat-client.ensures.order in
    let others = same-many c.args.self.now.names _ _ names.value names.len c.first_repeat-name.ensures.order in
    (refl, refl, refl, refl, some, others)

pub returns-in-Some-None-clause-same : goal.returns-in-Some-None-clause-same
returns-in-Some-None-clause-same c =
    let clients = c.as_mut_slice.ensures in
    let names = c.as_mut_slice-2.ensures in
    let some = same-many c.args.self.now.clients _ _ clients.value clients.len c.first_repeat-client.ensures.order in
    let others = same-many c.args.self.now.names _ _ names.value names.len c.first_repeat-name.ensures.order in
    (refl, refl, refl, refl, some, others)

pub returns-in-Some-Some-clause-same : goal.returns-in-Some-Some-clause-same
returns-in-Some-Some-clause-same c =
    let clients = c.as_mut_slice.ensures in
    let names = c.as_mut_slice-2.ensures in
    let some = same-many c.args.self.now.clients _ _ clients.value clients.len c.first_repeat-client.ensures.order in
    let others = same-many c.args.self.now.names _ _ names.value names.len c.first_repeat-name.ensures.order in
    (refl, refl, refl, refl, some, others)

pub returns-in-Some-Some-2-clause-same : goal.returns-in-Some-Some-2-clause-same
returns-in-Some-Some-2-clause-same c =
    let clients = c.as_mut_slice.ensures in
    let names = c.as_mut_slice-2.ensures in
    let some = same-many c.args.self.now.clients _ _ clients.value clients.len c.first_repeat-client.ensures.order in
    let others = same-many c.args.self.now.names _ _ names.value names.len c.first_repeat-name.ensures.order in
    (refl, refl, refl, refl, some, others)
