use Rattle.cn_names.proofs.Common.{[], ◌∷◌, Bool, List, cases_Bool, lookup, ◌≡◌, nat_eq, None, Some, ◌∙◌, arith, get, insert_entry, Walking, Bool, List, lookup}
use Rattle.std.proofs.lemmas.Grind.{common_steps}
use Rattle.indexmap.proofs.CallerLemmas.{insert_entry-new}
use Rattle.cn_names.proofs.names.Names.admit.Goals as goal
use Rattle.cn_names.proofs.names.Names.admit.Goals.{in-Ok-Vacant, in-Ok-Occupied, in-Err}

-- a key that takes the value that it has
insert-entry-same : {K V : Type 0} (eq : K → K → Bool) (es : List (K × V)) (k : K) (v : V) → lookup (eq k) es ≡ Some v
    → insert_entry eq es k v ≡ es
insert-entry-same eq [] k v found = cc
insert-entry-same eq ((j, w) ∷ es) k v found = grind (arith, cases_Bool (eq k j), insert-entry-same eq es k v)

pub invariant_of-self : goal.invariant_of-self
invariant_of-self c =
    elim c.match-entry.branch [
      | in-Ok-Vacant w ↦ grind (arith, common_steps)
      | in-Ok-Occupied w ↦ grind (arith, common_steps)
      | in-Err w ↦ grind (arith, common_steps)
    ]

pub returns-clause-ok : goal.returns-clause-ok
returns-clause-ok c =
    let client = c.args.client in
    let old = c.self.inside.map in
    elim c.match-entry.branch [
      | in-Ok-Vacant w ↦
          let absent : get nat_eq old client ≡ None = grind (arith, common_steps) in
          let written : c.match-entry.self-inside.map.entries ≡ insert_entry nat_eq old.entries client (Walking c.args.token) =
          grind (arith, common_steps) in
          rw (w.result-is, ← c.self.view_is) (written ∙ insert_entry-new nat_eq old client (Walking c.args.token) absent)
      | in-Ok-Occupied w ↦ grind (arith, common_steps)
      | in-Err w ↦ grind (arith, common_steps)
    ]

pub returns-clause-err : goal.returns-clause-err
returns-clause-err c =
    let client = c.args.client in
    let old = c.self.inside.map in
    elim c.match-entry.branch [
      | in-Ok-Vacant w ↦ grind (arith, common_steps)
      | in-Ok-Occupied w ↦
          let same = w.into_mut.result.now in
          let found : get nat_eq old client ≡ Some same = grind (arith, common_steps) in
          let written : c.match-entry.self-inside.map.entries ≡ insert_entry nat_eq old.entries client same = grind (arith, common_steps) in
          rw (w.result-is, ← c.self.view_is) (written ∙ insert-entry-same nat_eq old.entries client same found)
      | in-Err w ↦ grind (arith, common_steps)
    ]
