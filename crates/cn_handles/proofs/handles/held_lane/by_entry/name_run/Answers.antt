use Rattle.cn_handles.proofs.Common.{ℕ, List, [], ◌∷◌, arith, refl, slice_index, subst, sym, Grant, AreNamesBy}
use Rattle.cn_handles.proofs.InOrder.{one-named}
use Rattle.cn_handles.proofs.Listed.{together}
use Rattle.cn_handles.proofs.handles.held_lane.by_entry.name_run.Goals as goal

pub returns-in-Ok-clause-names : goal.returns-in-Ok-clause-names
returns-in-Ok-clause-names c same =
    let named = c.in-Ok.ensures.ok in
    let ids : List ℕ = c.args.ids.now in
    let grant : Grant = record { client = slice_index ids 0; exit = named.exit; visit = named.visit; name = c.in-Ok.name } in (
      grant ∷ [],
      named.grants,
      subst (λ (names : List ℕ). AreNamesBy (grant ∷ []) ids names)
          (sym (c.write_name.ensures (omega (arith, same, c.if-ids-eq1.true))))
          (one-named ids c.args.names.now grant c.if-ids-eq1.true same refl),
    )

pub returns-in-Ok-name_all-clause-walked : goal.returns-in-Ok-name_all-clause-walked
returns-in-Ok-name_all-clause-walked c =
    together c.args.lane.now c.name_all.new.lane c.args.ids.now c.args.entry c.requires.out c.requires.room c.in-Ok-name_all.ensures.ok
