use Rattle.cn_floor.proofs.Common.{[], ◌∷◌, All, sym, ap, ◌∙◌, subst, slots_items}
use Rattle.std.proofs.lemmas.List.Elements.{All-cons, All-nil}
use Rattle.cn_floor.specs.InsideReceipts.{floors_in}
use Rattle.cn_floor.specs.Receipts.{WasClosed, floor_by}
use Rattle.cn_floor.proofs.floor.receipts.Receipts.of_one.Goals as goal

pub invariant_of-result : goal.invariant_of-result
invariant_of-result c =
    let same = ap floors_in c.of-4.ensures
    ∙ (λ i. floor_by (c.of.ensures i).value (slots_items (c.of-2.ensures i).words) (c.of-3.ensures i) ∷ []) in
    subst (All WasClosed) (sym same) (All-cons WasClosed _ [] c.requires (All-nil WasClosed))
