use Rattle.cn_floor.proofs.Common.{All, sym, ap, subst, All-append}
use Rattle.cn_floor.specs.InsideReceipts.{floors_in}
use Rattle.cn_floor.specs.Receipts.{WasClosed}
use Rattle.cn_floor.proofs.floor.receipts.Receipts.append.Goals as goal

pub invariant_of-result : goal.invariant_of-result
invariant_of-result c =
    subst (All WasClosed) (sym (ap floors_in c.of.ensures))
    (search (All-append WasClosed, c.self.invariant, c.others.invariant))
