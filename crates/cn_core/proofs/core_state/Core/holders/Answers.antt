use Rattle.cn_core.proofs.Common.{refl, ListsByName, state_of, ListsStateHolders}
use Rattle.std.proofs.lemmas.Result.{IfOk-weaker}
use Rattle.cn_core.proofs.Holders.{holders-listed}
use Rattle.cn_core.proofs.core_state.Core.holders.Goals as goal

pub returns : goal.returns
returns c =
    let clients = c.self.inside.clients in
    rw (← c.self.view_is)
    (IfOk-weaker c.by_name.result (λ v. ListsByName clients.names v.items) (λ v. ListsStateHolders (state_of c.self.inside) v.items)
    (λ v listed. holders-listed (state_of c.self.inside) clients v.items refl c.self.invariant.core (rw (← c.self.view_is) at c.requires)
    listed) c.by_name.ensures)
