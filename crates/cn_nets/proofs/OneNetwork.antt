-- A kind and a width have one network.
use Rattle.std.proofs.Common.{◌≡◌, sym, ◌∙◌, subst}
use Rattle.cn_wiring.specs.Made.{IsTableOf}
use Rattle.cn_tables.specs.Network.{Network}
use Rattle.cn_spec.proofs.CallerLemmas.{same-level}
use Rattle.cn_wiring.proofs.CallerLemmas.{same_table}
use Rattle.cn_nets.specs.Net.{Description, IsNetworkOf, levels_of, plan_of_kind}

pub one-network : (net : Description) (network other : Network) → IsNetworkOf net network → IsNetworkOf net other → network ≡ other
one-network net network other one another =
    let level = same-level net.width one.0 another.0 one.1 another.1 in
    let depth = subst (λ n. other.depth ≡ levels_of net.kind n) level another.2.depth in
    let order = subst (λ n. IsTableOf other.table (plan_of_kind net.kind n)) level another.3 in
    let table = same_table one.2.counts.formed another.2.counts.formed one.3 order in
    λ i. record { table = table i; kind = (one.2.kind ∙ sym another.2.kind) i; depth = (one.2.depth ∙ sym depth) i }
