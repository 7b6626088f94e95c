use Rattle.cn_floor.proofs.Common.{◌≡◌, ◌+◌, ◌-◌, arith, ap, ◌∙◌, take, drop, Network, Table, QuietValue}
use Rattle.cn_floor.proofs.AtClose.Rises.{passes-part}
use Rattle.cn_floor.proofs.floor.quiet.Quiet.passes.Goals as goal

pub returns : goal.returns
returns c =
    let t : Table = c.args.self.now.start.network.table in
    let network : c.network-network.result.now ≡ c.args.self.now.start.network =
    c.network-network.ensures ∙ c.self.invariant.network ∙ ap (λ (q : QuietValue). q.start.network) c.self.view_is in
    let entries : c.entries.result ≡ t.entries = c.entries.ensures.value ∙ ap (λ (n : Network). n.table.entries) network in
    let balancers : c.balancers.result ≡ t.balancers = c.balancers.ensures.value ∙ ap (λ (n : Network). n.table.balancers) network in
    let first : 1 + c.entries.result ≡ 1 + t.entries = omega (arith, entries) in
    let count : 1 + c.entries.result + c.balancers.result - (1 + c.entries.result) ≡ t.balancers = omega (arith, balancers) in
    (λ x. take (count x) (drop (first x) c.risen.result.now))
    ∙ passes-part c.args.self.now.start c.args.self.now.words c.risen.result.now c.risen.ensures
