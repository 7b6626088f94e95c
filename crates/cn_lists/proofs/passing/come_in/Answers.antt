use Rattle.cn_lists.proofs.Common.{ℕ, ◌<◌, List, length, arith, sym, ap, subst, FloorValue, View, ComeTogether, CameIn, ◌+◌}
use Rattle.cn_lists.proofs.CameIn.{came-on, none-came}
use Rattle.cn_lists.proofs.passing.come_in.Goals as goal

pub returns-clause-came : goal.returns-clause-came
returns-clause-came g c =
    let v : View = c.args.post.now.view in
    let clients : List ℕ = g.P.Party.clients_of c.args.notes.now in
    let step = subst (λ (xs : List ℕ). ComeTogether c.args.floor.now.start xs c.args.entry v c.enter_list.new.post.view)
    c.clients-clients.ensures c.enter_list.ensures.step in
    let inside : c.args.entry < length v.tokens =
    omega (
      arith,
      c.post_laws.ensures.wires,
      ap (λ (h : FloorValue). length h.start.network.table.ends) c.requires.own,
      c.start_laws.ensures.network.formed.wires,
      c.requires.entry,
    ) in
    subst (λ (w : View). CameIn v w clients c.args.entry (length clients)) (sym step.0)
    (came-on v v clients c.args.entry (v.steps + 1) 0 (length clients) (length clients)
    (none-came v clients c.args.entry (v.steps + 1) c.requires.out) inside (omega arith) c.requires.quota (omega arith))
