use Rattle.cn_floor.proofs.Common.{length, ap, sym, ◌∙◌, subst, arith, AreLetBy, FloorValue, Network, Stands, end_of}
use Rattle.cn_floor.proofs.floor.Floor.let_by.Goals as goal

pub returns-clause-together : goal.returns-clause-together
returns-clause-together c = record {
  formed = c.start_laws.ensures.network.formed;
  low = c.requires.wire;
  ends = ap (λ (n : Network). end_of n.table c.args.wire) (sym c.requires.network) ∙ c.end-end.ensures.at;
  stands = subst (λ (n : Network). Stands n.table c.end-end.result) c.requires.network c.end-end.ensures.there;
  once = c.requires.once;
  wires = c.post_laws.ensures.wires ∙ ap (λ (h : FloorValue). length h.start.network.table.ends) c.requires.own;
  of = c.post_laws.ensures.start ∙ ap (λ (h : FloorValue). h.start) c.requires.own;
  some = omega (arith, c.requires.tokens);
  above = c.requires.above;
  went = c.sweep-number.ensures.went.0;
  by = subst (λ (h : FloorValue). AreLetBy h.start c.args.post.now.view c.sweep-number.new.post.view c.args.wire c.end-end.result
      c.sweep-number.result) c.self.view_is c.sweep-number.ensures.went.1;
}
