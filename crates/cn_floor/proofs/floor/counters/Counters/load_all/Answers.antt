use Rattle.cn_floor.proofs.Common.{◌≡◌, ◌+◌, ◌-◌, sym, ◌∙◌, subst, arith, FloorValue, IsStart, View}
use Rattle.cn_floor.proofs.InStates.Loading.{Loaded, loaded-next}
use Rattle.cn_floor.proofs.InStates.Spreads.{entries}
use Rattle.cn_floor.proofs.floor.counters.Counters.load_all.Goals as goal

pub load_next-total-requires-clause-next : goal.load_next-total-requires-clause-next
load_next-total-requires-clause-next c =
    (c.loop-entry.invariant.2.on_way
    (omega (arith, c.loop-entry-test.true, entries c.self.inside c.self.invariant c.self.view_is))).1

-- once one more word is loaded
module _ (c : goal.After-load_next-total) where
  loaded : Loaded c.args.self.now.start c.args.seat.now.me.0 (c.loop-entry.entry + 1) (c.loop-entry.total + c.load_next-total.result)
      c.load_next-total.new.seat.me.0
  loaded =
      loaded-next _ _ _ _ _ _ _ (omega (arith, c.loop-entry-test.true, entries c.self.inside c.self.invariant c.self.view_is))
      c.loop-entry.invariant.2 c.load_next-total.ensures.loads

pub overflow_add-total : goal.overflow_add-total
overflow_add-total c =
    let began : IsStart c.args.self.now.start = subst (λ (h : FloorValue). IsStart h.start) c.self.view_is c.self.invariant.began in
    omega (arith, (loaded c).few, began.few, began.quota)

-- at the end
module _ (c : goal.After-loop-entry) where
  all : c.loop-entry.entry ≡ c.args.self.now.start.network.table.entries
  all = omega (arith, c.loop-entry-test.false, c.loop-entry.auto.entry-end, entries c.self.inside c.self.invariant c.self.view_is)

pub returns-clause-view : goal.returns-clause-view
returns-clause-view c =
    let was : View = c.args.seat.now.me.0 in
    let is = all c in
    (c.loop-entry.invariant.2.at_end is).0
    ∙ (λ i. record was {
      seen = c.loop-entry.total - (sym c.requires.before) i;
      loads = (sym c.requires.slots.1) i;
      steps = was.steps + is i;
    })
