use Rattle.cn_walk.proofs.Common.{rules, ◌<◌, ◌∙◌, ap, arith, IsWellFormed, FloorValue}
use Rattle.cn_walk.proofs.Walks.{IsHeld, comes, comes-next, stays}
use Rattle.cn_walk.proofs.walking.fill_hand.Goals as goal

pub loop-client-init : goal.loop-client-init
loop-client-init g c = record { walks = stays c.args.lane.now; spare = omega (arith, c.requires.spare) }

pub loop-client-preserved : goal.loop-client-preserved
loop-client-preserved g c =
    let was = c.loop-client.invariant in
    let held : IsHeld c.loop-client.lane = assumption c.lane_laws.ensures in
    let home = ap (λ (h : FloorValue). h.start.network.table.entries) (was.walks.home ∙ c.requires.own) in
    let formed : IsWellFormed c.loop-client.lane.home.start.network.table =
    rw (was.walks.home, c.requires.own) c.start_laws.ensures.network.formed in
    let some : 0 < c.loop-client.lane.view.quota = search rules in
    let came = c.in-Ok.ensures.ok in
    record {
      walks = comes-next _ _ _ _ (record { id = 0; entry = 0 }) _ c.loop-client-test.true was.walks
          (comes _ _ _ _ _ formed held some (search rules) came);
      spare = omega (arith, was.spare, c.loop-client-test.true, came.yard.spare);
    }
