use Rattle.cn_walk.proofs.Common.{rules, ◌≡◌, ℕ, [], ap, arith, length, IsWellFormed, tokens_in, FloorValue, lowest-inside, nobody-there}
use Rattle.cn_walk.proofs.SweptWalks.{clear-below, sweeps}
use Rattle.cn_walk.proofs.Walks.{none_by, walks-on}
use Rattle.cn_walk.proofs.walking.sweep_out.Goals as goal

pub loop-wire-smaller : goal.loop-wire-smaller
loop-wire-smaller g c =
    let (n, is) = c.sweep.ensures in
    let was = c.loop-wire.invariant in
    let formed : IsWellFormed c.loop-wire.lane.home.start.network.table =
    rw (was.walks.home, c.requires.own) c.network.ensures.network.formed in
    (sweeps _ _ c.in-Some.wire n _ formed is was.held c.in-Some.ensures.some.some).1

pub loop-wire-preserved : goal.loop-wire-preserved
loop-wire-preserved g c =
    let (n, is) = c.sweep.ensures in
    let was = c.loop-wire.invariant in
    let later = c.lane_laws-in-Some.ensures in
    let wire : ℕ = c.in-Some.wire in
    let lowest = c.in-Some.ensures.some in
    let inside = lowest-inside c.loop-wire.lane.yard.lists wire lowest in
    let formed : IsWellFormed c.loop-wire.lane.home.start.network.table =
    rw (was.walks.home, c.requires.own) c.network.ensures.network.formed in
    let swept = sweeps _ _ wire n _ formed is was.held lowest.some in
    record {
      walks = walks-on _ _ _ [] [] was.walks swept.0;
      held = assumption later;
      from = omega (arith, inside, was.held.wires, later.wires, ap (λ (h : FloorValue). length h.start.network.table.ends) swept.0.home);
      clear = clear-below _ _ wire n _ formed is was.held lowest.some lowest.below;
    }

pub returns-clause-out : goal.returns-clause-out
returns-clause-out g c = nobody-there c.loop-wire.lane.yard.lists (search rules)

pub returns-clause-nobody : goal.returns-clause-nobody
returns-clause-nobody g c f =
    let out : tokens_in c.loop-wire.lane.yard.lists ≡ 0 = nobody-there c.loop-wire.lane.yard.lists (search rules) in
    none_by c.loop-wire.lane c.loop-wire.invariant.held out f
