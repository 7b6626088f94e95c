use Rattle.cn_walk.proofs.Common.{rules, ℕ, arith, length, whole}
use Rattle.cn_walk.proofs.Parts.{one-worker, whole-ready}
use Rattle.cn_walk.proofs.Runs.{all-first, all-in-order, all-theirs, new-nothing, new-sole, none-missing, ran}
use Rattle.cn_walk.proofs.running.walk_and_close.Goals as goal

pub make_lanes-requires-clause-nothing : goal.make_lanes-requires-clause-nothing
make_lanes-requires-clause-nothing g c = new-nothing _ _ _ _ c.requires.lane c.requires.idle

pub walk_lanes-lane-requires-clause-ready : goal.walk_lanes-lane-requires-clause-ready
walk_lanes-lane-requires-clause-ready g c κs within =
    rw (all-first (length c.args.clients.now) c.args.crew.workers (search rules)) at c.in-Some.ensures.ready

pub unreachable-requires-in-Err-LanesMissing : goal.unreachable-requires-in-Err-LanesMissing
unreachable-requires-in-Err-LanesMissing g c =
    let k : ℕ = length c.args.clients.now in
    let ready = rw (all-first k c.args.crew.workers (search rules)) at c.in-Some.ensures.ready in
    let none = (whole-ready c.args.floor k c.args.crew.hand c.in-Some.lanes ready).nothing in
    let theirs = (all-theirs (whole c.in-Some.lanes) c.walk_lanes-lane.result c.args.clients.now none c.walk_lanes-lane.ensures.walked).2 in
    let why = rw c.in-Err-LanesMissing.field-0-is at c.in-Err-LanesMissing.ensures.refused in
    none-missing c.args.floor.start c.walk_lanes-lane.result.view c.in-Err-LanesMissing._entered why.3
    (omega (arith, theirs.as_many, c.requires.quota))

pub returns-in-Ok-clause-run : goal.returns-in-Ok-clause-run
returns-in-Ok-clause-run g c =
    let k : ℕ = length c.args.clients.now in
    let ready = rw (all-first k c.args.crew.workers (search rules)) at c.in-Some.ensures.ready in
    let none = (whole-ready c.args.floor k c.args.crew.hand c.in-Some.lanes ready).nothing in
    let quiet = c.in-Ok.ensures.closed in
    ran c.in-Ok.closed c.args.floor.start (whole c.in-Some.lanes) c.walk_lanes-lane.result c.args.clients.now quiet.0
    c.closed_laws.ensures.closed quiet.1 none c.walk_lanes-lane.ensures.walked

pub returns-in-Ok-clause-in_order : goal.returns-in-Ok-clause-in_order
returns-in-Ok-clause-in_order g c worker hand =
    let k : ℕ = length c.args.clients.now in
    let ready = whole-ready c.args.floor k c.args.crew.hand c.in-Some.lanes
    (rw (all-first k c.args.crew.workers (search rules)) at c.in-Some.ensures.ready) in
    let single = one-worker k c.args.crew.workers 0 c.args.crew.workers c.in-Some.lanes (omega (arith, worker)) c.in-Some.ensures.workers in
    let order = c.walk_lanes-lane.ensures.in_order hand single
    (new-sole c.args.floor k c.args.crew.hand (whole c.in-Some.lanes) c.requires.quota ready) in
    rw c.in-Ok.ensures.closed.1 (all-in-order (whole c.in-Some.lanes) c.walk_lanes-lane.result c.args.clients.now
    ready.nothing order)
