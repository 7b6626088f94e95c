use Rattle.cn_tables.proofs.Common.{◌<◌, length, refl, arith, get_or_read, Balancer, Exit}
use Rattle.cn_tables.proofs.Arrivals.{counts-elsewhere, counts-fit, counts-here, counts-none}
use Rattle.cn_tables.proofs.fault.arrivals.Goals as goal
use Rattle.cn_tables.proofs.fault.arrivals.Goals.{in-Balancer, in-Exit}

pub loop-end-init : goal.loop-end-init
loop-end-init c = rw (c.in_ok-at_balancers.ensures.items_if_clones_equal, c.in_ok-at_exits.ensures.items_if_clones_equal)
    (counts-none Balancer _ _, counts-none Exit _ _)

pub index_mut-requires : goal.index_mut-requires
index_mut-requires c =
    let s = rw c.in-Balancer.is at (c.requires.stand c.loop-end.end-index c.loop-end-test.true) in
    omega (arith, s, c.loop-end.invariant.0.len, c.loop-end.at_balancers.ok.0)

pub overflow_add-index_mut : goal.overflow_add-index_mut
overflow_add-index_mut c =
    let s = rw c.in-Balancer.is at (c.requires.stand c.loop-end.end-index c.loop-end-test.true) in
    let m = counts-fit Balancer c.loop-end-test.true (omega arith) c.loop-end.invariant.0 c.in-Balancer.b s in
    let inside : c.in-Balancer.b < length c.loop-end.at_balancers.items = omega (arith, s, c.loop-end.invariant.0.len) in
    let v = get_or_read c.loop-end.at_balancers.items c.in-Balancer.b c.index_mut.result.now inside c.index_mut.ensures.value 0 in
    omega (arith, m, v)

pub index_mut-requires-in-Exit : goal.index_mut-requires-in-Exit
index_mut-requires-in-Exit c =
    let s = rw c.in-Exit.is at (c.requires.stand c.loop-end.end-index c.loop-end-test.true) in
    omega (arith, s, c.loop-end.invariant.1.len, c.loop-end.at_exits.ok.0)

pub overflow_add-index_mut-in-Exit : goal.overflow_add-index_mut-in-Exit
overflow_add-index_mut-in-Exit c =
    let s = rw c.in-Exit.is at (c.requires.stand c.loop-end.end-index c.loop-end-test.true) in
    let m = counts-fit Exit c.loop-end-test.true (omega arith) c.loop-end.invariant.1 c.in-Exit.i s in
    let inside : c.in-Exit.i < length c.loop-end.at_exits.items = omega (arith, s, c.loop-end.invariant.1.len) in
    let v = get_or_read c.loop-end.at_exits.items c.in-Exit.i c.index_mut-in-Exit.result.now inside c.index_mut-in-Exit.ensures.value 0 in
    omega (arith, m, v)

pub loop-end-preserved : goal.loop-end-preserved
loop-end-preserved c =
    elim c.match-end.branch [
      | in-Balancer w ↦
          let s = rw w.in-Balancer.is at (c.requires.stand c.loop-end.end-index c.loop-end-test.true) in
          let inside : w.in-Balancer.b < length c.loop-end.at_balancers.items = omega (arith, s, c.loop-end.invariant.0.len) in
          let v = get_or_read c.loop-end.at_balancers.items w.in-Balancer.b w.index_mut.result.now inside w.index_mut.ensures.value 0 in
          rw (w.at_balancers-is, w.at_exits-is, v) (
            counts-here Balancer c.loop-end-test.true w.in-Balancer.b (λ _. refl) w.in-Balancer.is s c.loop-end.invariant.0,
            counts-elsewhere Exit c.loop-end-test.true (Balancer w.in-Balancer.b) (λ _. refl) w.in-Balancer.is c.loop-end.invariant.1,
          )
      | in-Exit w ↦
          let s = rw w.in-Exit.is at (c.requires.stand c.loop-end.end-index c.loop-end-test.true) in
          let inside : w.in-Exit.i < length c.loop-end.at_exits.items = omega (arith, s, c.loop-end.invariant.1.len) in
          let v = get_or_read c.loop-end.at_exits.items w.in-Exit.i w.index_mut-in-Exit.result.now inside w.index_mut-in-Exit.ensures.value
          0 in
          rw (w.at_balancers-is, w.at_exits-is, v) (
            counts-elsewhere Balancer c.loop-end-test.true (Exit w.in-Exit.i) (λ _. refl) w.in-Exit.is c.loop-end.invariant.0,
            counts-here Exit c.loop-end-test.true w.in-Exit.i (λ _. refl) w.in-Exit.is s c.loop-end.invariant.1,
          )
    ]
