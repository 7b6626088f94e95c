use Rattle.cn_clients.proofs.Common.{ap, arith, times, LaneValue, names_granted}
use Rattle.cn_clients.proofs.Naming.{among, as-many, below, gave-still}
use Rattle.cn_clients.proofs.two_threads.name_by_two.Goals as goal

pub returns-clause-many : goal.returns-clause-many
returns-clause-many g c =
    let gave = c.in_ok-lane.ensures in (as-many _ _ _ _ gave.0, as-many _ _ _ _ gave.1)

pub returns-clause-all : goal.returns-clause-all
returns-clause-all g c =
    let gave = c.in_ok-lane.ensures in
    let one = c.look_at_both-lane.ensures.first in
    let two = c.look_at_both-lane.ensures.second in (
      gave-still _ _ _ _ _ gave.0 (ap (λ (l : LaneValue). l.home) one) (ap (λ (l : LaneValue). l.yard.lists) one)
          (ap (λ (l : LaneValue). l.view.grants) one),
      gave-still _ _ _ _ _ gave.1 (ap (λ (l : LaneValue). l.home) two) (ap (λ (l : LaneValue). l.yard.lists) two)
          (ap (λ (l : LaneValue). l.view.grants) two),
    )

pub returns-clause-differ : goal.returns-clause-differ
returns-clause-differ g c name =
    let gave = c.in_ok-lane.ensures in
    let one = ap (λ (l : LaneValue). times name (names_granted l.view.grants)) c.look_at_both-lane.ensures.first in
    let two = ap (λ (l : LaneValue). times name (names_granted l.view.grants)) c.look_at_both-lane.ensures.second in
    omega (arith, c.look_at_both-lane.ensures.distinct name, one, two, among _ _ _ _ gave.0 name, among _ _ _ _ gave.1 name)

pub returns-clause-low : goal.returns-clause-low
returns-clause-low g c =
    let gave = c.in_ok-lane.ensures in
    let answer = c.look_at_both-lane.ensures.answer in (below _ _ _ _ _ gave.0 answer.0.names, below _ _ _ _ _ gave.1 answer.1.names)

pub returns-clause-in_state : goal.returns-clause-in_state
returns-clause-in_state g c = c.look_at_both-lane.ensures.in_state
