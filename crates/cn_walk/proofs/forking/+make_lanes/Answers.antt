use Rattle.cn_walk.proofs.Common.{rules, ◌≡◌, ◌+◌, ◌-◌, arith, length, ℕ, refl, ap, LaneValue, first_position}
use Rattle.std.proofs.lemmas.Option.{IfSome_then}
use Rattle.cn_walk.proofs.Parts.{rises, left-nothing, none_after, none_before, pair-ready, reserved-nothing}
use Rattle.cn_walk.proofs.Parts.{right-nothing, whole-ready}
use Rattle.cn_walk.proofs.forking.+make_lanes.Goals as goal

pub overflow_sub-own : goal.overflow_sub-own
overflow_sub-own t c =
    let high = rises c.args.clients c.args.crew.workers c.args.from c.args.to (omega arith) (omega arith) in omega arith

pub overflow_sub-at : goal.overflow_sub-at
overflow_sub-at t c =
    let low = rises c.args.clients c.args.crew.workers c.args.from c.cut-middle.result (omega arith) (omega arith) in
    omega arith

pub overflow_sub-own-2 : goal.overflow_sub-own-2
overflow_sub-own-2 t c =
    let high = rises c.args.clients c.args.crew.workers c.cut-middle.result c.args.to (omega arith) (omega arith) in
    omega arith

pub make_lanes-requires-2 : goal.make_lanes-requires-2
make_lanes-requires-2 t c =
    let low = rises c.args.clients c.args.crew.workers c.cut-middle.result c.args.to (omega arith) (omega arith) in
    let reserved = c.in-Ok.ensures.ok in
    let first = c.in-Ok-split.ensures.first in
    let quota = ap (λ (l : LaneValue). l.view.quota) first in
    let before = ap (λ (l : LaneValue). l.view.quota) reserved in
    let nothing = left-nothing c.from-3.result _ _ (reserved-nothing _ _ _ _ c.requires.nothing reserved) first in
    (search rules, (rw (first, reserved) c.requires.own, (omega arith, (nothing, omega arith))))

pub make_lanes-requires-3 : goal.make_lanes-requires-3
make_lanes-requires-3 t c =
    let low = rises c.args.clients c.args.crew.workers c.args.from c.cut-middle.result (omega arith) (omega arith) in
    let second = c.in-Ok-split.ensures.second in
    let quota = ap (λ (l : LaneValue). l.view.quota) second in
    let nothing = right-nothing c.from-3.result c.reserve_apart.new.self _ second in
    (search rules, (rw (second, c.in-Ok.ensures.ok) c.requires.own, (omega arith, (nothing, omega arith))))

pub returns-clause-ready : goal.returns-clause-ready
returns-clause-ready t c =
    let at : ℕ → ℕ = first_position c.args.clients c.args.crew.workers in
    let middle : ℕ = c.cut-middle.result in
    let low = rises c.args.clients c.args.crew.workers c.args.from middle (omega arith) (omega arith) in
    let high = rises c.args.clients c.args.crew.workers middle c.args.to (omega arith) (omega arith) in
    let first = c.in-Ok-split.ensures.first in
    let room = ap (λ (l : LaneValue). l.room) first in
    let spare = ap (λ (l : LaneValue). l.yard.spare) first in
    let grants = ap (λ (l : LaneValue). l.room) c.in-Ok.ensures.ok in
    let records = ap (λ (l : LaneValue). l.yard.spare) c.in-Ok.ensures.ok in
    let pair = rw (c.first_position-2.ensures.value, c.first_position-first.ensures.value) at c.pair.ensures in
    IfSome_then c.pair.result pair
    (λ lanes is. pair-ready c.args.floor.now (at c.args.to - at c.args.from) (at middle - at c.args.from)
    (at c.args.to - at middle)
    c.args.crew.hand _ _ lanes is (omega arith) (omega (arith, c.in_ok-left.ensures.room))
    (omega (arith, c.in_ok-left.ensures.spare))
    c.in_ok-left.ensures.ready c.in_ok-right.ensures.ready)

pub returns-clause-workers : goal.returns-clause-workers
returns-clause-workers t c =
    let middle : ℕ = c.cut-middle.result in
    let high = rises c.args.clients c.args.crew.workers middle c.args.to (omega arith) (omega arith) in
    let pair = rw (c.first_position-2.ensures.value, c.first_position-first.ensures.value) at c.pair.ensures in
    IfSome_then c.pair.result pair
    (λ lanes is. is.of c.args.clients c.args.crew.workers c.args.from middle c.args.to (omega arith) (omega arith)
    refl (omega arith) (omega arith) c.in_ok-left.ensures.workers c.in_ok-right.ensures.workers)

pub returns-clause-room : goal.returns-clause-room
returns-clause-room t c =
    let reserved = ap (λ (l : LaneValue). l.room) c.in-Ok.ensures.ok in
    let first = ap (λ (l : LaneValue). l.room) c.in-Ok-split.ensures.first in
    let none = (whole-ready _ _ _ _ c.in_ok-right.ensures.ready).nothing.grants in
    IfSome_then c.pair.result c.pair.ensures (λ lanes is.
    omega (arith, ap (λ (l : LaneValue). l.room) is.whole_is, ap length none, c.in_ok-left.ensures.room))

pub returns-clause-spare : goal.returns-clause-spare
returns-clause-spare t c =
    let reserved = ap (λ (l : LaneValue). l.yard.spare) c.in-Ok.ensures.ok in
    let first = ap (λ (l : LaneValue). l.yard.spare) c.in-Ok-split.ensures.first in
    IfSome_then c.pair.result c.pair.ensures (λ lanes is.
    omega (arith, ap (λ (l : LaneValue). l.yard.spare) is.whole_is, c.in_ok-left.ensures.spare))

pub returns-clause-few : goal.returns-clause-few
returns-clause-few t c =
    let reserved = ap (λ (l : LaneValue). l.yard.spare) c.in-Ok.ensures.ok in
    let first = ap (λ (l : LaneValue). l.yard.spare) c.in-Ok-split.ensures.first in
    let second = ap (λ (l : LaneValue). l.yard.spare) c.in-Ok-split.ensures.second in
    IfSome_then c.pair.result c.pair.ensures (λ lanes is n old some. is.spared n
    (c.in_ok-left.ensures.few n (omega arith) some) (c.in_ok-right.ensures.few n (omega arith) some))

-- ---- workers without clients

pub returns-then-own-eq0-clause-workers : goal.returns-then-own-eq0-clause-workers
returns-then-own-eq0-clause-workers t c =
    let low = rises c.args.clients c.args.crew.workers c.args.from (c.args.from + 1) (omega arith) (omega arith) in
    let high = rises c.args.clients c.args.crew.workers (c.args.from + 1) c.args.to (omega arith) (omega arith) in
    (omega arith, c.requires.range.0, refl, grind arith)

pub make_lanes-requires : goal.make_lanes-requires
make_lanes-requires t c =
    let low = rises c.args.clients c.args.crew.workers c.args.from c.cut-middle.result (omega arith) (omega arith) in
    let reserved = c.in-Ok.ensures.ok in
    let quota = ap (λ (l : LaneValue). l.view.quota) reserved in
    let nothing = reserved-nothing _ _ _ _ c.requires.nothing reserved in
    (search rules, (rw reserved c.requires.own, (omega arith, (nothing, omega arith))))

pub returns-then-at-eq0-clause-ready : goal.returns-then-at-eq0-clause-ready
returns-then-at-eq0-clause-ready t c =
    let at : ℕ → ℕ = first_position c.args.clients c.args.crew.workers in
    let low = rises c.args.clients c.args.crew.workers c.args.from c.cut-middle.result (omega arith) (omega arith) in
    let same : at c.args.to - at c.args.from ≡ at c.args.to - at c.cut-middle.result = omega arith in
    rw same c.make_lanes.ensures.ready

pub returns-then-at-eq0-clause-workers : goal.returns-then-at-eq0-clause-workers
returns-then-at-eq0-clause-workers t c =
    let low = rises c.args.clients c.args.crew.workers c.args.from c.cut-middle.result (omega arith) (omega arith) in
    IfSome_then c.make_lanes.result c.make_lanes.ensures.workers (λ lanes are.
    none_before c.args.clients c.args.crew.workers c.args.from c.cut-middle.result c.args.to lanes (omega arith)
    (omega arith) are)

pub returns-then-at-own-clause-workers : goal.returns-then-at-own-clause-workers
returns-then-at-own-clause-workers t c =
    let middle : ℕ = c.cut-middle.result in
    let low = rises c.args.clients c.args.crew.workers c.args.from middle (omega arith) (omega arith) in
    let high = rises c.args.clients c.args.crew.workers middle c.args.to (omega arith) (omega arith) in
    IfSome_then c.make_lanes-then-at-own.result c.make_lanes-then-at-own.ensures.workers (λ lanes are.
    none_after c.args.clients c.args.crew.workers c.args.from middle c.args.to lanes (omega arith) (omega arith) are)

pub returns-then-at-eq0-clause-few : goal.returns-then-at-eq0-clause-few
returns-then-at-eq0-clause-few t c =
    let reserved = ap (λ (l : LaneValue). l.yard.spare) c.in-Ok.ensures.ok in
    IfSome_then c.make_lanes.result c.make_lanes.ensures.few (λ lanes few n old some. few n (omega arith) some)

pub returns-then-at-own-clause-few : goal.returns-then-at-own-clause-few
returns-then-at-own-clause-few t c =
    let reserved = ap (λ (l : LaneValue). l.yard.spare) c.in-Ok.ensures.ok in
    IfSome_then c.make_lanes-then-at-own.result c.make_lanes-then-at-own.ensures.few
    (λ lanes few n old some. few n (omega arith) some)

pub returns-then-at-own-clause-spare : goal.returns-then-at-own-clause-spare
returns-then-at-own-clause-spare t c =
    let reserved = ap (λ (l : LaneValue). l.yard.spare) c.in-Ok.ensures.ok in
    IfSome_then c.make_lanes-then-at-own.result c.make_lanes-then-at-own.ensures.spare (λ lanes more. omega arith)

pub returns-then-at-own-clause-room : goal.returns-then-at-own-clause-room
returns-then-at-own-clause-room t c =
    let reserved = ap (λ (l : LaneValue). l.room) c.in-Ok.ensures.ok in
    IfSome_then c.make_lanes-then-at-own.result c.make_lanes-then-at-own.ensures.room (λ lanes more. omega arith)

pub returns-then-at-eq0-clause-spare : goal.returns-then-at-eq0-clause-spare
returns-then-at-eq0-clause-spare t c =
    let reserved = ap (λ (l : LaneValue). l.yard.spare) c.in-Ok.ensures.ok in
    IfSome_then c.make_lanes.result c.make_lanes.ensures.spare (λ lanes more. omega arith)

pub returns-then-at-eq0-clause-room : goal.returns-then-at-eq0-clause-room
returns-then-at-eq0-clause-room t c =
    let reserved = ap (λ (l : LaneValue). l.room) c.in-Ok.ensures.ok in
    IfSome_then c.make_lanes.result c.make_lanes.ensures.room (λ lanes more. omega arith)
