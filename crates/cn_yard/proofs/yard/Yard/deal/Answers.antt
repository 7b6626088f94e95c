use Rattle.cn_yard.proofs.Common.{◌≡◌, ◌<◌, ◌≢◌, ℕ, [], sym, ◌∙◌, arith, rules, Deals, out_of, on, Moves}
use Rattle.cn_yard.proofs.Turns.{begins, dealt, either-out, ends, fewer, goes-on, next-stands}
use Rattle.cn_yard.proofs.There.{IsFirst, first-is, none-first}
use Rattle.cn_yard.proofs.yard.Yard.deal.Goals.{After-yard_laws-in-Some, In_default}
use Rattle.cn_yard.proofs.yard.Yard.deal.Goals as goal

-- the first token of the wire is the next
next : (c : After-yard_laws-in-Some) → IsFirst c.args.wire c.loop-token.self c.in-Some.token
next c = first-is c.args.wire c.in-Some.token c.loop-token.self (sym c.in-Some.is ∙ c.first.ensures)

-- the wire that it comes to
lands : {wires out0 out1 to : ℕ} (output : ℕ) → to ≡ out_of out0 out1 output → out0 < wires → out1 < wires → to < wires
lands {wires} {out0} {out1} output is first second = rw is (either-out (λ u. u < wires) out0 out1 output first second)

away : {wire out0 out1 to : ℕ} (output : ℕ) → to ≡ out_of out0 out1 output → wire ≢ out0 → wire ≢ out1 → wire ≢ to
away {wire} {out0} {out1} output is first second = rw is (either-out (λ u. wire ≢ u) out0 out1 output first second)

moves : (c : After-yard_laws-in-Some)
    → Moves c.loop-token.self c.move_to.new.self c.in-Some.token (next c).client c.wire_of_output.result
moves c =
    c.move_to.ensures c.args.wire (next c).client (next-stands c.loop-token.invariant c.requires.wires.0 (next c))

pub loop-token-init : goal.loop-token-init
loop-token-init c = begins (out_of c.args.out0 c.args.out1) c.args.output c.args.wire c.args.self.now c.requires.output
    c.yard_laws.ensures.once

pub move_to-requires-clause-live : goal.move_to-requires-clause-live
move_to-requires-clause-live c =
    let first = first-is c.args.wire c.in-Some.token c.loop-token.self (sym c.in-Some.is ∙ c.first.ensures) in
    rw (next-stands c.loop-token.invariant c.requires.wires.0 first) (search rules)

pub move_to-requires-clause-wire : goal.move_to-requires-clause-wire
move_to-requires-clause-wire c =
    let inside = lands c.loop-token.next c.wire_of_output.ensures c.requires.wires.1 c.requires.wires.2 in
    omega (arith, inside, c.loop-token.invariant.wires)

pub loop-token-smaller : goal.loop-token-smaller
loop-token-smaller c =
    fewer c.loop-token.invariant c.requires.wires.0 (next c)
    (away c.loop-token.next c.wire_of_output.ensures c.requires.distinct.0 c.requires.distinct.1) (moves c)

pub loop-token-preserved : goal.loop-token-preserved
loop-token-preserved c =
    goes-on c.loop-token.invariant c.requires.wires.0 (next c) c.wire_of_output.ensures
    (lands c.loop-token.next c.wire_of_output.ensures c.requires.wires.1 c.requires.wires.2)
    (away c.loop-token.next c.wire_of_output.ensures c.requires.distinct.0 c.requires.distinct.1) (moves c)

all : (c : In_default) → Deals (out_of c.args.out0 c.args.out1) c.args.output (on c.args.self.now.lists c.args.wire) c.args.self.now
    c.loop-token.self
all c =
    let none : on c.loop-token.self.lists c.args.wire ≡ [] =
    none-first (on c.loop-token.self.lists c.args.wire) (λ token is. c.in_default.not-Some token (c.first.ensures ∙ is)) in
    ends c.loop-token.invariant none

pub returns-clause-dealt : goal.returns-clause-dealt
returns-clause-dealt c =
    let differ = c.requires.distinct in
    let wires = c.requires.wires in
    dealt c.args.out0 c.args.out1 differ.2 c.args.wire c.args.output c.args.self.now c.loop-token.self differ.0 differ.1 wires.0 wires.1
    wires.2
    c.requires.output c.yard_laws.ensures.once (all c)

pub returns-clause-moves : goal.returns-clause-moves
returns-clause-moves c = all c
