use Rattle.cn_lists.proofs.Common.{◌≡◌, ℕ, ◌+◌, ◌-◌, ◌*◌, ◌/◌, ◌%◌, ◌<◌, ◌≤◌, [], List, length, arith, sym, ap, ◌∙◌, subst, nil_from_length, gone_too, Network, on}
use Rattle.cn_lists.proofs.ByPlace.{dealt-too, none-too}
use Rattle.cn_lists.proofs.InTurn.{swept-both, swept-first, swept-none}
use Rattle.cn_lists.proofs.Groups.{length-dealt}
use Rattle.cn_lists.proofs.Dealt.{forward, once-so}
use Rattle.cn_lists.proofs.Together.{first-next, goes-by-itself, grants-by, grants-so, left-by, left-so, second-next}
use Rattle.cn_lists.proofs.Taken.{names-fit}
use Rattle.cn_lists.proofs.passing.+pass_all.Goals as goal

is-low : (q n : ℕ) → q ≡ n % 2 → q < 2
is-low q n is = omega (arith, is)

falls : (ends wire n b x q t : ℕ) → ends - wire ≡ t → wire < n + 2 * b → x ≡ n + 2 * b + q → x < ends → ends - x < t
falls ends wire n b x q t was on to low = omega arith

first-wire : (e n b : ℕ) → e ≡ n → e + 2 * b ≡ n + 2 * b + 0
first-wire e n b same = omega (arith, same)

half-fits : (n q m r : ℕ) → q ≡ m % 2 → n ≤ r → (n + q) / 2 ≤ r
half-fits n q m r is fits = omega (arith, is-low q m is)

rest-fit : (n m r s : ℕ) → s + m ≡ r → n ≤ r → n - m ≤ s
rest-fit n m r s rest fits = omega arith

pub returns-then-count-eq0-clause-swept : goal.returns-then-count-eq0-clause-swept
returns-then-count-eq0-clause-swept g t c = swept-none c.args.floor.now.start c.args.post.now.view

pub returns-then-count-eq0-clause-noted : goal.returns-then-count-eq0-clause-noted
returns-then-count-eq0-clause-noted g t c before gone noted =
    let none : on c.args.post.now.view.tokens c.args.wire ≡ [] =
    nil_from_length (on c.args.post.now.view.tokens c.args.wire) (c.requires.many ∙ c.if-count-eq0.true) in
    subst (λ (n : ℕ → ℕ). g.P.Party.Noted before c.args.post.now.view.grants n c.args.notes.now)
    (sym (none-too gone) ∙ ap (gone_too gone) (sym none)) noted

pub returns-then-count-eq1-clause-swept : goal.returns-then-count-eq1-clause-swept
returns-then-count-eq1-clause-swept g t c = swept-first _ c.let_by-end.ensures.together c.pass_all.ensures.swept

pub returns-else-count-eq1-clause-swept : goal.returns-else-count-eq1-clause-swept
returns-else-count-eq1-clause-swept g t c =
    swept-first _ c.let_by-end.ensures.together
    (swept-both c.args.floor.now.start _ _ _ c.pass_all-in-Balancer.ensures.swept c.pass_all-in-Balancer-2.ensures.swept)

pub returns-in-Exit-clause-swept : goal.returns-in-Exit-clause-swept
returns-in-Exit-clause-swept g t c = swept-first _ c.let_by-end.ensures.together (swept-none c.args.floor.now.start _)

pub pass_all-requires : goal.pass_all-requires
pass_all-requires g t c _ (notes, party) =
    let go = rw c.in-Balancer.is at c.let_by-end.ensures.together in
    let entries = c.entries.ensures.value ∙ ap (λ (n : Network). n.table.entries) c.requires.network in
    let to = ap (λ (e : ℕ). e + 2 * c.in-Balancer.balancer + c.output_of-output.result) entries in
    let next = (goes-by-itself go (c.requires.many ∙ c.if-count-eq1.true) _ c.output_of-output.ensures _ to).0 in
    let here = c.let_by-end.ensures.home ∙ c.requires.own in
    let many = ap length next.are ∙ c.requires.many in
    let are = subst (g.P.Party.Are (g.P.Party.kept c.args.notes.now) c.args.party c.args.count) (sym next.are)
    c.requires.party in
    let room = c.requires.room in
    let less = falls _ _ _ _ _ _ _ c.decreases (forward go) to next.low in
    (less, (notes, (party, (here, (next.low, (next.once, (c.requires.network, (many, (are, (next.above, room))))))))))

pub returns-then-count-eq1-clause-left : goal.returns-then-count-eq1-clause-left
returns-then-count-eq1-clause-left g t c =
    let go = rw c.in-Balancer.is at c.let_by-end.ensures.together in
    let entries = c.entries.ensures.value ∙ ap (λ (n : Network). n.table.entries) c.requires.network in
    (goes-by-itself go (c.requires.many ∙ c.if-count-eq1.true) _ c.output_of-output.ensures _
    (ap (λ (e : ℕ). e + 2 * c.in-Balancer.balancer + c.output_of-output.result) entries)).1 _ c.pass_all.ensures.left

pub returns-then-count-eq1-clause-noted : goal.returns-then-count-eq1-clause-noted
returns-then-count-eq1-clause-noted g t c before gone noted =
    let go = rw c.in-Balancer.is at c.let_by-end.ensures.together in
    let entries = c.entries.ensures.value ∙ ap (λ (n : Network). n.table.entries) c.requires.network in
    let next = (goes-by-itself go (c.requires.many ∙ c.if-count-eq1.true) _ c.output_of-output.ensures
    _ (ap (λ (e : ℕ). e + 2 * c.in-Balancer.balancer + c.output_of-output.result) entries)).0 in
    subst (λ (es : List (ℕ × ℕ)). g.P.Party.Noted before c.pass_all.new.post.view.grants (gone_too gone es) c.pass_all.new.notes)
    next.are (c.pass_all.ensures.noted before gone (rw (grants-so go) noted))

pub pass_all-requires-in-Balancer : goal.pass_all-requires-in-Balancer
pass_all-requires-in-Balancer g t c _ (notes, party) =
    let go = rw c.in-Balancer.is at c.let_by-end.ensures.together in
    let entries = c.entries.ensures.value ∙ ap (λ (n : Network). n.table.entries) c.requires.network in
    let to = ap (λ (e : ℕ). e + 2 * c.in-Balancer.balancer + 1) entries in
    let next = second-next go c.output_of-output.result c.output_of-output.ensures _ to in
    let dealt = length-dealt c.output_of-output.result (on c.args.post.now.view.tokens c.args.wire)
    (is-low _ _ c.output_of-output.ensures) in
    let here = c.let_by-end.ensures.home ∙ c.requires.own in
    let many = ap length next.are ∙ dealt.1 ∙ ap (λ (n : ℕ). (n + c.output_of-output.result) / 2) c.requires.many in
    let dealt-on = (c.deal-upper.ensures _ _ c.requires.party).1 in
    let are = subst (g.P.Party.Are (g.P.Party.kept c.args.notes.now) c.deal-upper.result.1 _) (sym next.are) dealt-on in
    let room = half-fits _ _ _ _ c.output_of-output.ensures c.requires.room in
    let less = falls _ _ _ _ _ _ _ c.decreases (forward go) to next.low in
    (less, (notes, (party, (here, (next.low, (next.once, (c.requires.network, (many, (are, (next.above, room))))))))))

pub pass_all-requires-in-Balancer-2 : goal.pass_all-requires-in-Balancer-2
pass_all-requires-in-Balancer-2 g t c _ (notes, party) =
    let go = rw c.in-Balancer.is at c.let_by-end.ensures.together in
    let entries = c.entries.ensures.value ∙ ap (λ (n : Network). n.table.entries) c.requires.network in
    let to = first-wire _ _ c.in-Balancer.balancer entries in
    let next = first-next go c.pass_all-in-Balancer.ensures.left
    (ap (λ (e : ℕ). e + 2 * c.in-Balancer.balancer + 1) entries) to
    c.pass_all-in-Balancer.ensures.once _ c.output_of-output.ensures in
    let dealt = length-dealt c.output_of-output.result (on c.args.post.now.view.tokens c.args.wire)
    (is-low _ _ c.output_of-output.ensures) in
    let here = c.pass_all-in-Balancer.ensures.home ∙ c.let_by-end.ensures.home ∙ c.requires.own in
    let many = ap length next.are ∙ dealt.0 ∙ ap (λ (n : ℕ). n - (n + c.output_of-output.result) / 2) c.requires.many in
    let are = subst (g.P.Party.Are (g.P.Party.kept c.pass_all-in-Balancer.new.notes) c.deal-upper.result.0 _) (sym next.are)
    (rw c.pass_all-in-Balancer.ensures.kept (c.deal-upper.ensures _ _ c.requires.party).0) in
    let room = rest-fit _ _ _ _ c.pass_all-in-Balancer.ensures.room c.requires.room in
    let less = falls _ _ _ _ _ _ _ c.decreases (forward go) to next.low in
    (less, (notes, (party, (here, (next.low, (next.once, (c.requires.network, (many, (are, (next.above, room))))))))))

pub returns-else-count-eq1-clause-left : goal.returns-else-count-eq1-clause-left
returns-else-count-eq1-clause-left g t c =
    let go = rw c.in-Balancer.is at c.let_by-end.ensures.together in
    let entries = c.entries.ensures.value ∙ ap (λ (n : Network). n.table.entries) c.requires.network in
    left-so go c.pass_all-in-Balancer.ensures.left (ap (λ (e : ℕ). e + 2 * c.in-Balancer.balancer + 1) entries)
    (first-wire _ _ c.in-Balancer.balancer entries) c.pass_all-in-Balancer-2.ensures.left

pub returns-else-count-eq1-clause-noted : goal.returns-else-count-eq1-clause-noted
returns-else-count-eq1-clause-noted g t c before gone noted =
    let go = rw c.in-Balancer.is at c.let_by-end.ensures.together in
    let entries = c.entries.ensures.value ∙ ap (λ (n : Network). n.table.entries) c.requires.network in
    let second = second-next go c.output_of-output.result c.output_of-output.ensures
    _ (ap (λ (e : ℕ). e + 2 * c.in-Balancer.balancer + 1) entries) in
    let first = first-next go c.pass_all-in-Balancer.ensures.left
    (ap (λ (e : ℕ). e + 2 * c.in-Balancer.balancer + 1) entries) (first-wire _ _ c.in-Balancer.balancer entries)
    c.pass_all-in-Balancer.ensures.once _ c.output_of-output.ensures in
    subst (λ (n : ℕ → ℕ). g.P.Party.Noted before c.pass_all-in-Balancer-2.new.post.view.grants n c.pass_all-in-Balancer-2.new.notes)
    ((λ i. gone_too (gone_too gone (second.are i)) (first.are i)) ∙ dealt-too gone c.output_of-output.result
    (on c.args.post.now.view.tokens c.args.wire) (is-low _ _ c.output_of-output.ensures))
    (c.pass_all-in-Balancer-2.ensures.noted before _ (c.pass_all-in-Balancer.ensures.noted before gone (rw (grants-so go) noted)))

pub leave-requires-clause-high : goal.leave-requires-clause-high
leave-requires-clause-high g t c =
    let go = rw c.in-Exit.is at c.let_by-end.ensures.together in
    let width = c.width.ensures.value ∙ ap (λ (n : Network). n.table.width) c.requires.network in
    rw (width, ← c.requires.many) (names-fit c.start_laws.ensures go (omega (arith, c.start_laws.ensures.network.formed.width)))

pub returns-in-Exit-clause-left : goal.returns-in-Exit-clause-left
returns-in-Exit-clause-left g t c = left-by (rw c.in-Exit.is at c.let_by-end.ensures.together)

pub returns-in-Exit-clause-once : goal.returns-in-Exit-clause-once
returns-in-Exit-clause-once g t c = once-so c.let_by-end.ensures.together

pub returns-in-Exit-clause-noted : goal.returns-in-Exit-clause-noted
returns-in-Exit-clause-noted g t c before gone noted =
    let go = rw c.in-Exit.is at c.let_by-end.ensures.together in
    let width = c.width.ensures.value ∙ ap (λ (n : Network). n.table.width) c.requires.network in
    let begun = c.base.ensures in
    rw (grants-by go, ← width, ← begun) (c.leave.ensures.noted _ before _ gone c.requires.many c.requires.party noted)
