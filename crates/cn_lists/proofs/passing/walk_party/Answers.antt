use Rattle.cn_lists.proofs.Common.{◌≡◌, ℕ, ◌+◌, ◌==◌, List, ◌++◌, count_by, length, arith, sym, ap, ◌∙◌, subst, length-append, take-length, FloorValue, Grant, Network, Start, StoodInState, View, on, tokens_in, nobody-in, nobody-there, by_one_entry, gone_too}
use Rattle.cn_lists.proofs.Groups.{placed-many}
use Rattle.cn_lists.proofs.CameIn.{all-clients, came-once, nobody-stands}
use Rattle.cn_lists.proofs.Counted.{together-steps}
use Rattle.cn_lists.proofs.InTurn.{walk-together}
use Rattle.cn_lists.proofs.passing.walk_party.Goals as goal

pub pass_all-requires-clause-wire : goal.pass_all-requires-clause-wire
pass_all-requires-clause-wire g c =
    omega (
      arith,
      c.network-network.ensures.network.formed.wires,
      ap (λ (n : Network). length n.table.ends) c.network-network.ensures.value,
      ap (λ (n : Network). n.table.entries) c.network-network.ensures.value,
      c.requires.entry,
    )

pub pass_all-requires-clause-once : goal.pass_all-requires-clause-once
pass_all-requires-clause-once g c =
    let came = c.come_in-count.ensures.came in
    let wires = ap (λ (h : FloorValue). length h.start.network.table.ends) c.requires.own in
    came-once _ _ _ _ _ came
    (omega (arith, came.wires, c.post_laws.ensures.wires, wires, pass_all-requires-clause-wire g c))

pub pass_all-requires-clause-many : goal.pass_all-requires-clause-many
pass_all-requires-clause-many g c =
    let clients : List ℕ = g.P.Party.clients_of c.args.notes.now in
    ap length c.come_in-count.ensures.came.there ∙ placed-many clients 0 1 (length clients) ∙ sym c.come_in-count.ensures.count

pub pass_all-requires-clause-party : goal.pass_all-requires-clause-party
pass_all-requires-clause-party g c =
    subst (λ (z : ℕ × List (ℕ × ℕ)). g.P.Party.Are (g.P.Party.kept c.args.notes.now) c.args.party z.0 z.1)
    (λ i. (sym c.come_in-count.ensures.count i, sym c.come_in-count.ensures.came.there i)) c.requires.party

pub pass_all-requires-clause-above : goal.pass_all-requires-clause-above
pass_all-requires-clause-above g c u more = c.come_in-count.ensures.came.others u (λ e. omega (arith, e, more))

pub returns-clause-left : goal.returns-clause-left
returns-clause-left g c =
    let clients : List ℕ = g.P.Party.clients_of c.args.notes.now in
    let k : ℕ = length clients in
    let came = c.come_in-count.ensures.came in
    let left = c.pass_all.ensures.left in
    let (more, grew, theirs) = left.grants in
    record {
      begun = left.start ∙ came.start;
      loads = left.loads ∙ came.loads;
      gone = nobody-stands _ _ _ clients c.args.entry k came left;
      quota = omega (arith, came.quota, left.quota);
      grants = ap length grew ∙ length-append c.come_in-count.new.post.view.grants more
          ∙ (λ i. length (came.grants i) + (theirs.as_many ∙ ap length came.there ∙ placed-many clients 0 1 k) i);
    }

pub returns-clause-walked : goal.returns-clause-walked
returns-clause-walked g c =
    let start : Start = c.args.floor.now.start in
    let v : View = c.args.post.now.view in
    let w : View = c.come_in-count.new.post.view in
    let x : View = c.pass_all.new.post.view in
    let clients : List ℕ = g.P.Party.clients_of c.args.notes.now in
    let k : ℕ = length clients in
    let came = c.come_in-count.ensures.came in
    let left = c.pass_all.ensures.left in
    let net = c.network-network.ensures.network in
    let stood : length (on w.tokens c.args.entry) ≡ k = ap length came.there ∙ placed-many clients 0 1 k in
    let (more, grew, theirs) = left.grants in
    let nobody : tokens_in v.tokens ≡ 0 = nobody-there v.tokens (λ u. ap length (c.requires.out u)) in
    let all = returns-clause-left g c in
    let out : tokens_in x.tokens ≡ 0 = ap tokens_in all.gone ∙ nobody-in (length v.tokens) in
    let walk = walk-together start clients c.args.entry v w x c.come_in-count.ensures.step c.pass_all.ensures.swept in
    let steps = together-steps start clients c.args.entry k v x net walk nobody out all.grants in
    record {
      together = walk;
      quota = all.quota;
      entries = left.entries ∙ came.entries;
      came = left.came ∙ came.came ∙ (λ i. v.came ++ by_one_entry c.args.entry (take-length clients i));
      seen = left.seen ∙ came.seen;
      grants = (
        more,
        grew ∙ (λ i. came.grants i ++ more),
        theirs.as_many ∙ stood,
        λ client. theirs.as_often client ∙ ap (count_by (λ e. e.1 == client)) came.there ∙ all-clients clients client,
      );
      enough_steps = steps.1;
      few_steps = steps.0;
      in_state = λ some. subst (λ (s : Start). StoodInState s x) (came.start ∙ c.post_laws.ensures.start
          ∙ ap (λ (h : FloorValue). h.start) c.requires.own)
          (left.in_state (omega (arith, some, stood)));
    }

pub returns-clause-noted : goal.returns-clause-noted
returns-clause-noted g c before gone noted =
    subst (λ (es : List (ℕ × ℕ)). g.P.Party.Noted before c.pass_all.new.post.view.grants (gone_too gone es) c.pass_all.new.notes)
    c.come_in-count.ensures.came.there
    (c.pass_all.ensures.noted before gone (subst (λ (gs : List Grant). g.P.Party.Noted before gs gone c.args.notes.now)
    (sym c.come_in-count.ensures.came.grants) noted))
