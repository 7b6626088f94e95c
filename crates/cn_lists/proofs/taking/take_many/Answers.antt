use Rattle.cn_lists.proofs.Common.{rules, ◌≡◌, ℕ, List, [], ◌++◌, length, replicate, arith, sym, ap, ◌∙◌, subst, FloorValue, Grant, Start, View, length-replicate, HaveWalked, AreWritten, TakerValue}
use Rattle.cn_lists.specs.InsideTaker.{taker_of}
use Rattle.cn_lists.proofs.Taken.{written-all}
use Rattle.cn_lists.proofs.taking.take_many.Goals as goal

pub invariant_of-taker : goal.invariant_of-taker
invariant_of-taker c =
    c.walk_party.ensures.left.gone
    ∙ (λ i. replicate ((ap length c.taker.invariant
    ∙ length-replicate {A = List (ℕ × ℕ)} (length c.taker.inside.post.home.start.network.table.ends) []) i) [])
    ∙ ap (λ (h : FloorValue). replicate (length h.start.network.table.ends) []) (sym c.walk_party.ensures.home)

pub returns-clause-ok : goal.returns-clause-ok
returns-clause-ok c =
    let v : View = c.taker.inside.post.view in
    let x : View = c.walk_party.new.post.view in
    let held : taker_of c.taker.inside ≡ c.args.taker.now = c.taker.view_is in
    let view : v ≡ c.args.taker.now.view = ap (λ (t : TakerValue). t.view) held in
    let began : c.args.floor.now.start ≡ c.args.taker.now.home.start = sym (ap (λ (h : FloorValue). h.start) c.requires.own) in
    let (more, grew, many, often) = c.walk_party.ensures.walked.grants in
    record {
      home = c.walk_party.ensures.home ∙ ap (λ (t : TakerValue). t.home) held;
      walked = subst (λ (z : Start × View). HaveWalked z.0 c.args.names.now c.args.entry z.1 x) (λ i. (began i, view i))
          c.walk_party.ensures.walked;
      named = (
        more,
        grew ∙ (λ i. (view i).grants ++ more),
        written-all v.grants more _ (search rules) (omega (arith, many))
            (subst (λ (gs : List Grant). AreWritten v.grants gs c.walk_party.new.notes) grew
            (c.walk_party.ensures.noted v.grants (λ _. 0) (record { many = omega arith; each = λ k d low. absurd (omega (arith, low)) }))),
      );
    }
