use Rattle.cn_floor.proofs.Common.{rules, sym, subst, arith, HoldsAt, Splits, Start, View, after_entered, base, Pair, both_of, cut_first, cut_second}
use Rattle.cn_floor.proofs.InStates.Spreads.{first-there, splits-at}
use Rattle.cn_floor.proofs.InStates.Sharing.{accounted-seen, cuts-in-two, sum-both}
use Rattle.cn_floor.proofs.floor.counters.Counters.cut_in_two.Goals as goal

pub split_seat-requires : goal.split_seat-requires
split_seat-requires g c =
    let start : Start = c.args.self.now.start in
    let p : Pair = g.T.PairOf.pair in
    let both : View = after_entered start c.args._entered (both_of p.first p.second) in
    let is = sum-both p.first p.second c.requires.wires (base start) c.requires.idle.0 in
    let cuts = cuts-in-two start c.args.seat.now.id (cut_first p both) (cut_second p both) both
    (record { each = is.each; quota = is.quota; many = is.many; grants = is.grants; loads = is.loads }) c.requires.idle.0 c.requires.idle.1
    (omega arith) (omega arith) (accounted-seen start p.first _ _ c.requires.first)
    (accounted-seen start p.second _ _ c.requires.second) in (
      search rules,
      first-there c.self.inside c.self.invariant c.self.view_is,
      splits-at c.self.inside c.self.invariant c.self.view_is
          (subst (λ (x : View). Splits (HoldsAt start) c.args.seat.now.id x (cut_first p x) (cut_second p x)) (sym c.requires.pair) cuts),
    )
