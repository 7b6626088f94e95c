use Rattle.cn_renamer.proofs.Common.{rules, ◌≡◌, ◌+◌, List, ℕ, arith, drop, length, subst, sym, take, sum_by-take-le, BatchEpoch, MayRunAll}
use Rattle.cn_renamer.proofs.Floors.{beside}
use Rattle.cn_renamer.proofs.Running.{may-back, may-front, some-client}
use Rattle.cn_renamer.proofs.epochs.+fn-run_beside-join_mut+arg2+fn-run_beside-join_mut+arg3+run_beside.Goals as goal

pub split-requires-clause-part : goal.split-requires-clause-part
split-requires-clause-part g t c =
    let epochs = c.args.epochs.now in
    let all = c.requires.epochs.all in (
      omega (arith, all, c.cut-at.ensures.clients, sum_by-take-le (λ (e : BatchEpoch). length e.clients.items) epochs c.cut-at.result.0),
      omega (
        arith,
        all,
        some-client epochs (omega (arith, c.workers_that_pay-workers.ensures, c.if-workers-lt2.false))
            c.requires.epochs.some,
      ),
    )

pub join_mut-one-requires-after_bounds : goal.join_mut-one-requires-after_bounds
join_mut-one-requires-after_bounds g t c κs within =
    let entries : ℕ = c.args.network.now.table.entries in
    let epochs : List BatchEpoch = c.args.epochs.now in
    let at : ℕ = c.cut-at.result.0 in
    let m : ℕ = length c.split_at_mut-front.result.0.now in
    let n : ℕ = length c.split_at_mut-front.result.1.now in
    let is : m ≡ c.cut-at.result.1 = search rules in
    let both : m + n ≡ length c.args.holders.now = search rules in
    let first : MayRunAll entries (take at epochs) m =
    may-front entries epochs (length c.args.holders.now) at m c.requires.epochs (omega (arith, is, c.cut-at.ensures.clients)) in
    let second : MayRunAll entries (drop at epochs) n =
    may-back entries epochs (length c.args.holders.now) at m c.requires.epochs (omega (arith, is, c.cut-at.ensures.clients)) n both in
    let front : MayRunAll entries c.split_at.result.0.now m =
    subst (λ (es : List BatchEpoch). MayRunAll entries es m) (sym c.split_at.ensures.front) first in
    let back : MayRunAll entries c.split_at.result.1.now n =
    subst (λ (es : List BatchEpoch). MayRunAll entries es n) (sym c.split_at.ensures.back) second in
    search rules

pub returns : goal.returns
returns g t c =
    let both = c.split_at.ensures.by_index.0 in
    let hands = c.split.ensures.hand in
    let left = hands.0 in
    let right = hands.1 in
    search (rules, beside)
