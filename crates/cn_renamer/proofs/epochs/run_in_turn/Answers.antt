use Rattle.cn_renamer.proofs.Common.{rules, ◌≡◌, ◌<◌, ◌≤◌, get_or, ◌+◌, ◌-◌, ◌∷◌, ◌++◌, [], ℕ, List, ap, arith, drop, length, subst, sym, take, true, ◌∙◌, common_steps, length-drop, length-take-le, sum_by_push, sum_by-take-le, Network, client_count, QuietValue, RunnerValue, bounds_of, MayCome, clients_of_epochs, BatchEpoch, HaveWalked, runner_after}
use Rattle.std.proofs.lemmas.List.{take_all}
use Rattle.std.proofs.lemmas.Slice.{take-put_mid}
use borrow.Rule.Slice.PartMut.{put_mid, same_len_mid}
use Rattle.cn_renamer.proofs.Floors.{after-both, few-came, many-held, none-walked, same-network, walked-both}
use Rattle.cn_renamer.proofs.epochs.run_in_turn.Goals as goal

-- the epochs before one, and it
up-to : (epochs : List BatchEpoch) (i : ℕ) (epoch : BatchEpoch) → i < length epochs → epoch ≡ get_or epochs i epoch
    → take i epochs ++ epoch ∷ [] ≡ take (i + 1) epochs
up-to epochs i epoch low is = grind (arith, common_steps)

-- and how many clients they have
clients-up-to : (epochs : List BatchEpoch) (i : ℕ) (epoch : BatchEpoch) → i < length epochs → epoch ≡ get_or epochs i epoch
    → clients_of_epochs (take i epochs) + length epoch.clients.items ≡ clients_of_epochs (take (i + 1) epochs)
clients-up-to epochs i epoch low is =
    sym (sum_by_push (λ (e : BatchEpoch). length e.clients.items) (take i epochs) epoch)
    ∙ ap clients_of_epochs (up-to epochs i epoch low is)

-- which are among all
within-all : (epochs : List BatchEpoch) (i : ℕ) (epoch : BatchEpoch) → i < length epochs → epoch ≡ get_or epochs i epoch
    → clients_of_epochs (take i epochs) + length epoch.clients.items ≤ clients_of_epochs epochs
within-all epochs i epoch low is =
    omega (arith, clients-up-to epochs i epoch low is, sum_by-take-le (λ (e : BatchEpoch). length e.clients.items) epochs (i + 1))

pub overflow_add-end : goal.overflow_add-end
overflow_add-end g c =
    let before = c.loop-epoch.invariant in
    let all = within-all c.args.epochs.now c.loop-epoch.epoch-index c.epoch-item.result c.loop-epoch-test.true c.epoch-item.is in
    omega (arith, before.at, all, c.len.ensures, c.requires.epochs.few, c.requires.epochs.all)

pub slice_bounds-own-end : goal.slice_bounds-own-end
slice_bounds-own-end g c =
    let before = c.loop-epoch.invariant in
    let all = within-all c.args.epochs.now c.loop-epoch.epoch-index c.epoch-item.result c.loop-epoch-test.true c.epoch-item.is in
    omega (arith, before.at, before.places, all, c.len.ensures)

pub returns : goal.returns
returns g c =
    let before = c.loop-epoch.invariant in
    let all : take c.loop-epoch.epoch-index c.args.epochs.now ≡ c.args.epochs.now = take_all _ _ c.loop-epoch-test.false in
    let places : take c.loop-epoch.at c.loop-epoch.holders ≡ c.loop-epoch.holders =
    take_all _ _ (omega (arith, before.at, before.places, ap clients_of_epochs all)) in
    rw (all, places) at before.walked

pub loop-epoch-init : goal.loop-epoch-init
loop-epoch-init g c = record {
  runner = ap (runner_after c.args.first) (sym c.none-receipts.ensures);
  at = search rules;
  places = c.requires.epochs.all;
  walked = rw c.none-receipts.ensures (none-walked c.args.crew c.args.first);
}

pub loop-epoch-preserved : goal.loop-epoch-preserved
loop-epoch-preserved g c =
    let before = c.loop-epoch.invariant in
    let runner : RunnerValue = c.args.first in
    let epochs = c.args.epochs.now in
    let i = c.loop-epoch.epoch-index in
    let at : ℕ = c.loop-epoch.at in
    let epoch : BatchEpoch = c.epoch-item.result in
    let own : List ℕ = c.serve_epoch.new.holders in
    let old : List ℕ = c.loop-epoch.holders in
    let receipts : List QuietValue = c.loop-epoch.receipts in
    let receipt : List QuietValue = c.in_ok-next.receipt in
    let front = up-to epochs i epoch c.loop-epoch-test.true c.epoch-item.is in
    let more = clients-up-to epochs i epoch c.loop-epoch-test.true c.epoch-item.is in
    let all = within-all epochs i epoch c.loop-epoch-test.true c.epoch-item.is in
    let one = rw before.runner at c.in_ok-next.ensures.walked in
    let many : length own ≡ length epoch.clients.items = many-held c.args.crew (runner_after runner receipts) epoch receipt own one in
    let fits : at + length own ≤ length old = omega (arith, before.at, before.places, more, many, all) in
    let put : List ℕ = put_mid at (at + c.len.result - at) old own in
    let written : take (at + c.len.result) put ≡ take at old ++ own =
    take-put_mid at (at + c.len.result - at) old own (at + c.len.result) (omega (arith, c.len.ensures, many)) (omega (arith, fits)) in
    let both : HaveWalked c.args.crew runner (take i epochs ++ epoch ∷ []) (receipts ++ receipt) (take at old ++ own) =
    walked-both c.args.crew c.args.crew c.args.crew runner (take i epochs) (epoch ∷ []) receipts receipt (take at old) own before.walked one
    (λ worker hand. (worker, hand, worker, hand)) in
    record {
      runner = c.in_ok-next.ensures.next
          ∙ ap (λ (r : RunnerValue). runner_after r receipt) before.runner
          ∙ sym (after-both runner receipts receipt)
          ∙ ap (runner_after runner) (sym c.append-receipts.ensures);
      at = omega (arith, before.at, more, c.len.ensures);
      places = same_len_mid at (at + c.len.result - at) old own
          (omega (
            arith,
            c.len.ensures,
            many,
            fits,
            length-drop at old,
            length-take-le (at + c.len.result - at) (drop at old) (omega (arith, c.len.ensures, many, fits, length-drop at old)),
          ))
          ∙ before.places;
      walked = rw (← front, c.append-receipts.ensures, written) both;
    }

pub serve_epoch-requires-clause-come : goal.serve_epoch-requires-clause-come
serve_epoch-requires-clause-come g c κs within =
    let before = c.loop-epoch.invariant in
    let same : c.loop-epoch.runner.words.network ≡ c.args.first.words.network =
    ap (λ (r : RunnerValue). r.words.network) before.runner ∙ same-network c.args.first c.loop-epoch.receipts before.walked.began in
    let come : MayCome (bounds_of true c.args.first.words.network.table.entries) c.epoch-item.result.clients.items = search rules in
    subst (λ (n : Network). MayCome (bounds_of true n.table.entries) c.epoch-item.result.clients.items) (sym same) come

pub serve_epoch-requires-clause-few : goal.serve_epoch-requires-clause-few
serve_epoch-requires-clause-few g c κs within =
    let before = c.loop-epoch.invariant in
    omega (
      arith,
      ap (λ (r : RunnerValue). client_count r.words) before.runner,
      c.requires.nobody,
      c.requires.epochs.few,
      c.requires.epochs.all,
      sum_by-take-le (λ (e : BatchEpoch). length e.clients.items) c.args.epochs.now c.loop-epoch.epoch-index,
      few-came c.args.first (take c.loop-epoch.epoch-index c.args.epochs.now) c.loop-epoch.receipts before.walked.began
          before.walked.walked,
    )
