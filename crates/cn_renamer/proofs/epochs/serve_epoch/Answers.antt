use Rattle.cn_renamer.proofs.Common.{ap, length, sym, ◌∙◌, QuietValue, runner_after}
use Rattle.cn_renamer.proofs.Floors.{one-walked}
use Rattle.cn_renamer.proofs.Served.{held-in-order}
use Rattle.cn_renamer.proofs.epochs.serve_epoch.Goals as goal

pub list_holders-requires : goal.list_holders-requires
list_holders-requires g c =
    let run = rw c.in-Ok.is at c.run-runner.ensures.run in
    c.requires.places ∙ ap length (sym c.deref.ensures.value) ∙ sym run.theirs.as_many

pub returns-in-Ok-clause-walked : goal.returns-in-Ok-clause-walked
returns-in-Ok-clause-walked g c =
    let closed : QuietValue = c.in-Ok.closed in
    let holders = c.list_holders.new.holders in
    let run = rw (c.in-Ok.is, c.deref.ensures.value) at c.run-runner.ensures.run in
    rw c.receipt.ensures
    (one-walked c.args.crew c.args.runner c.args.epoch.now closed holders run c.list_holders.ensures (λ worker hand.
    let order = rw (c.in-Ok.is, c.deref.ensures.value) at (c.run-runner.ensures.in_order worker hand) in
    held-in-order c.args.epoch.now.clients.items closed.did.grants holders order c.list_holders.ensures))

pub returns-in-Ok-clause-next : goal.returns-in-Ok-clause-next
returns-in-Ok-clause-next g c =
    rw c.in-Ok.is at c.run-runner.ensures.next ∙ ap (runner_after c.args.runner) (sym c.receipt.ensures)
