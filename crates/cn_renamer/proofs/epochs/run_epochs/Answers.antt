use Rattle.cn_renamer.proofs.Common.{◌≡◌, ◌++◌, List, arith, drop, length, take, ℕ}
use Rattle.std.proofs.Math.Seq.{take-append_seam}
use Rattle.cn_renamer.proofs.epochs.run_epochs.Goals as goal

-- what the run wrote stands in all of the holders' places
written : (n : ℕ) (xs ys : List ℕ) → length xs ≡ n → take n (xs ++ drop (length xs) ys) ≡ xs
written n xs ys all = rw (← all) (take-append_seam xs (drop (length xs) ys))

pub returns-clause-walked : goal.returns-clause-walked
returns-clause-walked g c =
    let all : length c.serve_epochs.new.holders ≡ c.in_ok-holders.holders.len =
    omega (arith, c.serve_epochs.auto.holders, c.deref_mut.ensures.len) in
    rw (written c.in_ok-holders.holders.len c.serve_epochs.new.holders c.in_ok-holders.holders.items all) c.in_ok-receipts.ensures

pub returns-clause-many : goal.returns-clause-many
returns-clause-many g c =
    let all : length c.serve_epochs.new.holders ≡ c.in_ok-holders.holders.len =
    omega (arith, c.serve_epochs.auto.holders, c.deref_mut.ensures.len) in
    rw (written c.in_ok-holders.holders.len c.serve_epochs.new.holders c.in_ok-holders.holders.items all)
    (omega (arith, all, c.in_ok-holders.ensures.len, c.clients_in.ensures))
