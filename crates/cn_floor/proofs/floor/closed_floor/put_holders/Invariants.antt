use Rattle.cn_floor.proofs.Common.{◌≡◌, ℕ, ◌<◌, length, get_or, Grant}
use Rattle.cn_floor.proofs.floor.closed_floor.put_holders.Given as goal

-- the clients of the grants so far stand at their names
abbrev pub invariant-loop-grant : goal.invariant-loop-grant
invariant-loop-grant l =
    (length l.holders ≡ length l.grants)
    × ((j : ℕ) (d : Grant) → j < l.grant-index → get_or l.holders (get_or l.grants j d).name 0 ≡ (get_or l.grants j d).client)
