use Rattle.cn_floor.proofs.Common.{◌≡◌, ◌++◌, ℕ, List, drop, length, sym, subst, take, arith, take-append_seam, ListsHolders}
use Rattle.cn_floor.proofs.floor.quiet.Quiet.holders.Goals as goal

pub returns : goal.returns
returns c =
    let listed : List ℕ = c.list_holders.new.holders in
    let rest : List ℕ = drop (length listed) c.in_ok-holders.holders.items in
    let long : length listed ≡ c.in_ok-holders.holders.len = omega (arith, c.list_holders.ensures.all, c.in_ok-holders.ensures.len) in
    subst (λ (hs : List ℕ). ListsHolders c.args.self.now.did.grants hs)
    (sym (subst (λ (n : ℕ). take n (listed ++ rest) ≡ listed) long (take-append_seam listed rest))) c.list_holders.ensures
