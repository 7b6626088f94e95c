-- The network over all entries of a new draft.
use Rattle.cn_periodic.proofs.Common.{◌≡◌, ℕ, ◌+◌, ◌*◌, ◌/◌, ◌^◌, ◌≤◌, arith, lit≤, mul-le-mul, MOST_BALANCERS, MOST_LEVEL, Plan, periodic_balancers, periodic_depth}
use Rattle.std.proofs.Math.Pow.{pow_mono}
use Rattle.cn_tables.specs.Widths.{IsWidthOf}

-- the widest network
widest : (level : ℕ) → level ≤ MOST_LEVEL → periodic_balancers level ≤ MOST_BALANCERS
widest level small =
    let wide : 2 ^ level ≤ 2 ^ MOST_LEVEL = pow_mono small in
    let pairs : 2 ^ level / 2 ≤ 2 ^ MOST_LEVEL / 2 = omega arith in
    let deep : periodic_depth level ≤ periodic_depth MOST_LEVEL = mul-le-mul small small in
    let most : periodic_balancers level ≤ periodic_balancers MOST_LEVEL = mul-le-mul pairs deep in
    let all : periodic_balancers MOST_LEVEL ≤ MOST_BALANCERS = lit≤ tt in
    omega arith

-- there is room for it, at its level and at its width
pub place_for-all : (d : Plan) (width level : ℕ) → IsWidthOf level width → d.balancers ≡ 0
    → d.balancers + periodic_balancers level ≤ MOST_BALANCERS
place_for-all d width level l none = let w = widest level l.small in rw none (omega (arith, w))

pub room_for-all : (d : Plan) (width level : ℕ) → IsWidthOf level width → d.balancers ≡ 0
    → d.balancers + width / 2 * (level * level) ≤ MOST_BALANCERS
room_for-all d width level l none = rw l.wide (place_for-all d width level l none)
