-- What a balancer holds.
use Rattle.std.specs.Prelude.{◌≤◌}
use Rattle.cn_spec.specs.declared.limits.TheConstants.{MOST_ARRIVALS}
use Rattle.cn_balancer.specs.declared.balancer.Balancer.TheInside.{Inside}
use Rattle.cn_balancer.specs.Traffic.{Traffic, all_arrivals}

-- the traffic that contracts see
abbrev pub traffic_of : Inside → Traffic
traffic_of b = record { arrivals = b.arrivals; passages = b.passages }

-- no token passes before it comes, and not too many have come
pub record IsBalanced (b : Inside) : Type 0 where
  pub passed : b.passages ≤ all_arrivals (traffic_of b)
  pub arrived : all_arrivals (traffic_of b) ≤ MOST_ARRIVALS
