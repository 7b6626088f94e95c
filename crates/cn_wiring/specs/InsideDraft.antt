-- What a draft holds.
use Rattle.cn_wiring.specs.declared.draft.Draft.TheInside.{Inside}
use Rattle.cn_tables.specs.Plan.{Plan}

-- the plan that a draft holds
abbrev pub plan_of : Inside → Plan
plan_of d = record { entries = d.entries; balancers = d.balancers; ends = d.ends.items }
