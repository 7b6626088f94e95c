-- What a runner of epochs has.
use Rattle.cn_walk.specs.declared.runner.Runner.TheInside.{Inside}
use Rattle.cn_walk.specs.Runner.{RunnerValue}

-- a runner as contracts see it
abbrev pub runner_of : Inside → RunnerValue
runner_of r = record { words = r.leftovers.words; carries = r.carries }
