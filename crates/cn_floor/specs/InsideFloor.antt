-- What a floor keeps.
use Rattle.std.specs.Prelude.{◌≡◌}
use Rattle.cn_floor.specs.declared.floor.Floor.TheInside.{Inside}
use Rattle.cn_floor.specs.Carried.{words_before}
use Rattle.cn_floor.specs.Rule.{IsStart}
use Rattle.cn_floor.specs.Views.{base}

-- its shared words are those of its network, and it has what they began with
pub record IsFloor (f : Inside) : Type 0 where
  pub base : f.base ≡ base f.counters.start
  pub before : f.before ≡ words_before f.counters.start
  pub began : IsStart f.counters.start
