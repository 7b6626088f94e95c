-- What a lane keeps.
use Rattle.std.specs.Prelude.{◌≡◌, ◌+◌, ◌≤◌, length, vec_capacity}
use Rattle.cn_spec.specs.declared.limits.TheConstants.{MOST_NAMED}
use Rattle.cn_yard.specs.Lists.{tokens_in}
use Rattle.cn_floor.specs.declared.floor.lane.Lane.TheInside.{Inside}
use Rattle.cn_floor.specs.Lane.{LaneValue}
use Rattle.cn_floor.specs.Rule.{FitsLanes}

-- a lane as contracts see it
abbrev pub lane_of : Inside → LaneValue
lane_of l = record {
  home = l.post.home;
  view = l.post.view;
  yard = l.yard;
  room = l.room;
}

-- what a lane holds is what its view records
pub record IsLane (l : Inside) : Type 0 where
  pub tokens : l.yard.lists ≡ l.post.view.tokens
  pub grants : l.grants.items ≡ l.post.view.grants
  pub small : FitsLanes l.post.home.start
  pub few : tokens_in l.yard.lists + l.post.view.quota ≤ MOST_NAMED
  -- each token inside and each for which there is room can be granted its name
  pub room : length l.grants.items + tokens_in l.yard.lists + l.room ≤ vec_capacity l.grants
