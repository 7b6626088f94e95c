-- What a quiet floor keeps.
use Rattle.std.specs.Prelude.{◌≡◌, ◌+◌, ◌≤◌, None, IfSome}
use Rattle.cn_spec.specs.declared.limits.TheConstants.{MOST_CARRIED, MOST_NAMED}
use Rattle.cn_floor.specs.declared.floor.quiet.Quiet.TheInside.{Inside}
use Rattle.cn_floor.specs.Carried.{client_count}
use Rattle.cn_floor.specs.Ends.{IsClosedFloor, QuietValue, words_after}
use Rattle.cn_floor.specs.Words.{IsDifference, NoneWent}

-- a closed floor as contracts see it
abbrev pub quiet_of : Inside → QuietValue
quiet_of q = record { start = q.lane.value.home.start; did = q.lane.value.view; words = q.words.words }

-- its grants are those of the lane, and its words those of the floor; and it has what the words have risen, or nobody
-- went before
pub record KeepsQuiet (q : Inside) : Type 0 where
  pub closed_floor : IsClosedFloor q.lane.value.home.start q.lane.value.view q.words.words
  pub network : q.words.network ≡ q.lane.value.home.start.network
  pub stride : q.words.stride ≡ q.lane.value.home.start.stride
  pub few : client_count (words_after (quiet_of q)) ≤ MOST_CARRIED + MOST_NAMED
  pub grants : q.grants.items ≡ q.lane.value.view.grants
  pub risen : IfSome q.risen (λ list. IsDifference q.lane.value.home.start.words q.words.words list.items)
  pub none : q.risen ≡ None → NoneWent q.lane.value.home.start.network.table q.lane.value.home.start.words
