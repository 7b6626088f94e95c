-- What handles have.
use Rattle.std.specs.Prelude.{Option, None, Some}
use Rattle.cn_floor.specs.Lane.{LaneValue}
use Rattle.cn_handles.specs.declared.handles.held.Held.{Held}
use Rattle.cn_handles.specs.declared.handles.held.Held.TheVariants.{Nothing, Lane, Closed, Taker, Back}

-- the lane there, if one is
abbrev pub lane_held : {L R K : Type 0} → Held L R K → Option L
lane_held Nothing = None
lane_held (Lane l) = Some l
lane_held (Closed r) = None
lane_held (Taker t) = None
lane_held (Back l) = None

-- the record of a closed floor there, if one is
abbrev pub record_held : {L R K : Type 0} → Held L R K → Option R
record_held Nothing = None
record_held (Lane l) = None
record_held (Closed r) = Some r
record_held (Taker t) = None
record_held (Back l) = None

-- the taker there, if one is
abbrev pub taker_held : {L R K : Type 0} → Held L R K → Option K
taker_held Nothing = None
taker_held (Lane l) = None
taker_held (Closed r) = None
taker_held (Taker t) = Some t
taker_held (Back l) = None

-- the lane there, if one is that was handed back
abbrev pub back_held : {L R K : Type 0} → Held L R K → Option LaneValue
back_held Nothing = None
back_held (Lane l) = None
back_held (Closed r) = None
back_held (Taker t) = None
back_held (Back l) = Some l

-- the lane there, if a handle has one
abbrev pub lane_in : {L R K : Type 0} → Option (Held L R K) → Option L
lane_in None = None
lane_in (Some h) = lane_held h

-- the record of a closed floor there, if a handle has one
abbrev pub record_in : {L R K : Type 0} → Option (Held L R K) → Option R
record_in None = None
record_in (Some h) = record_held h

-- the taker there, if a handle has one
abbrev pub taker_in : {L R K : Type 0} → Option (Held L R K) → Option K
taker_in None = None
taker_in (Some h) = taker_held h
