-- Where lanes end that are handed back, and why joins stop.
use Rattle.std.specs.Prelude.{◌≡◌, ◌⊎◌, ℕ, Option, Some, ⊤}
use Rattle.cn_floor.specs.Lane.{LaneValue}
use Rattle.cn_handles.specs.Handles.{back_held}
use Rattle.cn_handles.specs.Looking.{IsNoneBack, IsWhole}
use Rattle.cn_handles.specs.Placing.{IsPut, IsPlaceFault}
use Rattle.cn_handles.specs.Refusals.{WithLane}
use Rattle.cn_handles.specs.Returns.{IsBack, JoinsTimes}
use Rattle.cn_handles.specs.declared.places.HandBack.{HandBack}
use Rattle.cn_handles.specs.declared.places.HandBack.TheVariants.{AtPlace, NotItsOwn}
use Rattle.cn_handles.specs.declared.handles.held_lane.returning.JoinStop.{JoinStop}
use Rattle.cn_handles.specs.declared.handles.held_lane.returning.JoinStop.TheVariants.{Nothing, NothingBack, Memory}
use Rattle.cn_handles.specs.declared.handles.held_lane.returning.TakeStop.{TakeStop}
use Rattle.cn_handles.specs.declared.handles.held_lane.returning.TakeStop.TheVariants as take
use Rattle.cn_handles.specs.declared.handles.refusal.Refusal.{Refusal}
use Rattle.cn_handles.specs.declared.handles.refusal.Refusal.TheVariants as why
use Rattle.cn_handles.specs.declared.places.searches.Search.{Search}

-- where a lane ends that is handed back: it is at its place; or it is here, in its box, since its place was not its own
abbrev pub EndsSomewhere : LaneValue → HandBack → Type 0
EndsSomewhere lane (AtPlace p ended) = IsPut lane p
EndsSomewhere lane (NotItsOwn u here) = IsPlaceFault 2 u × (back_held here.value ≡ Some lane)

-- what a join leaves that stops: if no lane was back, what was seen; and where one is that was back, for whose grants
-- there is no room
abbrev pub StopsWith : Option LaneValue → JoinStop → Type 0
StopsWith lane Nothing = ⊤
StopsWith lane (NothingBack none) = IsNoneBack none
StopsWith lane (Memory handed) = WithLane lane (λ l. (m : LaneValue) × IsBack l.home m × EndsSomewhere m handed)

-- the refusal by which a join stops
abbrev pub refusal_of : JoinStop → Refusal
refusal_of Nothing = why.Nothing
refusal_of (NothingBack none) = why.NothingBack
refusal_of (Memory handed) = why.Memory

-- each lane was taken in that a search found which went through all places; or lanes were found for centuries
abbrev pub AreAllIn : Option LaneValue → Option LaneValue → Search → Type 0
AreAllIn old new s = (n : ℕ) × JoinsTimes n old new × (n ≡ s.found) × (IsWhole s ⊎ (s.found ≡ 18446744073709551615))

-- what a call leaves by which no lane came whole: what was seen, or that the floor has as many owners as it can have,
-- or that lanes with nothing were found for centuries
abbrev pub StopsTake : TakeStop → Type 0
StopsTake take.Nothing = ⊤
StopsTake (take.NothingBack none) = IsNoneBack none
StopsTake (take.Full full) = ⊤
StopsTake (take.Late gone) = gone.number ≡ 18446744073709551615

-- the refusal by which such a call stops
abbrev pub refusal_of_take : TakeStop → Refusal
refusal_of_take take.Nothing = why.Nothing
refusal_of_take (take.NothingBack none) = why.NothingBack
refusal_of_take (take.Full full) = why.NothingBack
refusal_of_take (take.Late gone) = why.NothingBack
