-- Why calls are refused: each by the first cause that stands, in the order of the lines. Of a cause that no lane and
-- no record shows, as want of memory, they say that the earlier ones do not stand.
use Rattle.std.specs.Prelude.{◌≡◌, ◌≢◌, ℕ, ◌+◌, ◌<◌, ◌≤◌, All, List, Option, None, Some, ⊤, length}
use Rattle.cn_spec.specs.declared.limits.TheConstants.{MOST_CARRIED, MOST_CLIENTS}
use Rattle.cn_tables.specs.Widths.{IsWidth}
use Rattle.cn_yard.specs.Lists.{on, tokens_in}
use Rattle.cn_floor.specs.Carried.{client_count}
use Rattle.cn_floor.specs.Lane.{LaneValue}
use Rattle.cn_handles.specs.Records.{RecordValue, list_of}
use Rattle.cn_handles.specs.Returns.{IsBack}
use Rattle.cn_handles.specs.Statuses.{status_of_refusal}
use Rattle.cn_handles.specs.declared.handles.client.Client.{Client}
use Rattle.cn_handles.specs.declared.handles.floor_record.RecordList.{RecordList}
use Rattle.cn_handles.specs.declared.handles.refusal.Refusal.{Refusal}
use Rattle.cn_handles.specs.declared.handles.refusal.Refusal.TheVariants.{Nothing, Memory, Kind, Width, Quota, NoSuchEntry, QuotaSpent, QuotaTooSmall, StillWalking, NobodyThere, LanesMissing, NothingBack, Size, Carried, LanesThere}

-- a status that is one of these refusals
abbrev pub IsRefusal : (Refusal → Type 0) → ℕ → Type 0
IsRefusal Why status = (r : Refusal) × (status ≡ status_of_refusal r) × Why r

-- there is a lane, and this holds of it
abbrev pub WithLane : Option LaneValue → (LaneValue → Type 0) → Type 0
WithLane lane P = (l : LaneValue) × (lane ≡ Some l) × P l

-- there is the record of a closed floor, and this holds of it
abbrev pub WithRecord : Option RecordValue → (RecordValue → Type 0) → Type 0
WithRecord closed P = (r : RecordValue) × (closed ≡ Some r) × P r

-- how many entries the network of a lane has
abbrev pub entries_of_lane : LaneValue → ℕ
entries_of_lane l = l.home.start.network.table.entries

-- why a floor is not opened
abbrev pub NotOpened : ℕ → ℕ → ℕ → Refusal → Type 0
NotOpened kind width quota Kind = 2 < kind
NotOpened kind width quota Width = (kind ≤ 2) × (¬ IsWidth width)
NotOpened kind width quota Quota = (kind ≤ 2) × IsWidth width × (MOST_CLIENTS < quota)
NotOpened kind width quota Memory = (kind ≤ 2) × IsWidth width × (quota ≤ MOST_CLIENTS)
NotOpened kind width quota r = ⊥

-- why a lane is not split
abbrev pub NotSplit : Option LaneValue → ℕ → Refusal → Type 0
NotSplit lane quota Nothing = lane ≡ None
NotSplit lane quota QuotaTooSmall = WithLane lane (λ l. l.view.quota < quota)
NotSplit lane quota Memory = WithLane lane (λ l. quota ≤ l.view.quota)
NotSplit lane quota r = ⊥

-- why a client is not named
abbrev pub NotNamed : Option LaneValue → ℕ → Refusal → Type 0
NotNamed lane entry Nothing = lane ≡ None
NotNamed lane entry StillWalking = WithLane lane (λ l. 0 < tokens_in l.yard.lists)
NotNamed lane entry NoSuchEntry = WithLane lane (λ l. (tokens_in l.yard.lists ≡ 0) × (entries_of_lane l ≤ entry))
NotNamed lane entry QuotaSpent = WithLane lane (λ l. (tokens_in l.yard.lists ≡ 0) × (entry < entries_of_lane l)
    × (l.view.quota ≡ 0))
NotNamed lane entry Memory = WithLane lane (λ l. (tokens_in l.yard.lists ≡ 0) × (entry < entries_of_lane l)
    × (0 < l.view.quota) × (l.room ≡ 0))
NotNamed lane entry r = ⊥

-- why clients are not named by one call, with space for so many grants
abbrev pub NotNamedMany : Option LaneValue → List Client → ℕ → Refusal → Type 0
NotNamedMany lane clients size Nothing = lane ≡ None
NotNamedMany lane clients size Size = WithLane lane (λ l. size ≢ length clients)
NotNamedMany lane clients size StillWalking = WithLane lane (λ l. (size ≡ length clients)
    × (0 < tokens_in l.yard.lists))
NotNamedMany lane clients size NoSuchEntry = WithLane lane (λ l. (size ≡ length clients) × (tokens_in l.yard.lists ≡ 0)
    × (¬ All (λ c. c.entry < entries_of_lane l) clients))
NotNamedMany lane clients size QuotaSpent = WithLane lane (λ l. (size ≡ length clients) × (tokens_in l.yard.lists ≡ 0)
    × All (λ c. c.entry < entries_of_lane l) clients × (l.view.quota < length clients))
NotNamedMany lane clients size Memory = WithLane lane (λ l. (size ≡ length clients) × (tokens_in l.yard.lists ≡ 0)
    × All (λ c. c.entry < entries_of_lane l) clients × (length clients ≤ l.view.quota) × (l.room < length clients))
NotNamedMany lane clients size r = ⊥

-- why so many clients of a list, who come in by this entry, are not named, with space for so many names
abbrev pub NotNamedList : Option LaneValue → ℕ → ℕ → ℕ → Refusal → Type 0
NotNamedList lane count entry size Nothing = lane ≡ None
NotNamedList lane count entry size Size = WithLane lane (λ l. size ≢ count)
NotNamedList lane count entry size StillWalking = WithLane lane (λ l. (size ≡ count) × (0 < tokens_in l.yard.lists))
NotNamedList lane count entry size NoSuchEntry = WithLane lane (λ l. (size ≡ count) × (tokens_in l.yard.lists ≡ 0)
    × (entries_of_lane l ≤ entry))
NotNamedList lane count entry size QuotaSpent = WithLane lane (λ l. (size ≡ count) × (tokens_in l.yard.lists ≡ 0)
    × (entry < entries_of_lane l) × (l.view.quota < count))
NotNamedList lane count entry size Memory = WithLane lane (λ l. (size ≡ count) × (tokens_in l.yard.lists ≡ 0)
    × (entry < entries_of_lane l) × (count ≤ l.view.quota) × (l.room < count))
NotNamedList lane count entry size r = ⊥

-- why a client is not let in
abbrev pub NotEntered : Option LaneValue → ℕ → Refusal → Type 0
NotEntered lane entry Nothing = lane ≡ None
NotEntered lane entry NoSuchEntry = WithLane lane (λ l. entries_of_lane l ≤ entry)
NotEntered lane entry QuotaSpent = WithLane lane (λ l. (entry < entries_of_lane l) × (l.view.quota ≡ 0))
NotEntered lane entry Memory = WithLane lane (λ l. (entry < entries_of_lane l) × (0 < l.view.quota) × (l.room ≡ 0))
NotEntered lane entry r = ⊥

-- why nobody goes by the end of a wire
abbrev pub NobodyOn : Option LaneValue → ℕ → Refusal → Type 0
NobodyOn lane wire Nothing = lane ≡ None
NobodyOn lane wire NobodyThere = WithLane lane (λ l. length (on l.yard.lists wire) ≡ 0)
NobodyOn lane wire r = ⊥

-- why no wire is the lowest with a client
abbrev pub NoLowestWire : Option LaneValue → Refusal → Type 0
NoLowestWire lane Nothing = lane ≡ None
NoLowestWire lane NobodyThere = WithLane lane (λ l. tokens_in l.yard.lists ≡ 0)
NoLowestWire lane r = ⊥

-- why a lane gets no more room
abbrev pub NotReserved : Option LaneValue → Refusal → Type 0
NotReserved lane Nothing = lane ≡ None
NotReserved lane Memory = WithLane lane (λ l. ⊤)
NotReserved lane r = ⊥

-- why a lane is not handed back
abbrev pub NotHandedBack : Option LaneValue → Refusal → Type 0
NotHandedBack lane Nothing = lane ≡ None
NotHandedBack lane StillWalking = WithLane lane (λ l. 0 < tokens_in l.yard.lists)
NotHandedBack lane r = ⊥

-- why no lane is taken in: none that was handed back was found, or one has more grants than there is room for
abbrev pub NotJoined : Option LaneValue → Refusal → Type 0
NotJoined lane Nothing = lane ≡ None
NotJoined lane NothingBack = WithLane lane (λ l. ⊤)
NotJoined lane Memory = WithLane lane (λ l. (m : LaneValue) × IsBack l.home m × (l.room < length m.view.grants))
NotJoined lane r = ⊥

-- why not all that were handed back are taken in, by a lane that took in some: of the rest one has more grants than
-- there is room for
abbrev pub NotJoinedAll : Option LaneValue → Refusal → Type 0
NotJoinedAll lane NothingBack = ⊥
NotJoinedAll lane r = NotJoined lane r

-- why no lane comes whole: none that was handed back was found
abbrev pub NotTakenBack : Option LaneValue → Refusal → Type 0
NotTakenBack of Nothing = of ≡ None
NotTakenBack of NothingBack = WithLane of (λ l. ⊤)
NotTakenBack of r = ⊥

-- with nobody inside, a lane has the floor's whole quota, spent or not
abbrev pub HasAll : LaneValue → Type 0
HasAll l = (tokens_in l.yard.lists ≡ 0) × (l.view.quota + length l.view.grants ≡ l.home.start.quota)

-- why a floor is not closed
abbrev pub NotClosed : Option LaneValue → Refusal → Type 0
NotClosed lane Nothing = lane ≡ None
NotClosed lane StillWalking = WithLane lane (λ l. 0 < tokens_in l.yard.lists)
NotClosed lane LanesMissing = WithLane lane (λ l. (tokens_in l.yard.lists ≡ 0)
    × (l.view.quota + length l.view.grants ≢ l.home.start.quota))
NotClosed lane Memory = WithLane lane HasAll
NotClosed lane LanesThere = WithLane lane HasAll
NotClosed lane r = ⊥

-- why no floor goes on from a closed one
abbrev pub NotOpenedAfter : Option RecordValue → ℕ → Refusal → Type 0
NotOpenedAfter closed quota Nothing = closed ≡ None
NotOpenedAfter closed quota Carried = WithRecord closed (λ r. MOST_CARRIED < client_count r.words)
NotOpenedAfter closed quota Quota = WithRecord closed (λ r. (client_count r.words ≤ MOST_CARRIED)
    × (MOST_CLIENTS < quota))
NotOpenedAfter closed quota Memory = WithRecord closed (λ r. (client_count r.words ≤ MOST_CARRIED)
    × (quota ≤ MOST_CLIENTS))
NotOpenedAfter closed quota r = ⊥

-- why a lane, or the record of a closed floor, is not asked
abbrev pub NotThere : {A : Type 0} → Option A → Refusal → Type 0
NotThere there Nothing = there ≡ None
NotThere there r = ⊥

-- why a list of the record of a closed floor is not copied: it has another size
abbrev pub NotCopied : Option RecordValue → RecordList → ℕ → Refusal → Type 0
NotCopied closed listed size Nothing = closed ≡ None
NotCopied closed listed size Size = WithRecord closed (λ r. length (list_of listed r) ≢ size)
NotCopied closed listed size r = ⊥

-- why no grants are copied, so many from this one on: there are fewer
abbrev pub NotGranted : Option LaneValue → ℕ → ℕ → Refusal → Type 0
NotGranted lane first size Nothing = lane ≡ None
NotGranted lane first size Size = WithLane lane (λ l. length l.view.grants < first + size)
NotGranted lane first size r = ⊥
