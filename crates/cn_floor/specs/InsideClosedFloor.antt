-- What a closed floor keeps.
use Rattle.std.specs.Prelude.{◌≡◌, ◌+◌, ◌≤◌}
use Rattle.std.specs.Mem.Slots.{slots_items, slots_len, IsFull}
use Rattle.cn_spec.specs.declared.limits.TheConstants.{MOST_CARRIED, MOST_NAMED}
use Rattle.cn_floor.specs.declared.floor.closed_floor.ClosedFloor.TheInside.{Inside}
use Rattle.cn_floor.specs.Carried.{IsClosed, client_count}
use Rattle.cn_floor.specs.Ends.{IsClosedFloor, QuietValue, words_after}
use Rattle.cn_floor.specs.Spread.{IsSpaced, words_in}

-- a closed floor as contracts see it
abbrev pub closed_of : Inside → QuietValue
closed_of e = record {
  start = e.lane.value.home.start;
  did = e.lane.value.view;
  words = words_in e.stride (slots_items e.table.words);
}

-- its grants are those of the lane, and its words, which lie a stride apart in a table without slots, those of the
-- floor: another may begin with them, and the number of clients is theirs
pub record KeepsClosedFloor (e : Inside) : Type 0 where
  pub spaced : IsSpaced e.stride (slots_items e.table.words)
  pub full : IsFull e.table.words
  pub none : slots_len e.table.slots ≡ 0
  pub closed_floor : IsClosedFloor e.lane.value.home.start e.lane.value.view
      (words_in e.stride (slots_items e.table.words))
  pub network : e.network ≡ e.lane.value.home.start.network
  pub closed : IsClosed (words_after (closed_of e))
  pub clients : e.clients ≡ client_count (words_after (closed_of e))
  pub few : client_count (words_after (closed_of e)) ≤ MOST_CARRIED + MOST_NAMED
  pub grants : e.grants.items ≡ e.lane.value.view.grants
