use Rattle.cn_floor.proofs.Common.{◌≡◌, []}
use Rattle.cn_floor.proofs.InStates.Loading.{Loaded}
use Rattle.cn_floor.proofs.floor.counters.Counters.load_all.Given as goal

abbrev pub ghosts-load_next : goal.ghosts-load_next
ghosts-load_next a = record { start = a.self.now.start }

abbrev pub invariant-loop-entry : goal.invariant-loop-entry
invariant-loop-entry l = (l.seat.table_id ≡ l.initial.seat.table_id) × (l.seat.me.1 ≡ [])
    × Loaded l.self.start l.initial.seat.me.0 l.entry l.total l.seat.me.0
