use Rattle.cn_handles.proofs.Common.{rules, ◌≡◌, ◌≤◌, List, arith, ap, ◌∙◌, length, subst, LaneValue, with_rooms, AreAllNamed, Client}
use Rattle.cn_handles.proofs.Listed.{with-more-room}
use Rattle.cn_handles.proofs.handles.held_lane.HeldLane.name_many.Goals as goal
use Rattle.cn_handles.proofs.handles.held_lane.HeldLane.name_many.Goals.{else-grant_room-count-via-then-grant_room-count+else-is_err, else-grant_room-count-via-else-grant_room-count}

pub returns-clause-ok : goal.returns-clause-ok
returns-clause-ok c =
    let clients : List Client = c.args.clients.now in
    let old : LaneValue = c.self.inside.lane in
    let new : LaneValue = c.name_all.new.lane in
    let named : AreAllNamed old new clients =
    elim c.else-grant_room-count.branch [
      | else-grant_room-count-via-then-grant_room-count+else-is_err w ↦
          let got : w.reserve_apart.new.self ≡ with_rooms (length clients) 0 old = search rules in
          let less : old.room ≤ length clients = omega (arith, w.if-grant_room-count.true, c.grant_room.ensures) in
          with-more-room old new clients less (subst (λ (l : LaneValue). AreAllNamed l new clients)
          (ap (λ i. i.1.1.0) w.self-inside-is ∙ got) c.name_all.ensures)
      | else-grant_room-count-via-else-grant_room-count w ↦
          subst (λ (l : LaneValue). AreAllNamed l new clients) (ap (λ i. i.1.1.0) w.self-inside-is)
          c.name_all.ensures
    ] in
    subst (λ (l : LaneValue). AreAllNamed l new clients) c.self.view_is named
