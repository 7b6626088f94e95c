use Rattle.cn_floor.proofs.Common.{◌≡◌, ◌-◌, ◌++◌, List, [], length, get_or, length-append, sym, ap, ◌∙◌, subst, arith, FloorValue, Grant, LaneValue, Lists, PostValue, View, on_in, tokens_in, nobody-on, after_join, after_look, FitsLanes}
use Rattle.cn_floor.proofs.InLane.Lanes.{lane-with-way}
use Rattle.cn_floor.proofs.floor.Floor.take_in.Goals as goal

pub invariant_of-lane : goal.invariant_of-lane
invariant_of-lane c =
    lane-with-way c.lane.inside c.make_way.new.grants c.lane.invariant c.make_way.ensures.items c.make_way.ensures.room

pub returns-in_default-clause-err : goal.returns-in_default-clause-err
returns-in_default-clause-err c = c.lane.view_is

pub returns-in_default-clause-room : goal.returns-in_default-clause-room
returns-in_default-clause-room c = omega
    (arith, c.in_default.ensures.err, ap length c.grants.ensures, ap (λ (l : LaneValue). l.room) c.lane.view_is)

pub join_post-requires-clause-out : goal.join_post-requires-clause-out
join_post-requires-clause-out c u =
    ap (on_in u) c.into_parts-post.ensures.post.1 ∙ ap (λ (ls : Lists). length (get_or ls u [])) (sym c.lane_laws.ensures.tokens)
    ∙ nobody-on c.args.other.yard.lists c.requires.out u

-- what the lane's view is in the end
module _ (c : goal.After-drop-grants) where
  is : c.join_post.new.post ≡ record c.lane.inside.post { view = after_look (after_join c.lane.inside.post.view c.args.other.view) }
  is = c.join_post.ensures.post
      ∙ ap (λ (v : View). record c.lane.inside.post { view = after_look (after_join c.lane.inside.post.view v) })
      c.into_parts-post.ensures.post.1

pub invariant_of-lane-2 : goal.invariant_of-lane-2
invariant_of-lane-2 c =
    let was = c.lane.invariant in
    let view = ap (λ (p : PostValue). p.view) (is c) in
    let theirs : c.as_slice.result.now ≡ c.args.other.view.grants = c.as_slice.ensures.value ∙ c.into_parts-post.ensures.grants in
    record {
      tokens = was.tokens ∙ sym (ap (λ (x : View). x.tokens) view);
      grants = c.append.ensures.items ∙ (λ i. (c.make_way.ensures.items ∙ was.grants) i ++ theirs i)
          ∙ sym (ap (λ (x : View). x.grants) view);
      small = subst FitsLanes (sym (ap (λ (p : PostValue). p.home.start) (is c))) was.small;
      few = omega (
        arith,
        was.small.quota,
        c.join_post.ensures.looks.2,
        ap (λ (h : FloorValue). h.start.quota) c.requires.own.0,
        ap (λ (l : LaneValue). l.home.start.quota) c.lane.view_is,
        ap (λ (x : View). x.quota) view,
        ap (λ (x : View). x.quota) c.into_parts-post.ensures.post.1,
        ap tokens_in was.tokens,
      );
      room = omega (
        arith,
        c.append.ensures.capacity,
        ap (λ (gs : List Grant). length gs) c.append.ensures.items,
        length-append c.make_way.new.grants.items c.as_slice.result.now,
        ap length (theirs ∙ sym c.grants.ensures),
        c.in-Ok.ensures.ok,
        c.make_way.ensures.room,
        c.saturating_sub-lane-inside.ensures,
      );
    }

pub returns-clause-ok : goal.returns-clause-ok
returns-clause-ok c =
    let room : c.saturating_sub-lane-inside.result ≡ c.lane.inside.room - length c.args.other.view.grants =
    c.saturating_sub-lane-inside.ensures ∙ ap (λ (gs : List Grant). c.lane.inside.room - length gs) c.grants.ensures in
    rw (← c.lane.view_is) (λ i. record { home = (is c i).home; view = (is c i).view; yard = c.lane.inside.yard; room = room i })

pub returns-clause-in_state : goal.returns-clause-in_state
returns-clause-in_state c =
    c.join_post.ensures.looks.1
