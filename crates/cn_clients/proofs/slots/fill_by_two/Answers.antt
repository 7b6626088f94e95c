use Rattle.cn_clients.proofs.Common.{◌≡◌, [], length, ap, ◌∙◌, tokens_in, LaneValue}
use Rattle.cn_floor.specs.declared.view.View.{View}
use Rattle.cn_clients.proofs.FilledSlots.{all-filled, nobody-in}
use Rattle.cn_clients.proofs.slots.fill_by_two.Goals as goal

pub fill_in_threads-filled-requires-clause-out : goal.fill_in_threads-filled-requires-clause-out
fill_in_threads-filled-requires-clause-out g c _ _ = (
  ap (λ (l : LaneValue). tokens_in l.yard.lists) c.in-Ok.ensures.first ∙ c.requires.out,
  ap (λ (l : LaneValue). tokens_in l.yard.lists) c.in-Ok.ensures.second ∙ nobody-in (length c.args.lane.home.start.network.table.ends),
)

pub returns : goal.returns
returns g c =
    let filled = c.in_ok-lane.ensures in
    let none : c.split_off.new.lane.view.grants ≡ [] = ap (λ (l : LaneValue). l.view.grants) c.in-Ok.ensures.first ∙ c.requires.fresh in
    let none' : c.in-Ok.other.view.grants ≡ [] = ap (λ (l : LaneValue). l.view.grants) c.in-Ok.ensures.second in
    let joined = ap (λ (l : LaneValue). l.view.grants) c.in-Ok-join.ensures.ok in
    let did = ap (λ (v : View). v.grants) c.in-Ok-close.ensures.quiet.1 in
    record {
      all = (filled.0.all, filled.1.all);
      full = all-filled _ _ _ _ _ _ _ _ _ _ none none' filled.0 filled.1 (did ∙ joined)
          c.quiet_laws.ensures.closed.names;
      by_name = (filled.0.by_name, filled.1.by_name);
    }
