use Rattle.cn_handles.proofs.Common.{rules, ◌≡◌, ℕ, ◌<◌, ◌∙◌, length, sym, subst, IsThere, Lists, on, LaneValue, StepsOn, first-stands, some-inside}
use Rattle.cn_yard.proofs.CallerLemmas.{IsFirst, first-is, first-there, there-alike}
use Rattle.cn_handles.specs.Moves.{IsStepped, moved_of}
use Rattle.cn_handles.proofs.handles.held_lane.HeldLane.step.Goals as goal

pub client_of-client-requires : goal.client_of-client-requires
client_of-client-requires c =
    let lists : Lists = c.self.inside.lane.yard.lists in
    let wire : ℕ = c.in_ok-wire.wire in
    let some : 0 < length (on lists wire) = search rules in
    first-stands lists wire c.in-Some.token (some-inside lists wire some) (sym c.first.ensures ∙ c.in-Some.is)

pub returns-clause-ok : goal.returns-clause-ok
returns-clause-ok c =
    let lists : Lists = c.self.inside.lane.yard.lists in
    let wire : ℕ = c.in_ok-wire.wire in
    let token : ℕ = c.in-Some.token in
    let some : 0 < length (on lists wire) = search rules in
    let (client, at, n, is) = c.step-moved.ensures in
    let begins : IsFirst wire c.self.inside.lane.yard token =
    first-is wire token c.self.inside.lane.yard (sym c.in-Some.is ∙ c.first.ensures) in
    let here : IsThere lists token begins.client wire =
    first-there lists token begins.client wire begins.after c.lane_laws.ensures.once (some-inside lists wire some) begins.begins in
    let stands : IsThere lists token client at = c.lane_laws.ensures.there token client at is.stood in
    let alike = there-alike lists token client begins.client at wire stands here in
    let (other, read) = c.client_of-client.ensures in
    let same = there-alike lists token client c.client_of-client.result at other stands read in
    subst (λ (w : ℕ). IsStepped c.args.self.now c.step-moved.new.lane w c.moved_of.result) c.in_ok-wire.ensures.ok.0
    (subst (λ (l : LaneValue). IsStepped l c.step-moved.new.lane wire c.moved_of.result) c.self.view_is (record {
      token = token;
      client = client;
      number = n;
      answer = c.step-moved.result;
      first = sym c.first.ensures ∙ c.in-Some.is;
      stepped = subst (λ (w : ℕ). StepsOn c.self.inside.lane c.step-moved.new.lane token client w n c.step-moved.result) alike.1 is;
      copied = subst (λ (k : ℕ). c.moved_of.result ≡ moved_of k c.step-moved.result) (sym same.0) c.moved_of.ensures;
    }))
