-- The epochs that were gathered can be served, whatever was read.
use Rattle.cn_texts.proofs.Common.{◌≡◌, ◌<◌, ◌≤◌, ◌+◌, ℕ, List, [], ◌∷◌, ◌++◌, false, None, length, map, refl, arith, sym, ap, ◌∙◌, length-append, nat_eq, list_any, map-append, All-nil, All-push, sum_by_push, nat_tests, Client, times-append, times-cons, times-nil, BatchEpoch, Gathering, AreRising, AreServable, MayCome, clients_of_epochs, AreBounds, Bounds, StaysServable, adding_cause, ended_after}
use Rattle.cn_texts.proofs.ReadingLemmas.GatheredEpochs.{ended-below, once-ended, rising_more}
use Rattle.cn_texts.proofs.Each.{absent}

-- no client is few
none-come : (bounds : Bounds) → MayCome bounds []
none-come bounds = record {
  few = omega arith;
  within = All-nil (λ (c : Client). c.entry < bounds.entries);
  once = λ client. omega (arith, times-nil client);
}

-- at the start
pub none_kept : {g : Gathering} {bounds : Bounds} → AreBounds bounds → g.ended.items ≡ [] → g.latest.clients.items ≡ []
    → g.standing.keys ≡ [] → g.next ≡ 1 → StaysServable bounds g
unfolding AreRising
none_kept {bounds = bounds} within ended clients keys next = record {
  within = within;
  ended = rw ended (record {
    rising = tt;
    some = All-nil (λ (e : BatchEpoch). 0 < length e.clients.items);
    come = All-nil (λ (e : BatchEpoch). MayCome bounds e.clients.items);
  });
  below = rw ended tt;
  latest = rw clients (none-come bounds);
  standing = rw (keys, clients) refl;
  count = omega (arith, next, ap clients_of_epochs ended, ap length clients);
  few = omega (arith, next);
}

-- once the latest epoch has ended
pub ended-servable : {g : Gathering} {bounds : Bounds} → StaysServable bounds g → AreServable bounds (ended_after g)
ended-servable {g = g} {bounds = bounds} keeps = once-ended g (AreServable bounds) (λ none. keeps.ended)
    (λ some. record {
      rising = rising_more g.ended.items g.latest keeps.ended.rising keeps.below;
      some = All-push (λ (x : BatchEpoch). 0 < length x.clients.items) g.ended.items g.latest keeps.ended.some some;
      come = All-push (λ (x : BatchEpoch). MayCome bounds x.clients.items) g.ended.items g.latest keeps.ended.come keeps.latest;
    })

-- and has the clients of all
pub all-ended : (g : Gathering) → clients_of_epochs (ended_after g) ≡ clients_of_epochs g.ended.items + length g.latest.clients.items
all-ended g =
    once-ended g (λ epochs. clients_of_epochs epochs ≡ clients_of_epochs g.ended.items + length g.latest.clients.items)
    (λ none. omega (arith, none)) (λ some. sum_by_push
    (λ (x : BatchEpoch). length x.clients.items) g.ended.items g.latest)

-- once it has come to a later epoch
pub turned-keeps : {old new : Gathering} {n : ℕ} {bounds : Bounds} → StaysServable bounds old → old.latest.number < n
    → new.ended.items ≡ ended_after old → new.latest.number ≡ n → new.latest.clients.items ≡ [] → new.standing.keys ≡ []
    → new.next ≡ old.next → StaysServable bounds new
turned-keeps {old = old} {n = n} {bounds = bounds} keeps h ended number clients keys next = record {
  within = keeps.within;
  ended = rw ended (ended-servable keeps);
  below = rw (ended, number) (ended-below old n h keeps.below);
  latest = rw clients (none-come bounds);
  standing = rw (keys, clients) refl;
  count = omega (arith, ap clients_of_epochs ended, ap length clients, all-ended old, next, keeps.count);
  few = omega (arith, next, keeps.few);
}

-- what is known of a client of the latest epoch that has no cause
new-and-few : (bounds : Bounds) (g : Gathering) (c : Client) → adding_cause bounds g c ≡ None
    → (list_any (nat_eq c.id) g.standing.keys ≡ false) × (length g.latest.clients.items < bounds.clients) × (g.next ≤ bounds.records)
new-and-few bounds g c none = (grind (arith, nat_tests), grind (arith, nat_tests), grind (arith, nat_tests))

-- a client more of the latest epoch
pub added-keeps : {old new : Gathering} {bounds : Bounds} → StaysServable bounds old → (c : Client)
    → adding_cause bounds old c ≡ None
    → c.entry < bounds.entries → new.ended ≡ old.ended
    → new.latest.number ≡ old.latest.number → new.latest.clients.items ≡ old.latest.clients.items ++ c ∷ []
    → new.standing.keys ≡ old.standing.keys ++ c.id ∷ [] → new.next ≡ old.next + 1 → StaysServable bounds new
added-keeps {old = old} {new = new} {bounds = bounds} keeps c none entry ended number clients keys next =
    let (fresh, room, some) = new-and-few bounds old c none in
    let before = map (λ (x : Client). x.id) old.latest.clients.items in
    let ids : map (λ (x : Client). x.id) new.latest.clients.items ≡ before ++ c.id ∷ [] =
    ap (map (λ (x : Client). x.id)) clients ∙ map-append (λ (x : Client). x.id) old.latest.clients.items (c ∷ []) in
    let none = absent c.id before (rw keeps.standing at fresh) in
    record {
      within = keeps.within;
      ended = rw ended keeps.ended;
      below = rw (ended, number) keeps.below;
      latest = record {
        few = omega (arith, room, ap length clients, length-append old.latest.clients.items (c ∷ []));
        within = rw clients (All-push (λ (x : Client). x.entry < bounds.entries) old.latest.clients.items c keeps.latest.within entry);
        once = λ x. rw ids (let was = keeps.latest.once x in
            grind (arith, nat_tests, none, was, times-append x before (c.id ∷ []), times-cons x c.id [], times-nil x));
      };
      standing = keys ∙ ap (λ (l : List ℕ). l ++ c.id ∷ []) keeps.standing ∙ sym ids;
      count = omega (
        arith,
        next,
        ap (λ es. clients_of_epochs es.items) ended,
        ap length clients,
        length-append old.latest.clients.items (c ∷ []),
        keeps.count,
      );
      few = omega (arith, next, some);
    }
