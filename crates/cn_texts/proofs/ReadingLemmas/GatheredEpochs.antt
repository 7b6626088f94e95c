-- The epochs that were gathered, as arrivals.
use Rattle.cn_texts.proofs.Common.{◌≡◌, ◌<◌, ◌≤◌, ◌+◌, ℕ, List, [], ◌∷◌, ◌++◌, false, length, map, refl, arith, sym, ap, ◌∙◌, inl, inr, append_assoc, length-append, ◌==◌, nat_eq, nat_le, nat_lt, AllByRecursion, flat_map, list_any, map-append, length-map, append-nil, filter-append, fold-append, le-ltb, lt-leb, ne_eqb, eq-eqb, leb_tells, nat_tests, flat_map-append, Client, Arrival, BatchEpoch, Gathering, arrival_cause, AreEpochsOf, AreRising, arrivals_of, Bounds, HoldsArrivals, IsGathered, adding_cause, ended_after}
use Rattle.cn_texts.specs.Reading.Arrival.{last_epoch, of_epoch}
use Rattle.std.proofs.lemmas.List.{nil_from_length}
use Rattle.cn_texts.proofs.Each.{each-append, each-weaker}

-- an arrival of this client
abbrev pub arrival_at : ℕ → Client → Arrival
arrival_at n c = record { epoch = n; client = c.id; entry = c.entry }

-- an epoch's arrivals are of that epoch
pub same-epoch : (n : ℕ) (cs : List Client) → of_epoch n (map (arrival_at n) cs) ≡ map (arrival_at n) cs
same-epoch n [] = refl
same-epoch n (c ∷ cs) = rw (eq-eqb n n refl, same-epoch n cs) refl

-- and of no other
pub other-epoch : (m n : ℕ) (cs : List Client) → (m == n) ≡ false → of_epoch n (map (arrival_at m) cs) ≡ []
other-epoch m n [] e = refl
other-epoch m n (c ∷ cs) e = rw (e, other-epoch m n cs e) refl

-- none of the epochs below a number has its arrivals
below-epoch : (k n : ℕ) (epochs : List BatchEpoch) → k ≤ n → AllByRecursion (λ e. e.number < k) epochs
    → of_epoch n (flat_map arrivals_of epochs) ≡ []
below-epoch k n [] h all = refl
below-epoch k n (e ∷ epochs) h all =
    filter-append (λ (a : Arrival). a.epoch == n) (arrivals_of e) (flat_map arrivals_of epochs)
    ∙ (λ i. other-epoch e.number n e.clients.items (ne_eqb e.number n (λ x. omega (arith, x, h, all.0))) i
    ++ below-epoch k n epochs h all.1 i)

-- whether a client stands among these
same_clients : (n x : ℕ) (cs : List Client)
    → list_any (λ (b : Arrival). x == b.client) (map (arrival_at n) cs) ≡ list_any (nat_eq x) (map (λ (c : Client). c.id) cs)
same_clients n x [] = refl
same_clients n x (c ∷ cs) = rw (same_clients n x cs) refl

pub rising_more : (es : List BatchEpoch) (e : BatchEpoch) → AreRising es → AllByRecursion (λ x. x.number < e.number) es
    → AreRising (es ++ e ∷ [])
unfolding AreRising
rising_more [] e rising below = (tt, tt)
rising_more (x ∷ es) e rising below =
    (each-append (λ y. x.number < y.number) es (e ∷ []) rising.0 (below.0, tt), rising_more es e rising.1 below.1)

-- the epochs once the latest has ended: with it, if it has clients
pub once-ended : (g : Gathering) (P : List BatchEpoch → Type 0) → (length g.latest.clients.items ≡ 0 → P g.ended.items)
    → (0 < length g.latest.clients.items → P (g.ended.items ++ g.latest ∷ [])) → P (ended_after g)
once-ended g P none some = elim (leb_tells 1 (length g.latest.clients.items)) [
  | inl w ↦ rw w.0 (some w.1)
  | inr w ↦ rw w.0 (none (omega (arith, w.1)))
]

-- all of them are below a greater number
pub ended-below : (g : Gathering) (n : ℕ) → g.latest.number < n → AllByRecursion (λ x. x.number < g.latest.number) g.ended.items
    → AllByRecursion (λ x. x.number < n) (ended_after g)
ended-below g n h below =
    let all = each-weaker (λ (x : BatchEpoch). x.number < g.latest.number) (λ x. x.number < n)
    (λ x l. omega (arith, l, h)) g.ended.items
    below in
    once-ended g (AllByRecursion (λ x. x.number < n)) (λ none. all)
    (λ some. each-append (λ x. x.number < n) g.ended.items (g.latest ∷ []) all (h, tt))

-- the client of an arrival
abbrev pub client_of : Arrival → Client
client_of a = record { id = a.client; entry = a.entry }

module _ {g : Gathering} {before : List Arrival} (held : HoldsArrivals g before) where
  -- the arrivals of the latest epoch
  latest-only : of_epoch g.latest.number before ≡ arrivals_of g.latest
  latest-only =
      ap (of_epoch g.latest.number) (sym held.spells)
      ∙ filter-append (λ (a : Arrival). a.epoch == g.latest.number) (flat_map arrivals_of g.ended.items) (arrivals_of g.latest)
      ∙ ap (λ (l : List Arrival). l ++ of_epoch g.latest.number (arrivals_of g.latest))
      (below-epoch g.latest.number g.latest.number g.ended.items (omega arith) held.below)
      ∙ same-epoch g.latest.number g.latest.clients.items

  -- the cause of an arrival in whose epoch the gathering has come
  pub reported-of : (bounds : Bounds) (a : Arrival) → g.latest.number ≡ a.epoch → last_epoch before ≤ a.epoch
      → a.entry < bounds.entries → length before + 1 ≡ g.next
      → adding_cause bounds g (client_of a) ≡ arrival_cause bounds before a
  unfolding arrival_cause
  reported-of bounds a here last within size =
      let full : nat_lt bounds.records (length before + 1)
      ≡ nat_le bounds.records (length before) = grind (arith, nat_tests) in
      rw (
        ← here,
        le-ltb g.latest.number (last_epoch before) (omega (arith, here, last)),
        lt-leb bounds.entries a.entry within,
        latest-only,
        held.standing,
        same_clients g.latest.number a.client g.latest.clients.items,
        length-map g.latest.clients.items (arrival_at g.latest.number),
        ← size,
      ) (rw full refl)

  -- that arrival more
  pub taken_of : {new : Gathering} (a : Arrival) → g.latest.number ≡ a.epoch → new.ended ≡ g.ended
      → new.latest.number ≡ g.latest.number
      → new.latest.clients.items ≡ g.latest.clients.items ++ client_of a ∷ []
      → new.standing.keys ≡ g.standing.keys ++ a.client ∷ []
      → new.next ≡ length before + 2 → IsGathered new (before ++ a ∷ [])
  taken_of a here ended number clients keys next = record {
    holds = record {
      spells =
          (λ i. flat_map arrivals_of (ended i).items ++ map (arrival_at (number i)) (clients i))
          ∙ ap (λ (l : List Arrival). flat_map arrivals_of g.ended.items ++ l)
          (map-append (arrival_at g.latest.number) g.latest.clients.items (client_of a ∷ []))
          ∙ sym (append_assoc (flat_map arrivals_of g.ended.items) (arrivals_of g.latest)
          (arrival_at g.latest.number (client_of a) ∷ []))
          ∙ (λ i. held.spells i ++ record { epoch = here i; client = a.client; entry = a.entry } ∷ []);
      rising = rw ended held.rising;
      some = rw ended held.some;
      below = rw (ended, number) held.below;
      standing = keys ∙ ap (λ (l : List ℕ). l ++ a.client ∷ []) held.standing
          ∙ sym (map-append (λ (c : Client). c.id) g.latest.clients.items (client_of a ∷ []))
          ∙ ap (map (λ (c : Client). c.id)) (sym clients);
    };
    last = fold-append (λ (epoch : ℕ) (a : Arrival). a.epoch) 0 before (a ∷ []) ∙ sym (number ∙ here);
    next = omega (arith, next, length-append before (a ∷ []));
  }

  -- the epochs are those of the arrivals once the latest has ended
  pub ended-epochs : AreEpochsOf (ended_after g) before
  ended-epochs = once-ended g (λ epochs. AreEpochsOf epochs before) (λ none. record {
    rising = held.rising;
    some = held.some;
    spells = sym (append-nil (flat_map arrivals_of g.ended.items))
        ∙ (λ i. flat_map arrivals_of g.ended.items
        ++ map (arrival_at g.latest.number) (sym (nil_from_length g.latest.clients.items none) i))
        ∙ held.spells;
  }) (λ some. record {
    rising = rising_more g.ended.items g.latest held.rising held.below;
    some = each-append (λ x. 0 < length x.clients.items) g.ended.items (g.latest ∷ []) held.some (some, tt);
    spells = flat_map-append arrivals_of g.ended.items (g.latest ∷ [])
        ∙ ap (λ (l : List Arrival). flat_map arrivals_of g.ended.items ++ l) (append-nil (arrivals_of g.latest)) ∙ held.spells;
  })

  -- a gathering that has come to a later epoch holds the same arrivals
  pub turned : {new : Gathering} {n : ℕ} → g.latest.number < n → new.ended.items ≡ ended_after g → new.latest.number ≡ n
      → new.latest.clients.items ≡ [] → new.standing.keys ≡ [] → HoldsArrivals new before
  turned {new = new} {n = n} h ended number clients keys = record {
    spells = (λ i. flat_map arrivals_of (ended i) ++ map (arrival_at new.latest.number) (clients i))
        ∙ append-nil (flat_map arrivals_of (ended_after g)) ∙ ended-epochs.spells;
    rising = rw ended ended-epochs.rising;
    some = rw ended ended-epochs.some;
    below = rw (ended, number) (ended-below g n h held.below);
    standing = keys ∙ ap (map (λ (c : Client). c.id)) (sym clients);
  }

-- at the start there is none
pub none-gathered : {g : Gathering} → g.ended.items ≡ [] → g.latest.clients.items ≡ [] → g.latest.number ≡ 0
    → g.standing.keys ≡ []
    → g.next ≡ 1 → IsGathered g []
unfolding AreRising
none-gathered ended clients number keys next = record {
  holds = record {
    spells = rw (ended, clients) refl;
    rising = rw ended tt;
    some = rw ended tt;
    below = rw ended tt;
    standing = rw (keys, clients) refl;
  };
  last = sym number;
  next = sym next;
}
