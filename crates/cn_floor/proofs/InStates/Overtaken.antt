-- On a counting network with two exits or more a client may come in after another has left, and get a lower name. One
-- client stands before its exit while as many others as there are exits walk through, one after the other: the first of
-- them gets a greater name than those that are free, and the last one the name for which the one that stands had come.
use Rattle.cn_floor.proofs.Common.{◌≡◌, ◌≢◌, ℕ, zero, suc, ◌+◌, ◌-◌, ◌*◌, ◌%◌, ◌<◌, ◌≤◌, ◌&&◌, inl, inr, Bool, true, false, eqb, All, List, [], ◌∷◌, ◌++◌, length, refl, sym, ap, ◌∙◌, subst, arith, All-append, All-cons, All-nil, mul-le-mul_left, mod_below, Balancer, End, Exit, IsSound, IsWellFormed, LeadsOn, Ledger, Stands, Table, cases_eq, end_of, eq-eqb, name_of, ne_eqb, output_wire, sum-below-one, sum-below-same, when, share, name-below, sum-below-plus, Counts, one_at, IsQuiescent, ◌⊎◌, all_entered, entering, leaving-there, passing-there, sound-leaves, tight, turned, KeepsRealTimeOrder, client_of, Enter, Event, GoesFrom, Happens, LeadsTo, Step}
use Rattle.cn_floor.proofs.InStates.Histories.{led-none, led-on, led-grow, sound-led}

never : (a : Bool) → (a && false) ≡ false
never true = refl
never false = refl

-- what is not the client's
absent : (client d wire x n : ℕ) → d ≢ client
    → (◌≡◌ {A = ℕ} (when (eqb wire x && eqb client d) 1) 0) × (◌≡◌ {A = ℕ} (when (eqb client d) n) 0)
absent client d wire x n other =
    rw (ne_eqb client d (λ e. other (sym e))) (ap {B = ℕ} (λ q. when q 1) (never (eqb wire x)), refl)

one-there : (wire : ℕ) → one_at wire wire ≡ 1
one-there wire = rw (eq-eqb wire wire refl) refl

what : (end : End) → ((b : ℕ) × (end ≡ Balancer b)) ⊎ ((i : ℕ) × (end ≡ Exit i))
what (Balancer b) = inl (b, refl)
what (Exit i) = inr (i, refl)

module _ (t : Table) (formed : IsWellFormed t) where
  led-by : (event : Event) (history : List Event) (l m n : Ledger) → LeadsTo t history l m → Happens t event m n
      → LeadsTo t (event ∷ history) l n
  unfolding LeadsTo
  led-by event history l m n leads happens = (m, leads, happens)

  -- whose events these are
  abbrev Of : ℕ → List Event → Type 0
  Of client history = All (λ event. client_of event ≡ client) history

  -- ---- a client comes in, and goes on until it stands before an exit

  -- by its own events it came in, and to this wire
  record Inside (l m : Ledger) (client wire : ℕ) : Type 0 where
    history : List Event
    leads : LeadsTo t history l m
    own : Of client history
    low : wire < length t.ends
    stands : 1 ≤ m.standing wire client
    on : (x : ℕ) → m.on x ≡ l.on x + one_at wire x
    entered : all_entered t m ≡ all_entered t l + 1
    count : (i : ℕ) → m.count (Exit i) ≡ l.count (Exit i)
    granted : (d i v name : ℕ) → m.granted d i v name ≡ l.granted d i v name
    others : (x d : ℕ) → d ≢ client → m.standing x d ≡ l.standing x d

  record InFront (l : Ledger) (client : ℕ) : Type 0 where
    now : Ledger
    wire : ℕ
    exit : ℕ
    ends : end_of t wire ≡ Exit exit
    is : Inside l now client wire

  goes-on : (fuel wire client : ℕ) (l m : Ledger) → length t.ends ≤ wire + fuel → Inside l m client wire → InFront l client
  goes-on zero wire client l m enough is = absurd (omega (arith, enough, is.low))
  goes-on (suc fuel) wire client l m enough is = elim (what (end_of t wire)) [
    | inr (i, ends) ↦ record { now = m; wire = wire; exit = i; ends = ends; is = is }
    | inl (b, ends) ↦
        let (n, passes) = passing-there t m client wire b is.low ends is.stands (omega (arith, is.on wire, one-there wire)) in
        let next : ℕ = output_wire t b (m.count (Balancer b) % 2) in
        let two = mod_below (m.count (Balancer b)) 2 (omega arith) in
        let ahead : wire < t.entries + 2 * b = subst (LeadsOn t wire) ends (formed.forward wire is.low) in
        let held : b < t.balancers = subst (Stands t) ends (formed.stands wire is.low) in
        let off : ◌≡◌ {A = ℕ} (when (eqb wire next && eqb client client) 1) 0 =
        rw (ne_eqb wire next (λ e. omega (arith, e, ahead))) refl in
        let come : ◌≡◌ {A = ℕ} (when (eqb client client) (one_at next next)) 1 =
        rw (eq-eqb client client refl, eq-eqb next next refl) refl in
        goes-on fuel next client l n (omega (arith, enough, ahead)) (record {
          history = Step client wire ∷ is.history;
          leads = led-by (Step client wire) is.history l m n is.leads (subst (GoesFrom t m n client wire) (sym ends) passes);
          own = All-cons (λ event. client_of event ≡ client) (Step client wire) is.history refl is.own;
          low = omega (arith, held, two, formed.wires);
          stands = omega (arith, passes.goes.standing next client, off, come);
          on = λ x. omega (arith, is.on x, passes.goes.on x);
          entered = sum-below-same t.entries n.entered m.entered (λ e h. passes.goes.entered e) ∙ is.entered;
          count = λ i. omega (arith, is.count i, passes.goes.count (Exit i));
          granted = λ d i v name. passes.granted d i v name ∙ is.granted d i v name;
          others = λ x d other.
              omega (arith, is.others x d other, passes.goes.standing x d, absent client d wire x (one_at next x) other);
        })
  ]

  -- it comes in by entry 0
  enters : (client : ℕ) (l : Ledger) → InFront l client
  enters client l =
      let some : 0 < t.entries = omega (arith, formed.entries.0) in
      let (a, came) = entering t l client 0 some in
      let here : ◌≡◌ {A = ℕ} (when (eqb client client) 1) 1 = rw (eq-eqb client client refl) refl in
      goes-on (length t.ends) 0 client l a (omega arith) (record {
        history = Enter client 0 ∷ [];
        leads = led-by (Enter client 0) [] l l a (led-none t l) came;
        own = All-cons (λ event. client_of event ≡ client) (Enter client 0) [] refl (All-nil (λ event. client_of event ≡ client));
        low = omega (arith, some, formed.wires);
        stands = omega (arith, came.standing 0 client, here);
        on = came.on;
        entered = sum-below-same t.entries a.entered (λ e. l.entered e + one_at 0 e) (λ e h. came.entered e)
            ∙ sum-below-plus t.entries l.entered (one_at 0) ∙ ap (λ (k : ℕ). all_entered t l + k) (sum-below-one t.entries 0 1 some);
        count = λ i. came.count (Exit i);
        granted = came.granted;
        others = λ x d other. omega (arith, came.standing x d, absent client d 0 x 0 other);
      })

  -- ---- a client comes in and leaves

  record Walks (l m : Ledger) (client : ℕ) : Type 0 where
    history : List Event
    leads : LeadsTo t history l m
    own : Of client history
    exit : ℕ
    inside : exit < t.width
    on : (x : ℕ) → m.on x ≡ l.on x
    entered : all_entered t m ≡ all_entered t l + 1
    count : (i : ℕ) → m.count (Exit i) ≡ l.count (Exit i) + when (eqb i exit) 1
    gets : l.granted client exit (l.count (Exit exit)) (name_of t.width exit (l.count (Exit exit)))
        < m.granted client exit (l.count (Exit exit)) (name_of t.width exit (l.count (Exit exit)))
    others : (x d : ℕ) → d ≢ client → m.standing x d ≡ l.standing x d

  walks : (client : ℕ) (l : Ledger) → (m : Ledger) × Walks l m client
  walks client l =
      let front = enters client l in
      let b : Ledger = front.now in
      let wire : ℕ = front.wire in
      let exit : ℕ = front.exit in
      let is = front.is in
      let (m, leaves) = leaving-there t b client wire exit is.low front.ends is.stands (omega (arith, is.on wire, one-there wire)) in
      let turn : ℕ = l.count (Exit exit) in
      let name : ℕ = name_of t.width exit turn in
      let its : b.count (Exit exit) ≡ turn = is.count exit in
      let one : ◌≡◌ {A = ℕ} (when (eqb client client && (eqb exit exit && (eqb (b.count (Exit exit)) turn
      && eqb (name_of t.width exit (b.count (Exit exit))) name))) 1) 1 =
      rw (
        eq-eqb client client refl,
        eq-eqb exit exit refl,
        eq-eqb (b.count (Exit exit)) turn its,
        eq-eqb (name_of t.width exit (b.count (Exit exit))) name (ap (name_of t.width exit) its),
      ) refl in (
        m,
        record {
          history = Step client wire ∷ is.history;
          leads = led-by (Step client wire) is.history l b m is.leads (subst (GoesFrom t b m client wire) (sym front.ends) leaves);
          own = All-cons (λ event. client_of event ≡ client) (Step client wire) is.history refl is.own;
          exit = exit;
          inside = subst (Stands t) front.ends (formed.stands wire is.low);
          on = λ x. omega (arith, leaves.goes.on x, is.on x);
          entered = sum-below-same t.entries m.entered b.entered (λ e h. leaves.goes.entered e) ∙ is.entered;
          count = λ i. omega (arith, leaves.goes.count (Exit i), is.count i);
          gets = omega (arith, leaves.granted client exit turn name, is.granted client exit turn name, one);
          others = λ x d other. omega (arith, is.others x d other, leaves.goes.standing x d, absent client d wire x 0 other);
        },
      )

  -- ---- client 0 stands before an exit, and nobody else is inside

  module _ (counts : Counts t) (begin : Ledger) where
    front : InFront begin 0
    front = enters 0 begin

    abbrev e : ℕ
    e = front.exit

    abbrev wire : ℕ
    wire = front.wire

    narrow : e < t.width
    narrow = subst (Stands t) front.ends (formed.stands wire front.is.low)

    record Waits (l : Ledger) (n : ℕ) : Type 0 where
      sound : IsSound t l
      stands : 1 ≤ l.standing wire 0
      only : (x : ℕ) → x < length t.ends → l.on x ≡ one_at wire x
      many : all_entered t l ≡ n

    -- if it left, the exits would have their shares
    settled : (l : Ledger) (n : ℕ) → Waits l n → (i : ℕ) → i < t.width → l.count (Exit i) + when (eqb i e) 1 ≡ share n t.width i
    settled l n is i h =
        let (m, leaves) = leaving-there t l 0 wire e front.is.low front.ends is.stands
        (omega (arith, is.only wire front.is.low, one-there wire)) in
        let all : all_entered t m ≡ n = sum-below-same t.entries m.entered l.entered (λ e k. leaves.goes.entered e) ∙ is.many in
        let quiet : IsQuiescent t m = λ x k. omega (arith, leaves.goes.on x, is.only x k) in
        let its = (tight t formed counts m (sound-leaves t formed l m 0 wire e leaves is.sound) quiet).counts i h in
        omega (arith, leaves.goes.count (Exit i), its, ap (λ (k : ℕ). share k t.width i) all)

    waits-on : (l m : Ledger) (n client : ℕ) → Waits l n → Walks l m client → 0 ≢ client → Waits m (n + 1)
    waits-on l m n client is walk other = record {
      sound = sound-led t formed walk.history l m walk.leads is.sound;
      stands = omega (arith, is.stands, walk.others wire 0 other);
      only = λ x h. walk.on x ∙ is.only x h;
      many = omega (arith, walk.entered, is.many);
    }

    -- so many others walk through, one after the other
    walk-more : (k n client : ℕ) (l : Ledger) → Waits l n → 0 ≢ client
        → (m : Ledger) × (history : List Event) × LeadsTo t history l m × Waits m (n + k)
    walk-more zero n client l is other = (l, [], led-none t l, subst (Waits l) (omega arith) is)
    walk-more (suc k) n client l is other =
        let (m, walk) = walks client l in
        let (q, history, leads, waits) = walk-more k (n + 1) client m (waits-on l m n client is walk other) other in (
          q,
          history ++ walk.history,
          led-on t walk.history history l m q walk.leads leads,
          subst (Waits q) (omega arith) waits,
        )

    pub overtaken : 2 ≤ t.width → IsSound t begin → IsQuiescent t begin → KeepsRealTimeOrder t begin → ⊥
    overtaken wide sound quiet ordered =
        let n : ℕ = all_entered t begin in
        let w : ℕ = t.width in
        let l : Ledger = front.now in
        let waits : Waits l (n + 1) = record {
          sound = sound-led t formed front.is.history begin l front.is.leads sound;
          stands = front.is.stands;
          only = λ x h. omega (arith, front.is.on x, quiet x h);
          many = front.is.entered;
        } in
        let (m, first) = walks 1 l in
        let waits-first : Waits m (n + 1 + 1) =
        waits-on l m (n + 1) 1 waits first (λ x. omega (arith, x)) in
        let (p, history, leads, waits-more) =
        walk-more (w - 2) (n + 1 + 1) 1 m waits-first (λ x. omega (arith, x)) in
        let (q, last) = walks 2 p in
        let waits-last = waits-on p q (n + 1 + 1 + (w - 2)) 2 waits-more last (λ x. omega (arith, x)) in
        let here : ◌≡◌ {A = ℕ} (when (eqb e e) 1) 1 = rw (eq-eqb e e refl) refl in
        -- the one that stands has come for name n
        let s : ℕ = l.count (Exit e) in
        let was : begin.count (Exit e) ≡ share n w e = (tight t formed counts begin sound quiet).counts e narrow in
        let now = settled l (n + 1) waits e narrow in
        let below : name_of w e s < n + 1 = (name-below (n + 1) w e s narrow).0 (omega (arith, now, here)) in
        let above : n ≤ name_of w e s = turned _ _ _ _ (name-below n w e s narrow).1 (omega (arith, was, front.is.count e)) in
        -- the first gets a greater one
        let v : ℕ = l.count (Exit first.exit) in
        let other : first.exit ≢ e = λ same.
        let then = settled m (n + 1 + 1) waits-first e narrow in
        let gone : ◌≡◌ {A = ℕ} (when (eqb e first.exit) 1) 1 = rw (eq-eqb e first.exit (sym same)) refl in
        let over = (name-below (n + 1 + 1) w e (s + 1) narrow).0 (omega (arith, then, here, gone, first.count e)) in
        omega (arith, over, above, wide) in
        let away : ◌≡◌ {A = ℕ} (when (eqb first.exit e) 1) 0 = ap {B = ℕ} (λ b. when b 1) (ne_eqb first.exit e other) in
        let higher : n + 1 ≤ name_of w first.exit v =
        turned _ _ _ _ (name-below (n + 1) w first.exit v first.inside).1
        (omega (arith, settled l (n + 1) waits first.exit first.inside, away)) in
        -- the last one gets name n
        let many : ℕ = n + 1 + 1 + (w - 2) in
        let most = settled p many waits-more e narrow in
        let full : share many w e ≤ s + 1 = turned _ _ _ _ (name-below many w e (s + 1) narrow).0 (omega (arith, above, wide)) in
        let next = settled q (many + 1) waits-last e narrow in
        let more : s + 1 < share (many + 1) w e = (name-below (many + 1) w e (s + 1) narrow).1 (omega (arith, below, wide)) in
        let by : last.exit ≡ e = elim (cases_eq e last.exit) [
          | inl same ↦ sym same
          | inr differ ↦
              let none : ◌≡◌ {A = ℕ} (when (eqb e last.exit) 1) 0 = ap {B = ℕ} (λ b. when b 1) (ne_eqb e last.exit differ) in
              absurd (omega (arith, none, last.count e, most, full, next, more, here))
        ] in
        let turn : ℕ = p.count (Exit last.exit) in
        let name : ℕ = name_of w last.exit turn in
        let few : p.count (Exit e) ≤ s = omega (arith, most, full, here) in
        let same : name ≡ name_of w e (p.count (Exit e)) = λ i. name_of w (by i) (p.count (Exit (by i))) in
        let times : w * p.count (Exit e) ≤ w * s = mul-le-mul_left w few in
        let small : name ≤ n = omega (arith, same, times, below) in
        let grow = led-grow t history m p leads in
        let before : List Event = first.history ++ front.is.history in
        let after : List Event = last.history ++ history in
        absurd (omega (
          arith,
          higher,
          small,
          ordered before after m q 1 first.exit v (name_of w first.exit v) 2 last.exit turn name
              (led-on t front.is.history first.history begin l m front.is.leads first.leads)
              (led-on t history last.history m p q leads last.leads)
              (omega (arith, first.gets))
              (All-append (λ event. client_of event ≢ 2) first.history front.is.history
              (λ k d h x. omega (arith, x, first.own k d h)) (λ k d h x. omega (arith, x, front.is.own k d h)))
              (omega (arith, last.gets, grow.kept 2 last.exit turn name)),
        ))
