-- What has come in, gone by, left and been given at some moment. Quiet moments and the step property are those of
-- Aspnes, Herlihy, Shavit, Counting Networks, JACM 1994, section 2; the ledger, its soundness and what follows from it
-- at any moment are this project's own.
use Rattle.std.specs.Prelude.{◌≡◌, ◌≢◌, ℕ, ◌+◌, ◌-◌, ◌/◌, ◌%◌, ◌<◌, ◌≤◌, ◌==◌, cond, nat_lt, length}
use Rattle.cn_spec.specs.Step.{half, share, name_of}
use Rattle.cn_spec.specs.Sums.{when, sum_below, Agree, once_below}
use Rattle.cn_tables.specs.declared.end.End.{End}
use Rattle.cn_tables.specs.declared.end.End.TheVariants.{Balancer, Exit}
use Rattle.cn_tables.specs.Table.{Table, Stands, IsFullFlow, sum_at}

-- what has come in, gone by, left and been given at some moment
pub record Ledger : Type 0 where
  -- how many came in by each entry
  pub entered : ℕ → ℕ
  -- how many passed each balancer, and left by each exit
  pub count : End → ℕ
  -- how many stand on each wire
  pub on : ℕ → ℕ
  -- how often client c stands on wire u: standing u c
  pub standing : ℕ → ℕ → ℕ
  -- how often a balancer gave a passage number, or an exit a visit: given end n
  pub given : End → ℕ → ℕ
  -- how often client c left by exit i with visit v and a name: granted c i v name
  pub granted : ℕ → ℕ → ℕ → ℕ → ℕ

-- how many have been put on wire u: those that came in by it, or its half of those that passed its balancer
abbrev pub put : Table → Ledger → ℕ → ℕ
put t l u =
    cond (nat_lt u t.entries) (l.entered u) (half (l.count (Balancer ((u - t.entries) / 2))) ((u - t.entries) % 2))

-- the counts, the clients, the numbers and the grants of a ledger agree with one another
pub record IsSound (t : Table) (l : Ledger) : Type 0 where
  -- who was put on the wires that end at an end went by there, or stands there
  pub balanced : (end : End) → Stands t end
      → l.count end + sum_at t end l.on ≡ sum_at t end (put t l)
  -- those that stand on a wire are clients: how often each stands there adds up to how many do, over enough of them
  pub clients : (u : ℕ) → (n : ℕ) × ((k : ℕ) → n ≤ k → sum_below k (l.standing u) ≡ l.on u)
  -- the numbers given there are those below the count, each once
  pub numbered : (end : End) (n : ℕ) → Stands t end → l.given end n ≡ once_below (l.count end) n
  -- each grant has the name of its exit and visit
  pub named : (c i v name : ℕ) → 1 ≤ l.granted c i v name
      → (i < t.width) × (name ≡ name_of t.width i v)
  -- a client is granted a visit no more often than the exit gives it
  pub once : (c i v name : ℕ) → l.granted c i v name ≤ l.given (Exit i) v
  -- and so are two clients together
  pub distinct : (c d i v : ℕ) → c ≢ d
      → l.granted c i v (name_of t.width i v) + l.granted d i v (name_of t.width i v) ≤ l.given (Exit i) v
  -- each visit that is given is granted to a client
  pub owned : (i v : ℕ) → i < t.width → 1 ≤ l.given (Exit i) v
      → (c : ℕ) × (1 ≤ l.granted c i v (name_of t.width i v))

-- how many have come in
abbrev pub all_entered : Table → Ledger → ℕ
all_entered t l = sum_below t.entries l.entered

-- nobody is inside: the network is quiescent (section 2.2)
abbrev pub IsQuiescent : Table → Ledger → Type 0
IsQuiescent t l = (u : ℕ) → u < length t.ends → l.on u ≡ 0

-- the counts and the names are no more than what entered allows
pub record IsBounded (t : Table) (l : Ledger) : Type 0 where
  -- no balancer has passed more than the full flow of what entered brings there
  pub passes : (f : ℕ → ℕ) → IsFullFlow t f → Agree t.entries f l.entered
      → (b : ℕ) → b < t.balancers → l.count (Balancer b) ≤ sum_at t (Balancer b) f
  -- no exit's count is more than its share of what entered
  pub counts : (i : ℕ) → i < t.width → l.count (Exit i) ≤ share (all_entered t l) t.width i
  -- the name of each visit that is given is below the number that entered
  pub visits : (i v : ℕ) → i < t.width → 1 ≤ l.given (Exit i) v
      → name_of t.width i v < all_entered t l
  -- so is each name that is granted
  pub names : (c i v name : ℕ) → 1 ≤ l.granted c i v name → name < all_entered t l

-- how often a name has been given: as often as its visit, by its exit
abbrev pub times_given : Table → Ledger → ℕ → ℕ
times_given t l name = l.given (Exit (name % t.width)) (name / t.width)

-- the counts and the names are exactly those of what entered (tightness is this project's own; renaming is that of
-- Attiya, Bar-Noy, Dolev, Peleg, Reischuk, JACM 1990)
pub record IsTight (t : Table) (l : Ledger) : Type 0 where
  -- each exit's count is its share of what entered
  pub counts : (i : ℕ) → i < t.width → l.count (Exit i) ≡ share (all_entered t l) t.width i
  -- the names given are the numbers below what entered, each once
  pub names : (name : ℕ) → times_given t l name ≡ once_below (all_entered t l) name
  -- each of these names is granted to one client, once, and to no other
  pub held : (name : ℕ) → name < all_entered t l
      → (c : ℕ) × ((d : ℕ) → l.granted d (name % t.width) (name / t.width) name ≡ when (c == d) 1)
  -- each grant is of one of these names, by the exit and with the visit that the name determines
  pub only : (c i v name : ℕ) → 1 ≤ l.granted c i v name
      → (name < all_entered t l) × (name % t.width ≡ i) × (name / t.width ≡ v)
  -- each balancer has passed what the full flow of what entered brings there
  pub passes : (f : ℕ → ℕ) → IsFullFlow t f → Agree t.entries f l.entered
      → (b : ℕ) → b < t.balancers → l.count (Balancer b) ≡ sum_at t (Balancer b) f

-- nobody has come
abbrev pub empty_ledger : Ledger
empty_ledger = record {
  entered = λ _. 0;
  count = λ _. 0;
  on = λ _. 0;
  standing = λ _ _. 0;
  given = λ _ _. 0;
  granted = λ _ _ _ _. 0;
}
