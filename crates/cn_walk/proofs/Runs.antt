-- A quiet floor on which nobody but these clients walked.
use Rattle.cn_walk.proofs.Common.{◌≡◌, ℕ, ◌+◌, ◌-◌, ◌*◌, ◌/◌, ◌<◌, List, [], length, get_or, map, sym, refl, ap, ◌∙◌, arith, div-mul-add, Agree, times, first-shares, Balancer, Table, sum_at, Yard, Client, Start, View, client_count, words_before, zero_words, IsMissing, HasNothing, IsReady, first_position, FloorValue, IsIdle, LaneValue, empty_lane, IsRun, IsRunAfter, AreFor, AreInOrder, GrantsInOrder, IsSole, WalksAll, count-word, map-same, nobody-in, none-came, none-counted, none-entered}
use Rattle.std.proofs.lemmas.List.Sorted.{IsPermutation-refl}
use Rattle.cn_tables.specs.Network.{Network}
use Rattle.cn_floor.specs.Ends.{IsClosedFloor, QuietValue}
use Rattle.cn_floor.specs.Words.{count_in, entered_in}

-- all clients lie between the first of the first worker and that of the one after the last
pub all-first : (k w : ℕ) → 0 < w → first_position k w w - first_position k w 0 ≡ k
all-first k w some =
    let one : w * k / w ≡ k = ap (λ (x : ℕ). x / w) (omega arith) ∙ div-mul-add k w 0 some in
    let none : 0 * k / w ≡ 0 = ap (λ (x : ℕ). x / w) (omega arith) ∙ div-mul-add 0 w 0 some in
    omega arith

-- a lane that is new has done nothing
pub new-nothing : (home : FloorValue) (q : ℕ) (yard : Yard) (a : LaneValue) → a ≡ record (empty_lane home q) { yard = yard }
    → IsIdle home.start.network yard.lists → HasNothing a
new-nothing home q yard a is idle = grind (arith, nobody-in)

-- a lane that has as many grants as the floor may let in misses nothing
pub none-missing : (start : Start) (v : View) (entered : ℕ) → IsMissing start v entered → length v.grants ≡ start.quota → ⊥
none-missing start v entered is all =
    omega (arith, is.short, (is.in_state.kept.accounted is.in_state.id v is.in_state.here).all)

-- a quiet floor that went on from words, where its lane let these clients in
module _ (q : QuietValue) (clients : List Client) (quiet : IsClosedFloor q.start q.did q.words) where
  abbrev t : Table
  t = q.start.network.table

  run_at : q.did.entries ≡ map (λ (c : Client). c.entry) clients → q.did.came ≡ clients → AreFor clients q.did.grants
      → IsRunAfter (words_before q.start) clients q
  run_at entries came theirs =
      let many : length q.did.grants ≡ length clients = theirs.as_many in
      record {
        over = refl;
        after = refl;
        stride = refl;
        let_in = came;
        came = omega (arith, quiet.came, many);
        counts = rw many at quiet.shares;
        passes = λ f full is.
            map-same (λ b. get_or q.words (1 + t.entries + b) 0 - get_or q.start.words (1 + t.entries + b) 0)
            (λ b. sum_at t (Balancer b) f - count_in t q.start.words (Balancer b)) 0 t.balancers
            (λ b l h.
            let low : b < t.balancers = omega arith in
            let all : Agree t.entries f (entered_in t q.words) =
            λ u less. omega (arith, is u less, quiet.entered u less, ap (λ (es : List ℕ). times u es) entries) in
            let now : get_or q.words (1 + t.entries + b) 0 ≡ sum_at t (Balancer b) f =
            sym (count-word t q.words (Balancer b) low) ∙ quiet.tight.passes f full all b low in
            let was : get_or q.start.words (1 + t.entries + b) 0 ≡ count_in t q.start.words (Balancer b) =
            sym (count-word t q.start.words (Balancer b) low) in
            λ x. now x - was x);
        names = rw many at quiet.names;
        named = quiet.named;
        theirs = theirs;
      }

-- where the lane had nothing, its grants are those of the walk
pub all-theirs : (a b : LaneValue) (clients : List Client) → HasNothing a → WalksAll a b clients
    → (b.view.entries ≡ map (λ (c : Client). c.entry) clients) × (b.view.came ≡ clients) × AreFor clients b.view.grants
all-theirs a b clients none is =
    let (more, grants, for) = is.grants in
    (rw none.entries at is.entries, rw none.came at is.came, rw (grants, none.grants) for)

-- a floor that its lane closes, after a walk
pub ran : (q : QuietValue) (start : Start) (a b : LaneValue) (clients : List Client) → q.start ≡ start → IsClosedFloor q.start q.did q.words
    → q.did ≡ b.view → HasNothing a → WalksAll a b clients → IsRunAfter (words_before start) clients q
ran q start a b clients same quiet did none is =
    let (entries, came, theirs) = all-theirs a b clients none is in
    rw (← same) (run_at q clients quiet (rw did entries) (rw did came) (rw did theirs))

-- after words that are all 0 it is a floor on which nobody else walked
pub from-zero : (network : Network) (clients : List Client) (q : QuietValue) → IsRunAfter (zero_words network) clients q
    → IsRun network clients q
from-zero network clients q is =
    let t : Table = network.table in
    let nobody : client_count (zero_words network) ≡ 0 = none-came t in
    record {
      over = is.over;
      let_in = is.let_in;
      counts = rw (nobody, first-shares (length clients) t.width) at is.counts;
      passes = λ f full from.
          is.passes f full (λ u l. omega (arith, from u l, none-entered t u))
          ∙ map-same (λ b. sum_at t (Balancer b) f - count_in t (zero_words network).words (Balancer b))
          (λ b. sum_at t (Balancer b) f) 0
          t.balancers (λ b l h. omega (arith, none-counted t (Balancer b)));
      names = is.names;
      named = λ j d l. let p = is.named j d l in (p.0, omega (arith, p.1, nobody));
      theirs = is.theirs;
    }

-- ---- in order

-- a lane that is ready for all whom its floor may let in is the sole one
pub new-sole : (home : FloorValue) (k hand : ℕ) (a : LaneValue) → home.start.quota ≡ k → IsReady home k hand a → IsSole a
new-sole home k hand a whole ready = record {
  quota = omega (arith, whole, ready.quota, ap (λ (h : FloorValue). h.start.quota) ready.home_is);
  names = rw ready.nothing.grants (IsPermutation-refl []);
}

-- where the lane had nothing, its grants are in order if those of the walk are
pub all-in-order : (a b : LaneValue) (clients : List Client) → HasNothing a → GrantsInOrder a b clients → AreInOrder 0 clients b.view.grants
all-in-order a b clients none (more, grants, is) = rw (grants, none.grants) (rw none.grants at is)
