-- Clients of a list, of whom those who follow one another by one entry are named together.
use Rattle.cn_handles.proofs.Common.{◌≡◌, ℕ, zero, suc, ◌+◌, ◌<◌, ◌≤◌, ◌==◌, cond, count_by, drop, replicate, List, [], ◌∷◌, ◌++◌, get_or, length, map, take, refl, sym, ap, subst, ◌∙◌, arith, append_assoc, drop-drop, drop_of_length-le, length-append, length-drop, length-map, map-append, take_all, Yard, tokens_in, Grant, FloorValue, LaneValue, StoodInState, with_rooms, AreNamed, WalksAll, AreAllNamed, AreNamedAtOnce, AreNamedByRuns, IsLongestRun, by_entry, client_from}
use Rattle.std.proofs.lemmas.List.{drop-map, drop-take, take-append-drop, take-map, take-take}
use Rattle.std.proofs.lemmas.List.Sums.{sum_by-append, sum_by-cons}
use Rattle.cn_spec.specs.Sums.{times}
use Rattle.cn_spec.proofs.CallerLemmas.{times-cons, times-nil}
use Rattle.cn_ledger.specs.declared.client.Client.{Client}
use Rattle.cn_handles.specs.declared.handles.client.Client as c

entries_by : (entry : ℕ) (ids : List ℕ) → map (λ (c : Client). c.entry) (by_entry entry ids) ≡ replicate (length ids) entry
entries_by entry [] = refl
entries_by entry (id ∷ ids) = ap (λ (es : List ℕ). entry ∷ es) (entries_by entry ids)

pub times-by : (entry id : ℕ) (ids : List ℕ) → count_by (λ c. c.id == id) (by_entry entry ids) ≡ times id ids
times-by entry id [] = sym (times-nil id)
times-by entry id (x ∷ ids) =
    omega (
      arith,
      times-by entry id ids,
      times-cons id x ids,
      sum_by-cons (λ (c : Client). cond (c.id == id) 1 0) (record { id = x; entry = entry }) (by_entry entry ids),
    )

-- clients of one entry are named together
pub together : (a b : LaneValue) (ids : List ℕ) (entry : ℕ) → tokens_in a.yard.lists ≡ 0 → length ids ≤ a.room → AreNamed a b ids entry
    → WalksAll a b (by_entry entry ids)
together a b ids entry out room is =
    let all = is.walked in
    let (most, grew, many, often) = all.grants in
    let long : length (by_entry entry ids) ≡ length ids = length-map ids (λ (id : ℕ). record { id = id; entry = entry }) in
    record {
      home = is.home;
      out = ap (λ (y : Yard). tokens_in y.lists) is.yard ∙ out;
      quota = omega (arith, all.quota, long);
      room = omega (arith, is.room, long);
      spare = omega (arith, ap (λ (y : Yard). y.spare) is.yard);
      entries = all.entries ∙ ap (λ (es : List ℕ). a.view.entries ++ es) (sym (entries_by entry ids));
      came = all.came;
      seen = all.seen;
      grants = (most, grew, record { as_many = many ∙ sym long; as_often = λ id. often id ∙ sym (times-by entry id ids) });
    }

-- clients are named after others
pub more : (a b c : LaneValue) (xs ys : List Client) → WalksAll a b xs → WalksAll b c ys → WalksAll a c (xs ++ ys)
more a b c xs ys was is =
    let (some, grants, for) = was.grants in
    let (most, grew, then) = is.grants in
    let at : Client → ℕ = λ d. d.entry in
    record {
      home = is.home ∙ was.home;
      out = is.out;
      quota = omega (arith, was.quota, is.quota, length-append xs ys);
      room = omega (arith, was.room, is.room, length-append xs ys);
      spare = omega (arith, was.spare, is.spare);
      entries = is.entries ∙ ap (λ (es : List ℕ). es ++ map at ys) was.entries ∙ append_assoc a.view.entries (map at xs) (map at ys)
          ∙ ap (λ (es : List ℕ). a.view.entries ++ es) (sym (map-append at xs ys));
      came = is.came ∙ ap (λ (cs : List Client). cs ++ ys) was.came ∙ append_assoc a.view.came xs ys;
      seen = is.seen ∙ was.seen;
      grants = (
        some ++ most,
        grew ∙ ap (λ (gs : List Grant). gs ++ most) grants ∙ append_assoc a.view.grants some most,
        record {
          as_many = omega (arith, for.as_many, then.as_many, length-append some most, length-append xs ys);
          as_often = λ id. omega (
            arith,
            for.as_often id,
            then.as_often id,
            sum_by-append (λ (g : Grant). cond (g.client == id) 1 0) some most,
            sum_by-append (λ (d : Client). cond (d.id == id) 1 0) xs ys,
          );
        },
      );
    }

-- the first clients of a list, and then those after them
pub take_both : {X : Type 0} (i n : ℕ) (xs : List X) → take (i + n) xs ≡ take i xs ++ take n (drop i xs)
take_both i n xs =
    sym (take-append-drop i (take (i + n) xs)) ∙ (λ j. take-take i (i + n) xs (omega arith) j ++ drop-take i n xs j)

pub map-part : {X Y : Type 0} (f : X → Y) (i n : ℕ) (xs : List X) → map f (take n (drop i xs)) ≡ take n (drop i (map f xs))
map-part f i n xs = sym (take-map f n (drop i xs)) ∙ ap (λ (ys : List _). take n ys) (sym (drop-map f i xs))

-- clients who all come in by one entry, by their identities
pub by-run : (n entry : ℕ) (clients : List c.Client) → n ≤ length clients
    → ((i : ℕ) (d : c.Client) → i < n → (get_or clients i d).entry ≡ entry)
    → map client_from (take n clients) ≡ by_entry entry (map (λ d. d.client) (take n clients))
by-run zero entry clients few same = refl
by-run (suc n) entry [] few same = absurd (omega (arith, few))
by-run (suc n) entry (x ∷ clients) few same =
    let here : x.entry ≡ entry = same 0 x (omega arith) in
    ap (λ (k : ℕ). record { id = x.client; entry = k } ∷ map client_from (take n clients)) here
    ∙ ap (λ (ds : List Client). record { id = x.client; entry = entry } ∷ ds)
    (by-run n entry clients (omega (arith, few)) (λ i d l. same (suc i) d (omega (arith, l))))

-- the first clients of a list are named, and by runs: a lane that names the others by runs has named all by runs
pub record AreFirstNamed (old mid : LaneValue) (clients : List c.Client) (i : ℕ) : Type 0 where
  pub few : i ≤ length clients
  pub walked : WalksAll old mid (take i (map client_from clients))
  pub runs : (ns : List ℕ) (new : LaneValue) → AreNamedByRuns ns mid new (drop i clients)
      → (ms : List ℕ) × AreNamedByRuns ms old new clients
  pub in_state : 0 < i → StoodInState old.home.start mid.view

-- another run is named
pub run-more : (old mid last : LaneValue) (clients : List c.Client) (i n entry : ℕ) (ids : List ℕ)
    → AreFirstNamed old mid clients i → IsLongestRun (drop i clients) entry 64 n
    → ids ≡ map (λ d. d.client) (take n (drop i clients)) → AreNamedAtOnce mid last ids entry
    → WalksAll mid last (by_entry entry ids) → StoodInState mid.home.start last.view
    → AreFirstNamed old last clients (i + n)
run-more old mid last clients i n entry ids was run are at_once walked stood =
    let all : List Client = map client_from clients in
    let by : take n (drop i all) ≡ by_entry entry ids =
    sym (map-part client_from i n clients) ∙ by-run n entry (drop i clients) run.few.0 run.same
    ∙ ap (λ (xs : List ℕ). by_entry entry xs) (sym are) in
    let next = take_both i n all ∙ ap (λ (cs : List Client). take i all ++ cs) by in
    record {
      few = omega (arith, was.few, run.few, length-drop i clients);
      walked = subst (λ (cs : List Client). WalksAll old last cs) (sym next)
          (more old mid last (take i all) (by_entry entry ids) was.walked walked);
      runs = λ ns new then. was.runs (n ∷ ns) new (
        last,
        entry,
        run,
        subst (λ (xs : List ℕ). AreNamedAtOnce mid last xs entry) are at_once,
        subst (λ (cs : List c.Client). AreNamedByRuns ns last new cs) (sym (drop-drop n i clients)) then,
      );
      in_state = λ _. subst (λ (h : FloorValue). StoodInState h.start last.view) was.walked.home stood;
    }

pub all-named : (old new : LaneValue) (clients : List c.Client) (i : ℕ) → AreFirstNamed old new clients i
    → length clients ≤ i
    → (StoodInState old.home.start new.view → (name : ℕ) → times name (map (λ g. g.name) new.view.grants) ≤ 1)
    → AreAllNamed old new clients
all-named old new clients i was end once =
    let (lengths, runs) = was.runs [] new (drop_of_length-le clients end, refl) in
    let in_state : 0 < length clients → StoodInState old.home.start new.view =
    λ some. was.in_state (omega (arith, some, end)) in
    record {
      walked = subst (λ (cs : List Client). WalksAll old new cs)
          (take_all i (map client_from clients) (omega (arith, end, length-map clients client_from))) was.walked;
      in_state = in_state;
      runs = (old, lengths, refl, refl, refl, runs);
      once = λ some. once (in_state some);
    }

-- a lane that had less room than was wanted, and got it first, named them all
pub with-more-room : (a b : LaneValue) (clients : List c.Client) → a.room ≤ length clients
    → AreAllNamed (with_rooms (length clients) 0 a) b clients → AreAllNamed a b clients
with-more-room a b clients less is =
    let long : length (map client_from clients) ≡ length clients = length-map clients client_from in
    record {
      walked = record {
        home = is.walked.home;
        out = is.walked.out;
        quota = is.walked.quota;
        room = omega (arith, less, long, is.walked.room);
        spare = omega (arith, is.walked.spare);
        entries = is.walked.entries;
        came = is.walked.came;
        seen = is.walked.seen;
        grants = is.walked.grants;
      };
      in_state = is.in_state;
      runs = is.runs;
      once = is.once;
    }
