-- The floors on which the clients of a run walked.
use Rattle.cn_renamer.proofs.Common.{◌≡◌, ℕ, ◌+◌, ◌≤◌, All, Bool, true, false, ap, List, [], ◌∷◌, ◌++◌, length, refl, subst, sym, arith, append-nil, ◌∙◌, AllZip, flat_map, drop_at, take_at, All-head, All-tail, sum_by-cons, when, MOST_ENDS, Network, EpochRecord, WordsValue, client_count, words_before, ListsHolders, QuietValue, RunnerValue, next_runner, next_words, IsRunAfter, Crew, bounds_of, MayCome, clients_of_epochs, BatchEpoch, AreRecordsOf, AreOfRunner, HaveWalked, IsOfFloor, WalkedOn, runner_after, AreServed, ids_of, of_one_worker}
use Rattle.std.proofs.lemmas.List.Concat.{flat_map-append}
use Rattle.cn_renamer.proofs.Served.{IsMadeOf, made-of}

-- ---- one after another

zip-both : {A B : Type 0} (R : A → B → Type 0) (xs : List A) (ys : List B) (us : List A) (vs : List B) → AllZip R xs ys → AllZip R us vs
    → AllZip R (xs ++ us) (ys ++ vs)
zip-both R [] [] us vs one other = other
zip-both R (x ∷ xs) (y ∷ ys) us vs (first, rest) other = (first, zip-both R xs ys us vs rest other)
zip-both R xs ys us vs one other = absurd one

began-both : (runner : RunnerValue) (fs gs : List QuietValue) → AreOfRunner runner fs → AreOfRunner (runner_after runner fs) gs
    → AreOfRunner runner (fs ++ gs)
unfolding AreOfRunner
began-both runner [] gs one other = other
began-both runner (f ∷ fs) gs (first, rest) other = (first, began-both (next_runner runner f) fs gs rest other)

pub after-both : (runner : RunnerValue) (fs gs : List QuietValue)
    → runner_after runner (fs ++ gs) ≡ runner_after (runner_after runner fs) gs
after-both runner [] gs = refl
after-both runner (f ∷ fs) gs = after-both (next_runner runner f) fs gs

-- without carry the runner stays as it was
pub stays : (words : WordsValue) (floors : List QuietValue)
    → runner_after (record { words = words; carries = false }) floors ≡ record { words = words; carries = false }
stays words [] = refl
stays words (f ∷ floors) = stays words floors

-- nobody has walked
pub none-walked : (crew : Crew) (runner : RunnerValue) → HaveWalked crew runner [] [] []
unfolding AreOfRunner
none-walked crew runner = record { began = tt; walked = tt; lists = []; listed = tt; all = refl; in_order = λ worker hand. refl }

-- one epoch has
pub one-walked : (crew : Crew) (runner : RunnerValue) (epoch : BatchEpoch) (floor : QuietValue) (holders : List ℕ)
    → IsRunAfter runner.words epoch.clients.items floor → ListsHolders floor.did.grants holders
    → (crew.workers ≡ 1 → crew.hand ≡ 1 → holders ≡ ids_of epoch) → HaveWalked crew runner (epoch ∷ []) (floor ∷ []) holders
unfolding AreOfRunner
one-walked crew runner epoch floor holders run lists order =
    let began : words_before floor.start ≡ runner.words =
    λ i. record { network = run.over i; words = run.after i; stride = run.stride i } in
    record {
      began = (began, tt);
      walked = (subst (λ (w : WordsValue). IsRunAfter w epoch.clients.items floor) (sym began) run, tt);
      lists = holders ∷ [];
      listed = (lists, tt);
      all = sym (append-nil holders);
      in_order = λ worker hand. order worker hand ∙ sym (append-nil (ids_of epoch));
    }

-- some have, and then others; if one worker with one client in hand did it, so did both crews
pub walked-both : (crew one other : Crew) (runner : RunnerValue) (first second : List BatchEpoch) (fs gs : List QuietValue) (xs ys : List ℕ)
    → HaveWalked one runner first fs xs → HaveWalked other (runner_after runner fs) second gs ys
    → (crew.workers ≡ 1 → crew.hand ≡ 1 → (one.workers ≡ 1) × (one.hand ≡ 1) × (other.workers ≡ 1) × (other.hand ≡ 1))
    → HaveWalked crew runner (first ++ second) (fs ++ gs) (xs ++ ys)
walked-both crew one other runner first second fs gs xs ys a b sole = record {
  began = began-both runner fs gs a.began b.began;
  walked = zip-both WalkedOn first fs second gs a.walked b.walked;
  lists = a.lists ++ b.lists;
  listed = zip-both (λ (f : QuietValue) (list : List ℕ). ListsHolders f.did.grants list) fs a.lists gs b.lists a.listed b.listed;
  all = (λ i. a.all i ++ b.all i) ∙ sym (flat_map-append (λ (list : List ℕ). list) a.lists b.lists);
  in_order = λ worker hand.
      let both = sole worker hand in
      (λ i. a.in_order both.0 both.1 i ++ b.in_order both.2 both.3 i) ∙ sym (flat_map-append ids_of first second);
}

-- without carry others have that began as they did, each epoch by one worker; in as many hands, so have both
pub beside : (crew one other : Crew) (words : WordsValue) (epochs first second : List BatchEpoch) (fs gs : List QuietValue) (xs ys : List ℕ)
    → epochs ≡ first ++ second
    → one.hand ≡ crew.hand → other.hand ≡ crew.hand
    → HaveWalked (of_one_worker one) (record { words = words; carries = false }) first fs xs
    → HaveWalked (of_one_worker other) (record { words = words; carries = false }) second gs ys
    → HaveWalked (of_one_worker crew) (record { words = words; carries = false }) epochs (fs ++ gs) (xs ++ ys)
beside crew one other words epochs first second fs gs xs ys both left right a b =
    let runner : RunnerValue = record { words = words; carries = false } in
    subst (λ (es : List BatchEpoch). HaveWalked (of_one_worker crew) runner es (fs ++ gs) (xs ++ ys)) (sym both)
    (walked-both (of_one_worker crew) (of_one_worker one) (of_one_worker other) runner first second fs gs xs ys a
    (subst (λ (r : RunnerValue). HaveWalked (of_one_worker other) r second gs ys) (sym (stays words fs)) b)
    (λ worker hand. (refl, left ∙ hand, refl, right ∙ hand)))

one-held : (epoch : BatchEpoch) (floors : List QuietValue) (lists : List (List ℕ)) (holders : List ℕ) → AllZip WalkedOn (epoch ∷ []) floors
    → AllZip (λ (f : QuietValue) (list : List ℕ). ListsHolders f.did.grants list) floors lists
    → holders ≡ flat_map (λ (list : List ℕ). list) lists
    → length holders ≡ length epoch.clients.items
one-held epoch (f ∷ []) (h ∷ []) holders walked listed all =
    rw (all, append-nil) (listed.0.all ∙ walked.0.theirs.as_many)
one-held epoch floors lists holders walked listed all = search

-- as many hold names as came
pub many-held : (crew : Crew) (runner : RunnerValue) (epoch : BatchEpoch) (floors : List QuietValue) (holders : List ℕ)
    → HaveWalked crew runner (epoch ∷ []) floors holders
    → length holders ≡ length epoch.clients.items
many-held crew runner epoch floors holders walked = one-held epoch floors walked.lists holders walked.walked walked.listed walked.all

-- ---- the runner's words

next-network : (carry : Bool) (words : WordsValue) (floor : QuietValue) → words_before floor.start ≡ words
    → (next_words carry words floor).network ≡ words.network
next-network carry words floor began = grind arith

next-few : (carry : Bool) (words : WordsValue) (epoch : BatchEpoch) (floor : QuietValue) → words_before floor.start ≡ words
    → WalkedOn epoch floor
    → client_count (next_words carry words floor) ≤ client_count words + length epoch.clients.items
next-few carry words epoch floor began walked = let same = ap client_count began in grind arith

-- they are of its network, and count no more than came
pub same-network : (runner : RunnerValue) (floors : List QuietValue) → AreOfRunner runner floors
    → (runner_after runner floors).words.network ≡ runner.words.network
unfolding AreOfRunner
same-network runner [] began = refl
same-network runner (f ∷ floors) (first, rest) =
    same-network (next_runner runner f) floors rest ∙ next-network runner.carries runner.words f first

pub few-came : (runner : RunnerValue) (epochs : List BatchEpoch) (floors : List QuietValue) → AreOfRunner runner floors
    → AllZip WalkedOn epochs floors
    → client_count (runner_after runner floors).words ≤ client_count runner.words + clients_of_epochs epochs
unfolding AreOfRunner
few-came runner [] [] began walked = omega arith
few-came runner (e ∷ epochs) (f ∷ floors) (first, began) (one, rest) =
    omega (
      arith,
      few-came (next_runner runner f) epochs floors began rest,
      next-few runner.carries runner.words e f first one,
      sum_by-cons (λ (x : BatchEpoch). length x.clients.items) e epochs,
    )
few-came runner epochs floors began walked = absurd walked

-- ---- the records

-- records of these epochs, and of these floors, that are made of the list of all holders
pub record AreMadeOf (carry : Bool) (w m : ℕ) (epochs : List BatchEpoch) (floors : List QuietValue) (holders : List ℕ) : Type 0 where
  pub records : List EpochRecord
  pub served : AreServed carry w m epochs records
  pub on : AllZip IsOfFloor floors records
  pub are : AreRecordsOf carry w m epochs records holders

next-came : (carry : Bool) (words : WordsValue) (m : ℕ) (epoch : BatchEpoch) (floor : QuietValue) → words_before floor.start ≡ words
    → WalkedOn epoch floor → client_count words ≡ m → when carry m ≡ m
    → client_count (next_words carry words floor) ≡ when carry (m + length epoch.clients.items)
next-came carry words m epoch floor began walked count none = let same = ap client_count began in grind arith

when-again : (carry : Bool) (n : ℕ) → when carry (when carry n) ≡ when carry n
when-again carry n = grind arith

pub when-zero : (carry : Bool) → when carry 0 ≡ 0
when-zero carry = grind arith

pub records-made : (carry : Bool) (entries w m : ℕ) (words : WordsValue) (epochs : List BatchEpoch) (floors : List QuietValue)
    (lists : List (List ℕ))
    → words.network.table.width ≡ w → client_count words ≡ m → when carry m ≡ m → w ≤ MOST_ENDS
    → All (λ (e : BatchEpoch). MayCome (bounds_of true entries) e.clients.items) epochs
    → AreOfRunner (record { words = words; carries = carry }) floors → AllZip WalkedOn epochs floors
    → AllZip (λ (f : QuietValue) (list : List ℕ). ListsHolders f.did.grants list) floors lists
    → AreMadeOf carry w m epochs floors (flat_map (λ (list : List ℕ). list) lists)
unfolding AreOfRunner AreServed AreRecordsOf
records-made carry entries w m words [] [] [] wide count none narrow come began walked listed =
    record { records = []; served = tt; on = tt; are = tt }
records-made carry entries w m words (e ∷ epochs) (f ∷ floors) (h ∷ lists) wide count none narrow come (first, began) (one, walked)
    (lists_it, listed) =
    let k : ℕ = length e.clients.items in
    let tail : List ℕ = flat_map (λ (list : List ℕ). list) lists in
    let many : length h ≡ k = lists_it.all ∙ one.theirs.as_many in
    let run = rw first at one in
    let its : IsMadeOf w m e f h = made-of entries w m e words f h
    (All-head (λ (x : BatchEpoch). MayCome (bounds_of true entries) x.clients.items) e epochs come) wide count narrow run lists_it in
    let others : AreMadeOf carry w (when carry (m + k)) epochs floors tail =
    records-made carry entries w (when carry (m + k)) (next_words carry words f) epochs floors lists
    (ap (λ (n : Network). n.table.width) (next-network carry words f first) ∙ wide)
    (next-came carry words m e f first one count none)
    (when-again carry (m + k)) narrow (All-tail (λ (x : BatchEpoch). MayCome (bounds_of true entries) x.clients.items) e epochs come) began
    walked listed in
    record {
      records = its.made ∷ others.records;
      served = (its.served, others.served);
      on = (its.on, others.on);
      are = (
        record {
          number = its.served.number;
          clients = its.served.clients;
          counts = its.served.counts;
          holders = its.listed ∙ sym (take_at h tail k many);
        },
        rw (drop_at h tail k many) others.are,
      );
    }
records-made carry entries w m words epochs floors lists wide count none narrow come began walked listed = search
