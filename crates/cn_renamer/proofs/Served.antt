-- The record of an epoch that was run.
use Rattle.cn_renamer.proofs.Common.{◌≡◌, ℕ, ◌+◌, ◌-◌, ◌^◌, ◌<◌, ◌≤◌, Global, List, Vec, ap, get_or, length, map, refl, sym, ◌∙◌, arith, true, same_number_lists, get_or-map, length-map, get_or-range_with_len, length-map-range_with_len, shares_after, times, MOST_ENDS, Client, Network, EpochRecord, WordsValue, client_count, ListsHolders, QuietValue, counts_by_exit, IsRunAfter, AreFor, AreInOrder, bounds_of, MayCome, BatchEpoch, IsOfFloor, IsServed}
use Rattle.std.specs.List.Sorted.{IsPermutation}
use Rattle.std.proofs.lemmas.List.Sorted.{IsPermutation-trans}
use Rattle.cn_spec.proofs.CallerLemmas.{order-times, times-map, times-order}
use Rattle.cn_floor.specs.declared.view.Grant.{Grant}

-- what has risen at an exit's word
abbrev risen : QuietValue → ℕ → ℕ
risen q i = let first : ℕ = 1 + q.start.network.table.entries + q.start.network.table.balancers in
    get_or q.words (first + i) 0 - get_or q.start.words (first + i) 0

-- the clients that came hold the names, one each
module _ (clients : List Client) (grants : List Grant) (theirs : AreFor clients grants) (holders : List ℕ)
    (lists : ListsHolders grants holders) where
  abbrev ids : List ℕ
  ids = map (λ (c : Client). c.id) clients

  pub own : IsPermutation ids holders
  own =
      let granted : List ℕ = map (λ (g : Grant). g.client) grants in
      let same : IsPermutation ids granted = order-times ids granted
      (λ n. times-map (λ (c : Client). c.id) n clients ∙ sym (theirs.as_often n)
      ∙ sym (times-map (λ (g : Grant). g.client) n grants)) in
      IsPermutation-trans ids granted holders same lists.own

  -- and where no client came twice, none holds two
  pub once : ((client : ℕ) → times client ids ≤ 1) → (client : ℕ) → times client holders ≤ 1
  once come client = omega (arith, times-order ids holders client own, come client)

-- a list as a vector has it; where that would lie does not matter
abbrev vector-of : {X : Type 0} → Vec X Global → (ns : List ℕ) → length ns < 2 ^ 63 → Vec ℕ Global
vector-of v ns few = record {
  ptr = v.ptr;
  len = length ns;
  cap = length ns;
  alloc = v.alloc;
  items = ns;
  ok = (refl, omega arith);
  small = few;
}

-- the record of an epoch whose clients walked on a floor, and of its floor; these hold its names
pub record IsMadeOf (w m : ℕ) (epoch : BatchEpoch) (floor : QuietValue) (holders : List ℕ) : Type 0 where
  pub made : EpochRecord
  pub served : IsServed w m epoch made
  pub on : IsOfFloor floor made
  pub listed : made.holders.items ≡ holders

-- if m clients came before it, such a record is that of the epoch, served after them
pub made-of : (entries w m : ℕ) (epoch : BatchEpoch) (before : WordsValue) (floor : QuietValue) (holders : List ℕ)
    → MayCome (bounds_of true entries) epoch.clients.items
    → before.network.table.width ≡ w → client_count before ≡ m → w ≤ MOST_ENDS → IsRunAfter before epoch.clients.items floor
    → ListsHolders floor.did.grants holders
    → IsMadeOf w m epoch floor holders
made-of entries w m epoch before floor holders come wide after narrow run lists =
    let counts : List ℕ = counts_by_exit floor.start floor.words in
    let exits : length counts ≡ w = length-map-range_with_len (risen floor) 0 floor.start.network.table.width
    ∙ ap (λ (n : Network). n.table.width) run.over ∙ wide in
    let many : length holders < 2 ^ 63 = omega (arith, lists.all, run.theirs.as_many, come.few) in
    let clients : List Client = epoch.clients.items in
    record {
      made = record {
        number = epoch.number;
        clients = length clients;
        counts = vector-of epoch.clients counts (omega (arith, exits, narrow));
        holders = vector-of epoch.clients holders many;
      };
      served = record {
        number = refl;
        clients = refl;
        counts = run.counts ∙ (λ x. shares_after (after x) (length clients) (wide x));
        holders = own clients floor.did.grants run.theirs holders lists;
        once = once clients floor.did.grants run.theirs holders lists come.once;
      };
      on = record { counts = refl; holders = lists };
      listed = refl;
    }

-- clients who got the names from 0 up in their order hold them so
pub held-in-order : (clients : List Client) (grants : List Grant) (holders : List ℕ) → AreInOrder 0 clients grants
    → ListsHolders grants holders → holders ≡ map (λ (c : Client). c.id) clients
held-in-order clients grants holders order lists =
    let client : Grant → ℕ = λ g. g.client in
    let name : Grant → ℕ = λ g. g.name in
    let d : Grant = record { client = 0; exit = 0; visit = 0; name = 0 } in
    let many : length grants ≡ length clients =
    sym (length-map grants client) ∙ ap (λ (xs : List ℕ). length xs) order.clients_are ∙ length-map clients (λ (c : Client). c.id) in
    same_number_lists holders (map client grants) (lists.all ∙ sym (length-map grants client)) (λ k low.
    let less : k < length grants = omega (arith, low, lists.all) in
    let at : (get_or grants k d).name ≡ k =
    sym (get_or-map name grants k d 0 less) ∙ ap (λ (ns : List ℕ). get_or ns k 0) order.names_are
    ∙ get_or-range_with_len 0 (length clients) k 0 (omega (arith, less, many)) ∙ omega arith in
    ap (λ (n : ℕ). get_or holders n 0) (sym at) ∙ lists.by_name k d less ∙ sym (get_or-map client grants k d 0 less))
    ∙ order.clients_are
