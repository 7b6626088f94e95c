-- A floor at the start.
use Rattle.cn_floor.proofs.Common.{◌≡◌, ℕ, zero, suc, ◌+◌, nat_tests, List, [], ◌∷◌, length, get_or, sum_by, replicate, refl, ap, arith, subst, Balancer, End, Exit, HoldsAt, IsAccounted, IsFresh, IsSound, IsStart, Network, Start, Table, View, base, clients_in, count_in, end_word, entered_in, ledger_of, length-replicate, on_in, sum-below-zero, sum_by-cons, tokens_in, word_count, opening, LeadsTo, IsCarried, empty_view, times-nil, zero_at, IsNothing, sound-nothing}
use Rattle.cn_floor.proofs.InStates.Fresh.{fresh-idle}
use Rattle.cn_floor.proofs.InStates.Kept.{Measure, each-joined, ledger-alike, weight}
use Rattle.cn_floor.proofs.InStates.Totals.{each-one}
use Rattle.cn_floor.proofs.InStates.Accounts.{no-levels}

-- ---- words that are all 0

module _ (t : Table) where
  abbrev zeros : List ℕ
  zeros = replicate (word_count t) 0

  pub none-entered : (u : ℕ) → entered_in t zeros u ≡ 0
  none-entered u = let none = zero_at (word_count t) (1 + u) in grind (arith, nat_tests)

  pub none-counted : (end : End) → count_in t zeros end ≡ 0
  none-counted (Balancer b) = let none = zero_at (word_count t) (end_word t (Balancer b)) in grind (arith, nat_tests)
  none-counted (Exit i) = let none = zero_at (word_count t) (end_word t (Exit i)) in grind (arith, nat_tests)

  nobody : IsNothing (ledger_of t zeros zeros [])
  nobody = record {
    entered = none-entered;
    count = none-counted;
    on = λ u. refl;
    standing = λ u c. refl;
    given = λ end n. let none = none-counted end in grind (arith, nat_tests);
    granted = λ c i v name. let none = none-counted (Exit i) in grind (arith, nat_tests);
  }

  -- words that are all 0 may be carried, and nobody came
  pub none-came : clients_in t zeros ≡ 0
  none-came = sum-below-zero t.entries (entered_in t zeros) none-entered

  pub carries-nothing : IsCarried t zeros
  carries-nothing = record {
    words = length-replicate (word_count t) 0;
    lanes = zero_at (word_count t) 0;
    sound = sound-nothing t (ledger_of t zeros zeros []) nobody;
  }

-- ---- one lane that has done nothing

no-tokens : (n i : ℕ) → ◌≡◌ {A = List (ℕ × ℕ)} (get_or (replicate n []) i []) []
no-tokens zero i = refl
no-tokens (suc n) zero = refl
no-tokens (suc n) (suc i) = no-tokens n i

module _ (start : Start) (quota : ℕ) where
  abbrev v : View
  v = empty_view start quota

  pub on-new : (u : ℕ) → on_in u v ≡ 0
  on-new u = ap length (no-tokens (length start.network.table.ends) u)

  -- it adds nothing
  pub none-new : (m : ℕ) (k : Measure) → weight m k v ≡ 0
  none-new m k = omega (
    arith,
    each-joined v v v.tokens (λ f u. omega (arith, ap (sum_by f) (no-tokens (length start.network.table.ends) u))) m k,
  )

  pub accounted-new : (network : Network) → IsAccounted network v
  accounted-new network =
      let none : tokens_in v.tokens ≡ 0 = sum-below-zero (length v.tokens) (λ u. on_in u v) on-new in
      record {
        all = omega (arith, none);
        entries = λ k d less. absurd (omega arith);
        walked = λ level is. omega (arith, no-levels level v none);
      }

-- a floor may begin with words that it may carry
pub begins : (start : Start) → IsStart start → HoldsAt start (opening start.words [] (empty_view start start.quota))
unfolding LeadsTo
begins start is =
    let v : View = empty_view start start.quota in
    let ledger = ledger-alike start.network.table start.words start.words [] (v ∷ [])
    (λ k. omega (arith, none-new start start.quota (base start) k, sum_by-cons (weight (base start) k) v [])) in
    record {
      began = is;
      rule = record {
        words = is.carried.words;
        lanes = is.carried.lanes;
        sound = subst (IsSound start.network.table) ledger is.carried.sound;
        reached = ([], ledger);
        entered = λ u l. omega (arith, times-nil u);
        accounted = each-one (IsAccounted start.network) v (accounted-new start start.quota start.network);
        fresh = each-one (IsFresh start start.words) v
            (fresh-idle start start.words v refl (omega arith) (omega arith) (λ k d less. absurd (omega arith)));
        quotas = omega arith;
      };
    }
