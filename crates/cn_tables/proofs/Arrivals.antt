-- Counting the wires that end at each balancer and exit.
use Rattle.cn_tables.proofs.Common.{◌≡◌, ℕ, ◌+◌, ◌<◌, false, eqb, List, ◌^◌, replicate, length, get_or, set, take, ◌∙◌, arith, length-set, get_or-set_same, get_or-set_other, nat_tests, take_more, length-replicate, get_or-replicate, length-take-le, End, Balancer, Exit, total_where, is_end, total-where-le, total-where-more}

-- how many of the first i wires end at each of n places, which are balancers or exits
pub record Counts (place : ℕ → End) (n : ℕ) (ends : List End) (counts : List ℕ) (i : ℕ) : Type 0 where
  pub len : length counts ≡ n
  pub each : (k : ℕ) → k < n → get_or counts k 0 ≡ total_where (is_end (place k)) (take i ends) (λ _. 1)

-- how many of the first i wires end at each balancer, and at each exit
abbrev pub Counted : ℕ → ℕ → List End → List ℕ → List ℕ → ℕ → Type 0
Counted balancers width ends bs xs i = Counts Balancer balancers ends bs i × Counts Exit width ends xs i

pub counts-none : (place : ℕ → End) (n : ℕ) (ends : List End) → Counts place n ends (replicate n 0) 0
unfolding total_where
counts-none place n ends = record { len = length-replicate n 0; each = λ k h. get_or-replicate n k 0 0 h }

module _ {n : ℕ} {ends : List End} {counts : List ℕ} {i : ℕ} (place : ℕ → End) (h : i < length ends) where
  -- the next wire ends at place c
  pub counts-here : (c : ℕ) → ((k : ℕ) → is_end (place k) (place c) ≡ eqb c k) → get_or ends i (Balancer 0) ≡ place c → c < n
      → Counts place n ends counts i → Counts place n ends (set counts c (get_or counts c 0 + 1)) (i + 1)
  counts-here c same e k l = record {
    len = length-set counts c (get_or counts c 0 + 1) ∙ l.len;
    each = λ b m.
        rw (take_more ends i (Balancer 0) h, e, total-where-more (is_end (place b)) (take i ends) (place c), same b)
        (let here : c < length counts = omega (arith, l.len) in
        grind (
          arith,
          nat_tests,
          l.each b m,
          get_or-set_same counts c (get_or counts c 0 + 1) 0 here,
          get_or-set_other counts c b (get_or counts c 0 + 1) 0,
        ));
  }

  -- the next wire ends elsewhere
  pub counts-elsewhere : (end : End) → ((k : ℕ) → is_end (place k) end ≡ false) → get_or ends i (Balancer 0) ≡ end
      → Counts place n ends counts i → Counts place n ends counts (i + 1)
  counts-elsewhere end other e l = record {
    len = l.len;
    each = λ k m.
        rw (take_more ends i (Balancer 0) h, e, total-where-more (is_end (place k)) (take i ends) end, other k)
        (omega (arith, l.each k m));
  }

  -- a count is below 2 ^ 32 where the list is
  pub counts-fit : length ends < 2 ^ 32 → Counts place n ends counts i → (k : ℕ) → k < n → get_or counts k 0 + 1 < 2 ^ 32
  counts-fit long l k m =
      let few = length-take-le i ends (omega arith) in omega (arith, l.each k m, total-where-le (is_end (place k)) (take i ends))
