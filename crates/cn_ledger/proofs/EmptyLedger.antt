-- Where nobody has come, the ledger is sound.
use Rattle.cn_ledger.proofs.Common.{◌≡◌, ℕ, ◌-◌, ◌/◌, cond, sym, refl, ap, arith, ◌∙◌, nat_tests, le-ltb, name_of, sum-below-zero, total-where-agree, total-where-zero, End, Balancer, Exit, Table, is_end, Ledger, IsSound, put, empty_ledger}

-- nothing came in, went by, stands there or was given
pub record IsNothing (l : Ledger) : Type 0 where
  pub entered : (e : ℕ) → l.entered e ≡ 0
  pub count : (end : End) → l.count end ≡ 0
  pub on : (u : ℕ) → l.on u ≡ 0
  pub standing : (u c : ℕ) → l.standing u c ≡ 0
  pub given : (end : End) (n : ℕ) → l.given end n ≡ 0
  pub granted : (c i v name : ℕ) → l.granted c i v name ≡ 0

put-nothing : (t : Table) (l : Ledger) → IsNothing l → (u : ℕ) → put t l u ≡ 0
put-nothing t l none u = grind (arith, nat_tests, none.entered u, none.count (Balancer ((u - t.entries) / 2)))

pub sound-nothing : (t : Table) (l : Ledger) → IsNothing l → IsSound t l
sound-nothing t l none = record {
  balanced = λ end h. omega (
    arith,
    none.count end,
    total-where-zero (is_end end) t.ends,
    total-where-agree (is_end end) t.ends (Balancer 0) (put t l) (λ _. 0) (λ u k e. put-nothing t l none u),
    total-where-agree (is_end end) t.ends (Balancer 0) l.on (λ _. 0) (λ u k e. none.on u),
  );
  clients = λ u. (0, λ k h. sum-below-zero k (l.standing u) (none.standing u) ∙ sym (none.on u));
  numbered = λ end n h. rw (none.given end n, none.count end) (sym (ap {B = ℕ} (λ q. cond q 1 0) (le-ltb n 0 (omega arith))));
  named = λ c i v name g. absurd (omega (arith, none.granted c i v name));
  once = λ c i v name. omega (arith, none.granted c i v name);
  distinct = λ c d i v differ. omega (arith, none.granted c i v (name_of t.width i v), none.granted d i v (name_of t.width i v));
  owned = λ i v h g. absurd (omega (arith, none.given (Exit i) v));
}

pub sound_empty : (t : Table) → IsSound t empty_ledger
sound_empty t = sound-nothing t empty_ledger
    (record {
      entered = λ e. refl;
      count = λ end. refl;
      on = λ u. refl;
      standing = λ u c. refl;
      given = λ end n. refl;
      granted = λ c i v name. refl;
    })
