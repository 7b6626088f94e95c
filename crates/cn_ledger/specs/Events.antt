-- The events of a ledger, as relations between the ledgers before and after: the moves of tokens, each one atomic step
-- (Aspnes, Herlihy, Shavit, JACM 1994, section 2.1).
use Rattle.std.specs.Prelude.{◌≡◌, ℕ, ◌+◌, ◌%◌, ◌<◌, ◌==◌, ◌&&◌, length}
use Rattle.cn_spec.specs.Step.{name_of}
use Rattle.cn_spec.specs.Sums.{when}
use Rattle.cn_tables.specs.declared.end.End.{End}
use Rattle.cn_tables.specs.declared.end.End.TheVariants.{Balancer, Exit}
use Rattle.cn_tables.specs.Table.{Table, end_of, is_end, output_wire}
use Rattle.cn_ledger.specs.Ledger.{Ledger}

-- 1 at w, and otherwise 0
abbrev pub one_at : ℕ → ℕ → ℕ
one_at w u = when (w == u) 1

-- client c comes in by entry u
pub record Enters (t : Table) (old new : Ledger) (c u : ℕ) : Type 0 where
  pub inside : u < t.entries
  pub entered : (e : ℕ) → new.entered e ≡ old.entered e + one_at u e
  pub count : (end : End) → new.count end ≡ old.count end
  pub on : (wire : ℕ) → new.on wire ≡ old.on wire + one_at u wire
  pub standing : (wire d : ℕ) → new.standing wire d ≡ old.standing wire d + when ((u == wire) && (c == d)) 1
  pub given : (end : End) (n : ℕ) → new.given end n ≡ old.given end n
  pub granted : (d i v name : ℕ) → new.granted d i v name ≡ old.granted d i v name

-- client c goes from wire u by its end, and is put on each wire as often as `to` says: what passages and leaves have
-- in common
pub record Goes (t : Table) (old new : Ledger) (c u : ℕ) (end : End) (to : ℕ → ℕ) : Type 0 where
  pub inside : u < length t.ends
  pub ends : end_of t u ≡ end
  pub entered : (e : ℕ) → new.entered e ≡ old.entered e
  pub count : (other : End) → new.count other ≡ old.count other + when (is_end end other) 1
  pub on : (wire : ℕ) → new.on wire + one_at u wire ≡ old.on wire + to wire
  pub standing : (wire d : ℕ) → new.standing wire d + when ((u == wire) && (c == d)) 1
      ≡ old.standing wire d + when (c == d) (to wire)
  -- the count is the number that is given
  pub given : (other : End) (n : ℕ) → new.given other n
      ≡ old.given other n + when (is_end end other && (old.count end == n)) 1

-- client c passes balancer b from wire u, and stands on the balancer's next output
pub record Passes (t : Table) (old new : Ledger) (c u b : ℕ) : Type 0 where
  pub goes : Goes t old new c u (Balancer b) (one_at (output_wire t b (old.count (Balancer b) % 2)))
  pub granted : (d i v name : ℕ) → new.granted d i v name ≡ old.granted d i v name

-- client c leaves by exit i from wire u, and is granted the exit's next visit and its name
pub record Leaves (t : Table) (old new : Ledger) (c u i : ℕ) : Type 0 where
  pub goes : Goes t old new c u (Exit i) (λ _. 0)
  pub granted : (d j v name : ℕ) → new.granted d j v name
      ≡ old.granted d j v name
      + when ((c == d) && ((i == j) && ((old.count (Exit i) == v)
      && (name_of t.width i (old.count (Exit i)) == name)))) 1
