-- What a post keeps, also after a step.
use Rattle.cn_floor.proofs.Common.{◌≡◌, ℕ, zero, suc, ◌+◌, ◌≤◌, ◌++◌, List, [], length, sym, ap, ◌∙◌, arith, slice_index, Start, View, after_enter, last_on, length-map-range_with_len, on, after_enters}
use Rattle.cn_floor.specs.declared.floor.post.Post.TheInside.{Inside}
use Rattle.cn_floor.specs.InsidePost.{IsPost}

-- a post that steps keeps its floor and its wires, and loads nothing
pub post-kept : (old new : Inside) (w : View) → IsPost old → new.seat.me.1 ≡ [] → new.seat.me.0 ≡ w → w.start ≡ old.seat.me.0.start
    → w.loads ≡ old.seat.me.0.loads → length w.tokens ≡ length old.seat.me.0.tokens → new.quota ≡ w.quota → IsPost new
post-kept old new w kept no_slot is start loads wires quota = record {
  no_slot = no_slot;
  idle = ap (λ (x : View). x.loads) is ∙ loads ∙ kept.idle;
  wires = ap (λ (x : View). length x.tokens) is ∙ wires ∙ kept.wires
      ∙ ap (λ (s : Start). length s.network.table.ends) (sym start ∙ sym (ap (λ (x : View). x.start) is));
  quota = quota ∙ sym (ap (λ (x : View). x.quota) is);
}

-- a client that comes in leaves as many wires
pub entered-wires : (token client entry : ℕ) (v : View) → length (after_enter token client entry v).tokens ≡ length v.tokens
entered-wires token client entry v = length-map-range_with_len (λ u. on v.tokens u ++ last_on token client entry u) 0 (length v.tokens)

-- clients who come in one after the other take as much quota, and leave this as it was
pub record HasKept (v w : View) (n : ℕ) : Type 0 where
  pub start : w.start ≡ v.start
  pub loads : w.loads ≡ v.loads
  pub wires : length w.tokens ≡ length v.tokens
  pub quota : w.quota + n ≡ v.quota

pub kept-by-all : (clients : List ℕ) (entry place n : ℕ) (v : View) → n ≤ v.quota → HasKept v (after_enters clients entry place n v) n
unfolding after_enters
kept-by-all clients entry place zero v enough = search arith
kept-by-all clients entry place (suc n) v enough =
    let later = kept-by-all clients entry (suc place) n (after_enter place (slice_index clients place) entry v) (omega (arith, enough)) in
    let wires = entered-wires place (slice_index clients place) entry v in
    search arith
