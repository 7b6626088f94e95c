use Rattle.cn_lists.proofs.Common.{◌≡◌, ℕ, ◌+◌, ◌++◌, List, length, vec_capacity, grants_out, Grant, AreNoted, gone_too, placed}
use Rattle.cn_lists.proofs.listed.PlacesPartyGranting.leave.Given as goal

abbrev pub invariant-loop-number : goal.invariant-loop-number
invariant-loop-number l = record {
  noted : (before now : List Grant) (gone : ℕ → ℕ) → AreNoted before now gone l.clients l.initial.grants.items l.initial.list.names.now
      → AreNoted before (now ++ grants_out l.width l.base l.exit l.first (placed l.clients l.self.first l.self.gap l.number))
      (gone_too gone (placed l.clients l.self.first l.self.gap l.number)) l.clients l.grants.items l.list.names.now;
  kept : (l.list.clients ≡ l.initial.list.clients) × (l.list.names.ghost_name ≡ l.initial.list.names.ghost_name)
      × (length l.list.names.now ≡ length l.initial.list.names.now);
  many : length l.grants.items ≡ length l.initial.grants.items + l.number;
  capacity : vec_capacity l.grants ≡ vec_capacity l.initial.grants;
}
