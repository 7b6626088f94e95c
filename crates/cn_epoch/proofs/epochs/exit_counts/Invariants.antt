use Rattle.cn_epoch.proofs.Common.{◌≡◌, ◌+◌, ◌<◌, ◌≤◌, ℕ, slice_index, vec_capacity, vec_len, share}
use Rattle.cn_epoch.proofs.epochs.exit_counts.Given as goal

-- the counts of the exits before
abbrev pub invariant-loop-exit : goal.invariant-loop-exit
invariant-loop-exit l = record {
  so_far : vec_len l.counts ≡ l.exit;
  room : l.width ≤ vec_capacity l.counts;
  counted : (i : ℕ) → i < l.exit → slice_index l.counts.items i + share l.core.base l.core.network.table.width i
      ≡ slice_index l.core.visits i;
}
