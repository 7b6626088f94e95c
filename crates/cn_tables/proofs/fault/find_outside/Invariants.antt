use Rattle.cn_tables.proofs.Common.{ℕ, ◌<◌, slice_index, IsWithin}
use Rattle.cn_tables.proofs.fault.find_outside.Given as goal

abbrev pub invariant-loop-place : goal.invariant-loop-place
invariant-loop-place l = (k : ℕ) → k < l.place → IsWithin l.fn.least l.fn.most (slice_index l.counts k)
