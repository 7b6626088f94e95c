use Rattle.cn_floor.proofs.Common.{◌≡◌, ℕ, ◌-◌, ◌<◌, ◌≤◌, length, slice_index}
use Rattle.cn_floor.proofs.floor.reading.rise.Given as goal

abbrev pub invariant-loop-i : goal.invariant-loop-i
invariant-loop-i l =
    (length l.before.items ≡ length l.words)
    × ((k : ℕ) → k < l.i → slice_index l.before.items k ≡ slice_index l.words k - slice_index l.fn.before.items k)
    × ((k : ℕ) → l.i ≤ k → slice_index l.before.items k ≡ slice_index l.fn.before.items k)
