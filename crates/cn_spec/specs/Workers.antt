-- Within which limits an epoch has workers, and each of them tokens in hand.
use Rattle.std.specs.Prelude.{ℕ, ◌≤◌}
use Rattle.cn_spec.specs.declared.limits.TheConstants.{MOST_HAND, MOST_WORKERS}

-- an epoch may have so many workers
abbrev pub WorkersFit : ℕ → Type 0
WorkersFit workers = (1 ≤ workers) × (workers ≤ MOST_WORKERS)

-- a worker may have so many tokens in hand
abbrev pub HandFits : ℕ → Type 0
HandFits hand = (1 ≤ hand) × (hand ≤ MOST_HAND)
