use Rattle.cn_floor.proofs.Common.{◌≡◌, spread}
use Rattle.cn_floor.proofs.InStates.Spreads.{laid}
use Rattle.cn_floor.proofs.floor.counters.spreading.lay.Given as goal

-- the words so far are laid
abbrev pub invariant-loop-word : goal.invariant-loop-word
invariant-loop-word l = l.spaced ≡ spread l.stride (laid l.word l.words)
