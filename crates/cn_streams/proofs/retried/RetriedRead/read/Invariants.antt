use Rattle.std.proofs.Common.{◌≡◌, length}
use Rattle.std.specs.Io.KnownBytes.{Keeps}
use Rattle.cn_streams.proofs.retried.RetriedRead.read.Given as goal

-- what is left to be read is as it was
abbrev pub invariant-loop : goal.invariant-loop
invariant-loop g l = (length l.bytes ≡ length l.initial.bytes)
    × Keeps (g.R.Read.remaining l.initial.self.stream) (g.R.Read.remaining l.self.stream)
