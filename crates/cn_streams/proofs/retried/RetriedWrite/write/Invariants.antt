use Rattle.std.specs.Io.KnownBytes.{Keeps}
use Rattle.cn_streams.proofs.retried.RetriedWrite.write.Given as goal

-- what was written is as it was
abbrev pub invariant-loop : goal.invariant-loop
invariant-loop g l = Keeps (g.W.Write.contents l.initial.self.stream) (g.W.Write.contents l.self.stream)
