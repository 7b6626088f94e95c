use Rattle.cn_floor.proofs.Common.{subst, IsClosed}
use Rattle.cn_floor.proofs.AtClose.Ends.{closed-tight}
use Rattle.cn_floor.proofs.floor.words.Words.words_laws.Goals as goal

pub returns-clause-tight : goal.returns-clause-tight
returns-clause-tight c = closed-tight c.args.self.now (subst IsClosed c.self.view_is c.self.invariant.closed)
