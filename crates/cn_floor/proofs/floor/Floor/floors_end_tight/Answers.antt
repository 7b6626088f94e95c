use Rattle.cn_floor.proofs.AtClose.Ends.{ended}
use Rattle.cn_floor.proofs.floor.Floor.floors_end_tight.Goals as goal

pub returns : goal.returns
returns c s kept = ended c.args.self.now.start s record { began = c.start_laws.ensures; rule = kept }
