use Rattle.cn_floor.proofs.Common.{arith, at_most_once, count_in}
use Rattle.cn_floor.proofs.floor.Floor.numbers_differ.Goals as goal

pub returns : goal.returns
returns c s kept end n stands =
    omega (arith, kept.sound.numbered end n stands, at_most_once (count_in c.args.self.now.start.network.table s.words end) n)
