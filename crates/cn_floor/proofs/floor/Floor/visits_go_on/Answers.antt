use Rattle.cn_floor.proofs.Common.{ℕ, ap, arith, Exit, once_below}
use Rattle.cn_floor.proofs.AtClose.Ends.{tight-before}
use Rattle.cn_floor.proofs.floor.Floor.visits_go_on.Goals as goal

pub returns : goal.returns
returns c s kept i n low =
    omega (
      arith,
      kept.sound.numbered (Exit i) n low,
      ap (λ (k : ℕ). once_below k n) ((tight-before c.args.self.now.start c.start_laws.ensures).counts i low),
    )
