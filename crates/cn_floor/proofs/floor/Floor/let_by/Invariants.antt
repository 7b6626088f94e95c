use Rattle.cn_floor.proofs.floor.Floor.let_by.Given as goal

abbrev pub ghosts-sweep : goal.ghosts-sweep
ghosts-sweep a = record { sweeping = record { start = a.self.now.start; wire = a._wire; end = a.end } }
