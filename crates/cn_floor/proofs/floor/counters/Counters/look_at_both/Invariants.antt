use Rattle.cn_floor.proofs.floor.counters.Counters.look_at_both.Given as goal

abbrev pub ghosts-look : goal.ghosts-look
ghosts-look g a = record { start = a.self.now.start }
