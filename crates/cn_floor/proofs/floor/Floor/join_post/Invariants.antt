use Rattle.cn_floor.proofs.floor.Floor.join_post.Given as goal

abbrev pub ghosts-look : goal.ghosts-look
ghosts-look a = record { start = a.self.now.start }
