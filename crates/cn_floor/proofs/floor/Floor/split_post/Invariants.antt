use Rattle.cn_floor.proofs.floor.Floor.split_post.Given as goal

abbrev pub ghosts-split : goal.ghosts-split
ghosts-split a = record { quota = a._quota }

abbrev pub ghosts-look : goal.ghosts-look
ghosts-look a = record { start = a.self.now.start }
