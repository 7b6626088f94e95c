use Rattle.cn_floor.proofs.floor.Floor.enter_list.Given as goal

abbrev pub ghosts-enter_all : goal.ghosts-enter_all
ghosts-enter_all a = record { entering = record { start = a.self.now.start; clients = a._clients.now; entry = a.entry } }
