use Rattle.cn_floor.proofs.floor.Floor.enter.Given as goal

abbrev pub ghosts-enter : goal.ghosts-enter
ghosts-enter a = record { coming = record { start = a.self.now.start; token = a._token; client = a._client; entry = a.entry } }
