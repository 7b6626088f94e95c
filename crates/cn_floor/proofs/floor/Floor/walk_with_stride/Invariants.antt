use Rattle.cn_floor.proofs.floor.Floor.walk_with_stride.Given as goal

abbrev pub ghosts-enter : goal.ghosts-enter
ghosts-enter g a = record { coming = record { start = a.self.now.start; token = a._token; client = a._client; entry = a.entry } }

abbrev pub ghosts-step : goal.ghosts-step
ghosts-step g a = record { going = record { start = a.self.now.start; token = a._token; client = a._client; wire = a._wire; end = a.end } }
