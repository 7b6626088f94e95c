use Rattle.cn_floor.proofs.floor.Floor.step.Given as goal

abbrev pub ghosts-step : goal.ghosts-step
ghosts-step a = record { going = record { start = a.self.now.start; token = a._token; client = a._client; wire = a._wire; end = a.end } }
