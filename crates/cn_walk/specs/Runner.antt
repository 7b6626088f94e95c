-- Epochs that are run one after another.
use Rattle.std.specs.Prelude.{Bool, true, false}
use Rattle.cn_floor.specs.Carried.{WordsValue}
use Rattle.cn_floor.specs.Ends.{QuietValue, words_after}

-- a runner of epochs as contracts see it: the words with which the next begins, and whether later ones go on from its
-- own
pub record RunnerValue : Type 0 where
  pub words : WordsValue
  pub carries : Bool

-- the words with which the epoch after a closed one begins, if that went on from these words
abbrev pub next_words : Bool → WordsValue → QuietValue → WordsValue
next_words true words quiet = words_after quiet
next_words false words quiet = words

-- the runner after that epoch
abbrev pub next_runner : RunnerValue → QuietValue → RunnerValue
next_runner runner quiet = record { words = next_words runner.carries runner.words quiet; carries = runner.carries }
