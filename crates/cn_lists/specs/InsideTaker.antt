-- What a taker keeps.
use Rattle.std.specs.Prelude.{◌≡◌, [], length, replicate}
use Rattle.cn_lists.specs.declared.taker.Taker.TheInside.{Inside}
use Rattle.cn_lists.specs.Taking.{TakerValue}

-- a taker as contracts see it
abbrev pub taker_of : Inside → TakerValue
taker_of t = t.post

-- nobody of a taker is inside
abbrev pub IsTaker : Inside → Type 0
IsTaker t = t.post.view.tokens ≡ replicate (length t.post.home.start.network.table.ends) []
