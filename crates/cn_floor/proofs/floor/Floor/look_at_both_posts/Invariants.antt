use Rattle.cn_floor.proofs.Common.{after_look}
use Rattle.cn_floor.proofs.floor.Floor.look_at_both_posts.Given as goal

abbrev pub ghosts-look_at_both : goal.ghosts-look_at_both
ghosts-look_at_both a = record { pair = record { first = after_look a.seat.now.me.0; second = after_look a.other.me.0 } }
