use Rattle.cn_floor.proofs.Common.{subst, FloorValue, PostValue}
use Rattle.cn_floor.specs.Together.{StoodAsOne}
use Rattle.cn_floor.proofs.floor.Floor.look_at_both_posts.Goals as goal

pub returns-clause-in_state : goal.returns-clause-in_state
returns-clause-in_state c =
    subst
    (λ (x : FloorValue × PostValue × PostValue). StoodAsOne x.0.start x.1.view x.2.view c.look_at_both-seat.result.1)
    (λ i. (c.self.view_is i, c.post.view_is i, c.other.view_is i)) c.look_at_both-seat.ensures.in_state
