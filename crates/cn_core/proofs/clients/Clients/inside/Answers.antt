use Rattle.cn_core.proofs.Common.{◌∙◌, sym}
use Rattle.cn_core.proofs.Clientele.{inside-found}
use Rattle.cn_core.proofs.clients.Clients.inside.Goals as goal

pub returns : goal.returns
returns c = rw (← c.self.view_is) (c.len.ensures ∙ c.self.invariant.walking
    ∙ sym (inside-found c.self.inside.yard.lists c.self.inside.names))
