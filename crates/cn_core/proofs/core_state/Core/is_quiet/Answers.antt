use Rattle.cn_core.proofs.Common.{◌∙◌, sym, eqb-true}
use Rattle.cn_core.proofs.TightLemmas.{tight-state}
use Rattle.cn_core.proofs.core_state.Core.is_quiet.Goals as goal

pub returns-clause-tight : goal.returns-clause-tight
returns-clause-tight c = λ quiet.
    rw (← c.self.view_is) (tight-state _ c.self.invariant.core (sym c.inside.ensures ∙ eqb-true c.inside.result 0 quiet))
