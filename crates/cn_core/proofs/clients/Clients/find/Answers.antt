use Rattle.cn_core.proofs.Common.{◌≡◌, ◌∙◌, sym, refl, ap, Some, None, Walking, standing_of_client}
use Rattle.cn_names.specs.declared.standing.Standing.TheVariants.{Holds}
use Rattle.cn_core.proofs.Clientele.{live-found, position-found}
use Rattle.cn_core.proofs.clients.Clients.find.Goals as goal

pub returns-in_err-token-clause-position : goal.returns-in_err-token-clause-position
returns-in_err-token-clause-position c =
    let none : standing_of_client c.self.inside.names c.args.client ≡ None = sym c.standing.ensures ∙ c.in_err-token.was in
    rw (← c.self.view_is, c.from_residual.ensures, position-found c.self.inside.yard.lists c.self.inside.names c.args.client, none) refl

-- the client walks with this token
found : (c : goal.In-Walking) → standing_of_client c.self.inside.names c.args.client ≡ Some (Walking c.in-Walking.token)
found c = sym c.standing.ensures ∙ c.in_ok-token.was ∙ ap Some c.in-Walking.is

pub wire_of-requires : goal.wire_of-requires
wire_of-requires c = live-found c.args.client c.self.invariant (found c)

pub returns-in-Walking-clause-position : goal.returns-in-Walking-clause-position
returns-in-Walking-clause-position c =
    let walks : standing_of_client c.self.inside.names c.args.client ≡ Some (Walking c.in-Walking.token) =
    sym c.standing.ensures ∙ c.in_ok-token.was ∙ ap Some c.in-Walking.is in
    let (client, there) = c.wire_of.ensures in
    rw (← c.self.view_is, position-found c.self.inside.yard.lists c.self.inside.names c.args.client, walks, there.found) refl

pub returns-in-Holds-clause-position : goal.returns-in-Holds-clause-position
returns-in-Holds-clause-position c =
    let named : standing_of_client c.self.inside.names c.args.client ≡ Some (Holds c.in-Holds.name) =
    sym c.standing.ensures ∙ c.in_ok-token.was ∙ ap Some c.in-Holds.is in
    rw (← c.self.view_is, position-found c.self.inside.yard.lists c.self.inside.names c.args.client, named) refl
