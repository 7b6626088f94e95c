-- The clients of an epoch, as a yard and a table of names keep them.
use Rattle.std.specs.Prelude.{◌≡◌, ℕ, ◌≤◌, nat_eq, All, List, Option, None, Some, map, count_by}
use Rattle.std.specs.Map.{set_value, values_of}
use Rattle.cn_yard.specs.Lists.{Lists, Yard, standing, tokens_in}
use Rattle.cn_names.specs.declared.standing.Standing.{Standing}
use Rattle.cn_names.specs.declared.standing.Standing.TheVariants.{Walking, Holds as Named}
use Rattle.cn_names.specs.Names.{is_walking, standing_of_client}
use Rattle.cn_core.specs.declared.position.Position.{Position}
use Rattle.cn_core.specs.declared.position.Position.TheVariants.{On, Holds}
use Rattle.cn_core.specs.declared.clients.Found.{Found}
use Rattle.cn_core.specs.declared.clients.Found.TheVariants.{Walking as InYard, Named as WithName}

-- the tokens on their wires, and the clients in the order in which they entered
pub record Clients : Type 0 where
  pub yard : Yard
  pub names : List (ℕ × Standing)

-- the wire of a token that stands in the yard
abbrev pub wire_at : Option (ℕ × ℕ) → ℕ
wire_at None = 0
wire_at (Some (wire, client)) = wire

-- the position of a client with this standing
abbrev pub position_by : Lists → Standing → Position
position_by lists (Walking token) = On (wire_at (standing lists token))
position_by lists (Named name) = Holds name

-- the clients with their positions
abbrev pub positions : Clients → List (ℕ × Position)
positions c = map (λ e. (e.0, position_by c.yard.lists e.1)) c.names

-- while a client walks, its token stands in the yard for it
abbrev pub StandsFor : Lists → ℕ → Standing → Type 0
StandsFor lists client (Walking token) = (wire : ℕ) × (standing lists token ≡ Some (wire, client))
StandsFor lists client (Named name) = Unit {0}

-- the yard and the table fit each other
pub record IsPlaced (c : Clients) : Type 0 where
  pub stand : All (λ e. StandsFor c.yard.lists e.0 e.1) c.names
  pub once : (client : ℕ) → count_by (λ e. nat_eq client e.0) c.names ≤ 1
  pub walking : tokens_in c.yard.lists ≡ count_by is_walking (values_of c.names)

-- the clients, one of them at another position
abbrev pub with_position : List (ℕ × Position) → ℕ → Position → List (ℕ × Position)
with_position clients client position = set_value (nat_eq client) clients position

-- the position of a client that was found
abbrev pub position_found : Found → Position
position_found (InYard token wire) = On wire
position_found (WithName name) = Holds name

-- who is found walking has this token
abbrev pub IsFound : Clients → ℕ → Found → Type 0
IsFound c client (InYard token wire) = standing_of_client c.names client ≡ Some (Walking token)
IsFound c client (WithName name) = Unit {0}
