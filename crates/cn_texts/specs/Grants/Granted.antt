-- What the records of a grant list say, one by one.
use Rattle.std.specs.Prelude.{ℕ, ◌==◌, ◌∷◌, [], Bool, List, length, nat_lt, nat_le, Option, Some, None, if◌then◌else◌}
use Rattle.std.specs.List.{filter, filter_map, fold, list_any}
use Rattle.cn_texts.specs.Reading.Number.{number_in}
use Rattle.cn_texts.specs.Reading.Records.{Record}
use Rattle.cn_texts.specs.declared.grants.record.Granted.{Granted}
use Rattle.cn_texts.specs.declared.grants.record.GrantCause.{GrantCause}
use Rattle.cn_texts.specs.declared.grants.record.GrantCause.TheVariants.{Form, DuplicateClient, DuplicateName}

-- the grant that these three numbers make
abbrev pub granted_from : Option ℕ → Option ℕ → Option ℕ → Option Granted
granted_from None client name = None
granted_from (Some epoch) None name = None
granted_from (Some epoch) (Some client) None = None
granted_from (Some epoch) (Some client) (Some name) = Some (record { epoch = epoch; client = client; name = name })

-- the grant that a record spells
unfoldable pub grant_spelled : Record → Option Granted
grant_spelled (epoch ∷ client ∷ name ∷ []) = granted_from (number_in epoch) (number_in client) (number_in name)
grant_spelled fields = None

-- the grants of these records
abbrev pub grants_spelled : List Record → List Granted
grants_spelled records = filter_map grant_spelled records

-- those of them that are of this epoch
abbrev pub of_epoch : ℕ → List Granted → List Granted
of_epoch epoch grants = filter (λ g. g.epoch == epoch) grants

-- the epoch of the last of them, and 0 if there is none
abbrev pub last_epoch : List Granted → ℕ
last_epoch grants = fold (λ epoch g. g.epoch) 0 grants

-- what is wrong with the form of a grant after those before it, of so many at most
unfoldable pub form_cause : ℕ → List Granted → Granted → Option GrantCause
form_cause most before g =
    if nat_lt g.epoch (last_epoch before) then Some Form
    else if nat_le most (length before) then Some Form
    else None

-- whether the client stands among these
abbrev pub has_client : ℕ → List Granted → Bool
has_client client grants = list_any (λ g. client == g.client) grants

-- whether the name stands among these
abbrev pub has_name : ℕ → List Granted → Bool
has_name name grants = list_any (λ g. name == g.name) grants

-- what else is wrong with it
unfoldable pub twice_cause : List Granted → Granted → Option GrantCause
twice_cause before g =
    if has_client g.client (of_epoch g.epoch before) then Some DuplicateClient
    else if has_name g.name (of_epoch g.epoch before) then Some DuplicateName
    else None

-- the first of two causes
abbrev pub first_cause : Option GrantCause → Option GrantCause → Option GrantCause
first_cause (Some cause) other = Some cause
first_cause None other = other

-- the form's cause of what a record spells, after the grants before it
abbrev pub spelled_form : ℕ → List Granted → Option Granted → Option GrantCause
spelled_form most before None = Some Form
spelled_form most before (Some g) = form_cause most before g

-- its first cause
abbrev pub spelled_cause : ℕ → List Granted → Option Granted → Option GrantCause
spelled_cause most before None = Some Form
spelled_cause most before (Some g) = first_cause (form_cause most before g) (twice_cause before g)
