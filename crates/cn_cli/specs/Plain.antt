-- What a terminal shows, and takes for no command.
use Rattle.std.specs.Prelude.{◌≡◌, ◌≢◌, ◌≤◌, ◌⊎◌, ℕ, All, List, ⊤, string_bytes}
use Rattle.cn_cli.specs.declared.words.WordsFault.{WordsFault}
use Rattle.cn_cli.specs.declared.words.WordsFault.TheVariants.{Help, Refused, Memory}

-- no byte is a control byte but line feeds
abbrev pub IsPlain : List ℕ → Type 0
IsPlain text = All (λ b. (b ≡ 10) ⊎ ((32 ≤ b) × (b ≢ 127))) text

-- nor of the text of a refusal
abbrev pub RefusesPlainly : WordsFault → Type 0
RefusesPlainly (Help text) = ⊤
RefusesPlainly (Refused text) = IsPlain (string_bytes text)
RefusesPlainly Memory = ⊤
