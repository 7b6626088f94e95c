-- The command that a record of a schedule spells.
use Rattle.std.specs.Prelude.{ℕ, ◌∷◌, [], List, Option, Some, None, Result, Ok, Err, codes, if◌then◌else◌}
use Rattle.std.specs.Str.{bytes_eq}
use Rattle.cn_ledger.specs.declared.command.Command.{Command}
use Rattle.cn_ledger.specs.declared.command.Command.TheVariants.{Enter, Step, Turn}
use Rattle.cn_texts.specs.Reading.Number.{number_in}
use Rattle.cn_texts.specs.Reading.Records.{Record}
use Rattle.cn_texts.specs.declared.reading.schedule_fault.ScheduleCause.{ScheduleCause}
use Rattle.cn_texts.specs.declared.reading.schedule_fault.ScheduleCause.TheVariants.{FieldCount, Op, ClientNumber, WireNumber}

-- an enter needs two numbers
abbrev pub entering : Option ℕ → Option ℕ → Result Command ScheduleCause
entering None entry = Err ClientNumber
entering (Some client) None = Err WireNumber
entering (Some client) (Some entry) = Ok (Enter client entry)

-- a step needs a number and an empty field
abbrev pub stepping : Option ℕ → List ℕ → Result Command ScheduleCause
stepping None wire = Err ClientNumber
stepping (Some client) [] = Ok (Step client)
stepping (Some client) (byte ∷ wire) = Err WireNumber

-- a turn needs two empty fields
abbrev pub turning : List ℕ → List ℕ → Result Command ScheduleCause
turning (byte ∷ client) wire = Err ClientNumber
turning [] (byte ∷ wire) = Err WireNumber
turning [] [] = Ok Turn

-- the command that three fields spell, or what is wrong with them
unfoldable pub spelled : List ℕ → List ℕ → List ℕ → Result Command ScheduleCause
spelled op client wire =
    if bytes_eq op (codes "enter") then entering (number_in client) (number_in wire)
    else if bytes_eq op (codes "step") then stepping (number_in client) wire
    else if bytes_eq op (codes "turn") then turning client wire
    else Err Op

-- the command that a record spells, or what is wrong with it
unfoldable pub command_in : Record → Result Command ScheduleCause
command_in (op ∷ client ∷ wire ∷ []) = spelled op client wire
command_in fields = Err FieldCount
