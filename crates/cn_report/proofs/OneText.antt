-- What jobs write has one text.
use Rattle.cn_report.proofs.Common.{◌≡◌, ℕ, List, [], None, Result, Ok, Err, ◌++◌, map, sym, ap, subst, arith, ◌∙◌, Network, IsNetwork, Command, end_line, heading, Record, Description, one-network}
use mathlib.Core.List.{map-map}
use Rattle.std.proofs.lemmas.List.{map-id}
use Rattle.cn_ledger.specs.declared.command.Command.TheVariants.{Turn}
use Rattle.cn_core.specs.History.{carried_by, enters_of, inside_of}
use Rattle.cn_epoch.specs.History.{history_by_commands, turns_by}
use Rattle.cn_epoch.proofs.CallerLemmas.{history-by-same, one-list, turns-by-same}
use Rattle.cn_report.proofs.SameLines.{lines-same}
use Rattle.cn_texts.specs.Reading.Schedule.{IsSchedule}
use Rattle.cn_texts.specs.declared.reading.schedule_fault.ScheduleCause.{ScheduleCause}
use Rattle.cn_texts.specs.Writing.Wiring.{wiring_text}
use Rattle.cn_renamer.specs.Replay.{IsReplayOf, IsReplayOfCommands, IsReplayText}
use Rattle.cn_renamer.specs.Show.{IsWiringOf}

-- ---- the commands of a schedule

command_of : Result Command ScheduleCause → Command
command_of (Ok command) = command
command_of (Err cause) = Turn

pub one-schedule : {records : List Record} (commands others : List Command) → IsSchedule records commands → IsSchedule records others
    → commands ≡ others
unfolding command_of
one-schedule commands others one another =
    sym (map-map command_of Ok commands ∙ map-id commands) ∙ ap (map command_of) (sym one.spells ∙ another.spells)
    ∙ map-map command_of Ok others ∙ map-id others

-- ---- on a network

module _ (network : Network) (is : IsNetwork network) where
  pub one-text : (commands : List Command) (text other : List ℕ) → IsReplayText network commands text → IsReplayText network commands other
      → text ≡ other
  one-text commands text other one another =
      let same = one-list network is 0 [] None commands tt tt one.answers another.answers one.memory another.memory one.by_history
      another.by_history (omega arith) in
      one.replayed
      ∙ rw (
        turns-by-same network is 0 one.answers another.answers same,
        history-by-same network is [] commands one.answers another.answers same,
      )
      (ap (λ (lines : List ℕ). heading network ++ lines
      ++ end_line (turns_by 0 another.answers) (enters_of (history_by_commands [] commands another.answers))
      (inside_of network.table (history_by_commands [] commands another.answers) (carried_by network.table [])))
      (lines-same network.table.width commands one.answers another.answers same))
      ∙ sym another.replayed

-- ---- on the network of a kind and a width

pub one-text-of : (net : Description) (commands : List Command) (text other : List ℕ) → IsReplayOfCommands net commands text
    → IsReplayOfCommands net commands other → text ≡ other
one-text-of net commands text other one another =
    let same = one-network net another.network one.network another.built one.built in
    one-text one.network one.built.2.counts commands text other one.replayed
    (subst (λ n. IsReplayText n commands other) same another.replayed)

pub one-text-of-bytes : (net : Description) (bytes text other : List ℕ) → IsReplayOf net bytes text → IsReplayOf net bytes other
    → text ≡ other
one-text-of-bytes net bytes text other one another =
    let same = one-schedule another.commands one.commands another.schedule one.schedule in
    one-text-of net one.commands text other one.replayed (subst (λ commands. IsReplayOfCommands net commands other) same another.replayed)

pub one-wiring : (net : Description) (text other : List ℕ) → IsWiringOf net text → IsWiringOf net other → text ≡ other
one-wiring net text other one another = one.2 ∙ ap wiring_text (one-network net one.0 another.0 one.1 another.1) ∙ sym another.2
