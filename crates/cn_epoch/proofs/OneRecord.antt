-- Commands have one list of answers, want of memory aside, also if the counts are carried.
use Rattle.cn_epoch.proofs.Common.{◌≡◌, ℕ, ◌≤◌, Option, List, [], ◌∷◌, refl, sym, ap, ◌∙◌, arith, slice_index, ext_get_or, Event, Reply, AreEpochs, Carried, HasOneHolder, IsHistory, carried_by, Answer, Turned, Command, Turn, MayAnswerCommand, earlier_after, earlier_by, earlier_in, history_after_command, history_by_commands, kept_after, kept_by, turns_after, turns_by, HadMemory, IsSameAnswer, HasOneRecord, HaveOneAnswer}
use Rattle.std.specs.List.{AllZip}
use Rattle.cn_spec.specs.declared.limits.TheConstants.{MOST_CARRIED}
use Rattle.std.proofs.lemmas.List.Elements.{All-head, All-tail}
use Rattle.cn_tables.specs.Network.{Network, IsNetwork}
use Rattle.cn_tables.specs.Table.{Table}
use Rattle.cn_core.specs.History as core
use Rattle.cn_core.proofs.CallerLemmas.{one-holder-after}

module _ (network : Network) (is : IsNetwork network) where
  abbrev t : Table
  t = network.table

  one-record : (turns : ℕ) (history : List Event) (carried : Carried) → HasOneHolder t history carried
      → HasOneRecord t turns history carried
  one-record turns history carried holder r s one other = record {
    number = one.number ∙ sym other.number;
    clients = one.clients ∙ sym other.clients;
    counts = ext_get_or 0 r.counts.items s.counts.items (one.exits ∙ sym other.exits) (λ i below.
        omega (arith, one.exits, one.counts i (omega (arith, one.exits)), other.counts i (omega (arith, one.exits))));
    holders = ext_get_or 0 r.holders.items s.holders.items (one.names ∙ sym other.names) (λ name below.
        holder (slice_index r.holders.items name) (slice_index s.holders.items name) name
        (one.holders name (omega (arith, one.names)))
        (other.holders name (omega (arith, one.names))));
  }

  pub one-record-after : (turns : ℕ) (history : List Event) (earlier : List (List Event)) → AreEpochs t earlier
      → (carried_by t earlier).enters ≤ MOST_CARRIED → HasOneRecord t turns history (carried_by t earlier)
  one-record-after turns history earlier epochs few =
      one-record turns history (carried_by t earlier) (one-holder-after network history earlier is epochs few)

  same-answer : (turns : ℕ) (history : List Event) (carried : Carried) (command : Command) (answer other : Answer)
      → HasOneHolder t history carried → MayAnswerCommand t turns history carried command answer
      → MayAnswerCommand t turns history carried command other
      → HadMemory answer → HadMemory other → IsSameAnswer answer other
  same-answer turns history carried Turn (Turned r) (Turned s) holder may might had also =
      one-record turns history carried holder r s may.1 might.1
  same-answer turns history carried command answer other holder may might had also = grind arith

  -- ---- what an answer leaves was accepted

  accepted-after : (h : List Event) (carried : Carried) (event : Event) (reply : Reply) → core.MayAnswer t h carried event reply
      → IsHistory t h carried → IsHistory t (core.history_after h event reply) carried
  accepted-after h carried event reply may was = grind arith

  -- the earlier epochs, and the history after what they left
  abbrev AreAccepted : Option (List (List Event)) → List Event → Type 0
  AreAccepted kept h = AreEpochs t (earlier_in kept) × IsHistory t h (carried_by t (earlier_in kept))

  left : (turns : ℕ) (h : List Event) (kept : Option (List (List Event))) (command : Command) (answer : Answer)
      → MayAnswerCommand t turns h (carried_by t (earlier_in kept)) command answer → AreAccepted kept h
      → AreAccepted (kept_after kept h answer) (history_after_command h command answer)
  left turns h kept command answer may was = grind (arith, accepted-after)

  -- and what is carried never falls
  one-more : (earlier : List (List Event)) (h : List Event) (answer : Answer)
      → (carried_by t earlier).enters ≤ (carried_by t (earlier_after earlier h answer)).enters
  one-more earlier h answer = grind arith

  all-more : (earlier : List (List Event)) (h : List Event) (commands : List Command) (answers : List Answer)
      → (carried_by t earlier).enters ≤ (carried_by t (earlier_by earlier h commands answers)).enters
  all-more earlier h [] answers = omega arith
  all-more earlier h (command ∷ commands) [] = omega arith
  all-more earlier h (command ∷ commands) (answer ∷ answers) =
      let rest = all-more (earlier_after earlier h answer) (history_after_command h command answer) commands answers in
      omega (arith, one-more earlier h answer, rest)

  grows : (kept : Option (List (List Event))) (h : List Event) (commands : List Command) (answers : List Answer)
      → (carried_by t (earlier_in kept)).enters ≤ (carried_by t (earlier_in (kept_by kept h commands answers))).enters
  grows kept h commands answers = grind (arith, all-more)

  kept_by-next : (kept : Option (List (List Event))) (h : List Event) (command : Command) (commands : List Command) (answer : Answer)
      (answers : List Answer)
      → kept_by kept h (command ∷ commands) (answer ∷ answers)
      ≡ kept_by (kept_after kept h answer) (history_after_command h command answer) commands answers
  kept_by-next kept h command commands answer answers = grind arith

  -- answers that say the same leave the same
  turns-same : (turns : ℕ) (answer other : Answer) → IsSameAnswer answer other → turns_after turns answer ≡ turns_after turns other
  turns-same turns answer other same = grind arith

  history-same : (history : List Event) (command : Command) (answer other : Answer) → IsSameAnswer answer other
      → history_after_command history command answer ≡ history_after_command history command other
  history-same history command answer other same = grind arith

  kept-same : (kept : Option (List (List Event))) (h : List Event) (answer other : Answer) → IsSameAnswer answer other
      → kept_after kept h answer ≡ kept_after kept h other
  kept-same kept h answer other same = grind arith

  pub one-list : (turns : ℕ) (history : List Event) (kept : Option (List (List Event))) (commands : List Command)
      → AreEpochs t (earlier_in kept) → IsHistory t history (carried_by t (earlier_in kept))
      → HaveOneAnswer t turns history kept commands
  one-list turns history kept [] epochs was [] [] had also may might few = tt
  one-list turns history kept (command ∷ commands) epochs was (answer ∷ answers) (other ∷ others) had also (may, rest) (might, remaining)
      few =
      let now : (carried_by t (earlier_in kept)).enters ≤ MOST_CARRIED =
      omega (arith, few, grows kept history (command ∷ commands) (answer ∷ answers)) in
      let same = same-answer turns history (carried_by t (earlier_in kept)) command answer other
      (one-holder-after network history (earlier_in kept) is epochs now) may might
      (All-head HadMemory answer answers had)
      (All-head HadMemory other others also) in
      let (before, accepted) = left turns history kept command answer may (epochs, was) in (
        same,
        one-list (turns_after turns answer) (history_after_command history command answer) (kept_after kept history answer) commands before
            accepted answers others (All-tail HadMemory answer answers had) (All-tail HadMemory other others also) rest
            (rw (
              turns-same turns answer other same,
              history-same history command answer other same,
              kept-same kept history answer other same,
            ) remaining)
            (rw (kept_by-next kept history command commands answer answers) at few),
      )
  one-list turns history kept commands epochs was answers others had also may might few = search

  -- the turns in a list of answers, and the history that it leaves
  pub turns-by-same : (turns : ℕ) (answers others : List Answer) → AllZip IsSameAnswer answers others
      → turns_by turns answers ≡ turns_by turns others
  turns-by-same turns [] [] same = refl
  turns-by-same turns (answer ∷ answers) (other ∷ others) (same, rest) =
      ap (λ n. turns_by n answers) (turns-same turns answer other same) ∙ turns-by-same (turns_after turns other) answers others rest
  turns-by-same turns answers others same = search

  pub history-by-same : (history : List Event) (commands : List Command) (answers others : List Answer) → AllZip IsSameAnswer answers others
      → history_by_commands history commands answers ≡ history_by_commands history commands others
  history-by-same history (command ∷ commands) [] [] same = refl
  history-by-same history (command ∷ commands) (answer ∷ answers) (other ∷ others) (same, rest) =
      ap (λ h. history_by_commands h commands answers) (history-same history command answer other same)
      ∙ history-by-same (history_after_command history command other) commands answers others rest
  history-by-same history commands answers others same = search
