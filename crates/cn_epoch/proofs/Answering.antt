-- The answers of epochs by their turns and history.
use Rattle.cn_epoch.proofs.Common.{◌≡◌, ℕ, ◌+◌, ◌<◌, ◌≤◌, Bool, subst, List, [], ◌∷◌, length, get_or, drop, sym, ap, ◌∙◌, arith, Option, Some, None, slice_index, drop_more, share, Event, Reply, AgreesAfter, Carried, inside_of, carried_by, came_in, inside_in, name_at, position_in, HasShares, IsTightState, Answer, Replied, Turned, TurnRefused, Memory, Command, Enter, Step, Turn, AnswersCommandByHistory, RepliesByHistory, RunsCommandsByHistory, RunsCommandsTo, TakesCommandTo, TellsEpoch, ByEpochHistories, Epochs, EpochsAgree, IsRecordOf, earlier_in, kept_after, next, IsTightRecord}
use Rattle.cn_tables.specs.declared.end.End.TheVariants.{Exit}
use Rattle.cn_core.specs.declared.event.Event.TheVariants.{Enter as EnterEvent, Step as StepEvent}
use Rattle.cn_core.specs.declared.position.Position.{Position}
use Rattle.cn_core.specs.declared.position.Position.TheVariants.{Holds}
use Rattle.cn_core.specs.History as core
use Rattle.cn_core.specs.Calls.{AnswersByHistory}
use Rattle.cn_core.proofs.CallerLemmas.{came-after as event-after, Agrees-after_carry, Agrees-start, inside-by_history}
use Rattle.cn_ledger.specs.declared.record.EpochRecord.{EpochRecord}

-- ---- a turn

named : (p : Option Position) (name : ℕ) → name_at p ≡ Some name → p ≡ Some (Holds name)
named p name e = grind arith

pub said-tight : (old : Epochs) (r : EpochRecord) → TellsEpoch old r → came_in old.core ≡ old.core.base + length old.core.clients
    → IsTightState old.core → IsTightRecord old.core.network.table.width old.core.base r
said-tight old r said came tight = record {
  exits = said.exits;
  counts = λ i within.
      let clients = said.clients in
      said.counts i within ∙ tight.counts i within ∙ ap (λ n. share n old.core.network.table.width i) (omega (arith, came));
  names = said.holders.all ∙ sym said.clients;
  distinct = λ m n before within same.
      let many = said.clients in
      let one = said.holders.by_name m (omega arith) in
      let other = said.holders.by_name n (omega arith) in
      let both : ◌≡◌ {A = Option ℕ} (Some m) (Some n) = sym one ∙ rw same other in
      let equal : m ≡ n = cc in
      omega arith;
}

pub said-record : (old : Epochs) (r : EpochRecord) → TellsEpoch old r → (turns : ℕ) (history : List Event) (carried : Carried)
    → old.number ≡ turns → AgreesAfter old.core history carried
    → HasShares old.core.network.table.width carried → IsRecordOf old.core.network.table turns history carried r
said-record old r said turns history carried number agrees shares = record {
  number = said.number ∙ number;
  clients = said.clients ∙ agrees.total;
  exits = said.exits;
  counts = λ i within.
      let before : carried.steps (Exit i) ≡ share old.core.base old.core.network.table.width i =
      shares i within ∙ ap (λ m. share m old.core.network.table.width i) (sym agrees.base) in
      omega (arith, said.counts i within, agrees.counts (Exit i));
  names = said.holders.all ∙ agrees.total;
  holders = λ name below.
      let total = agrees.total in
      let holder = slice_index r.holders.items name in
      sym (agrees.positions holder) ∙ named (position_in old.core.clients holder) name (said.holders.by_name name (omega arith));
}

-- nobody is inside by history
quiet-by_history : (old : Epochs) → inside_in old.core ≡ 0
    → ByEpochHistories old (λ turns history carried. inside_of old.core.network.table history carried ≡ 0)
quiet-by_history old quiet turns history kept agrees =
    sym (inside-by_history old.core history (carried_by old.core.network.table (earlier_in kept)) agrees.core.1) ∙ quiet

-- the next epoch agrees with the history that a turn leaves
begun-after : (old : Epochs) (turns : ℕ) (history : List Event) (kept : Option (List (List Event))) (r : EpochRecord)
    → inside_in old.core ≡ 0 → EpochsAgree old turns history kept
    → EpochsAgree (record { number = old.number + 1; carries = old.carries; core = next old.carries old.core }) (turns + 1) []
    (kept_after kept history (Turned r))
begun-after old turns history None r quiet agrees = record {
  number = ap (λ (n : ℕ). n + 1) agrees.number;
  carries = agrees.carries;
  core = subst (λ (b : Bool). core.Agrees (next b old.core) [] []) (sym agrees.carries) (Agrees-start old.core.network);
}
begun-after old turns history (Some earlier) r quiet agrees = record {
  number = ap (λ (n : ℕ). n + 1) agrees.number;
  carries = agrees.carries;
  core = subst (λ (b : Bool). core.Agrees (next b old.core) [] (history ∷ earlier)) (sym agrees.carries)
      (Agrees-after_carry old.core history earlier quiet agrees.core);
}

pub turned-after : (old new : Epochs) (r : EpochRecord) → TellsEpoch old r
    → core.ByHistories old.core (λ history carried. HasShares old.core.network.table.width carried) → inside_in old.core ≡ 0
    → new ≡ record { number = old.number + 1; carries = old.carries; core = next old.carries old.core }
    → AnswersCommandByHistory old Turn (Turned r) new
turned-after old new r said shares quiet is turns history kept agrees = (
  (
    quiet-by_history old quiet turns history kept agrees,
    said-record old r said turns history (carried_by old.core.network.table (earlier_in kept)) agrees.number agrees.core.1
        (shares history (earlier_in kept) agrees.core),
  ),
  rw is (begun-after old turns history kept r quiet agrees),
)

pub memory-after : (old : Epochs) → inside_in old.core ≡ 0 → AnswersCommandByHistory old Turn (TurnRefused Memory) old
memory-after old quiet turns history kept agrees = (quiet-by_history old quiet turns history kept agrees, grind arith)

-- those that are carried and those that entered are one more at most
pub came-after : (old : Epochs) (command : Command) (answer : Answer) (new : Epochs) → TakesCommandTo old command answer new
    → (new.carries ≡ old.carries) × (new.core.base + length new.core.clients ≤ old.core.base + length old.core.clients + 1)
came-after old (Enter client entry) (Replied reply) new (goes, ledger, number, carries) =
    (carries, event-after old.core new.core (EnterEvent client entry) reply goes)
came-after old (Step client) (Replied reply) new (goes, ledger, number, carries) =
    (carries, event-after old.core new.core (StepEvent client) reply goes)
came-after old command answer new goes = grind arith

-- ---- commands one after another

pub runs-none : (epochs : Epochs) → RunsCommandsByHistory epochs [] [] epochs
runs-none epochs turns history kept agrees = grind arith

-- the first answer, and those to what is left
runs-first : (old mid new : Epochs) (c : Command) (cs : List Command) (a : Answer) (rest : List Answer)
    → AnswersCommandByHistory old c a mid → mid.core.network ≡ old.core.network → RunsCommandsByHistory mid cs rest new
    → RunsCommandsByHistory old (c ∷ cs) (a ∷ rest) new
runs-first old mid new c cs a rest answered same runs turns history kept agrees =
    let (may, after) = answered turns history kept agrees in
    let (others, last) = runs _ _ (kept_after kept history a) after in
    ((may, rw same at others), grind (arith, last))

pub runs-at : (old mid new : Epochs) (cs : List Command) (i : ℕ) (d : Command) (a : Answer) (rest : List Answer) → i < length cs
    → AnswersCommandByHistory old (get_or cs i d) a mid → mid.core.network ≡ old.core.network
    → RunsCommandsByHistory mid (drop (i + 1) cs) rest new → RunsCommandsByHistory old (drop i cs) (a ∷ rest) new
runs-at old mid new cs i d a rest within answered same runs =
    rw (drop_more cs i d within) (runs-first old mid new (get_or cs i d) (drop (i + 1) cs) a rest answered same runs)

pub runs_to-at : (old mid new : Epochs) (cs : List Command) (i : ℕ) (d : Command) (a : Answer) (rest : List Answer) → i < length cs
    → TakesCommandTo old (get_or cs i d) a mid → RunsCommandsTo mid (drop (i + 1) cs) rest new
    → RunsCommandsTo old (drop i cs) (a ∷ rest) new
runs_to-at old mid new cs i d a rest within goes runs = rw (drop_more cs i d within) (mid, goes, runs)

-- ---- the reply to an event, as the answer to a command

pub replied : (old new : Epochs) (event : Event) (reply : Reply) → AnswersByHistory old.core event reply new.core
    → (new.number ≡ old.number) × (new.carries ≡ old.carries) → RepliesByHistory old event reply new
replied old new event reply by (number, carries) turns history kept agrees =
    let (may, after) = by history (earlier_in kept) agrees.core in
    (may, record { number = number ∙ agrees.number; carries = carries ∙ agrees.carries; core = after })

pub entered-by : (old new : Epochs) (client entry : ℕ) (reply : Reply) → RepliesByHistory old (EnterEvent client entry) reply new
    → AnswersCommandByHistory old (Enter client entry) (Replied reply) new
entered-by old new client entry reply by turns history kept agrees =
    let after = by turns history kept agrees in grind arith

pub stepped-by : (old new : Epochs) (client : ℕ) (reply : Reply) → RepliesByHistory old (StepEvent client) reply new
    → AnswersCommandByHistory old (Step client) (Replied reply) new
stepped-by old new client reply by turns history kept agrees = let after = by turns history kept agrees in grind arith
