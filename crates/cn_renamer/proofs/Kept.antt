-- What a replay keeps of the answers of its commands.
use Rattle.cn_renamer.proofs.Common.{◌≡◌, ◌+◌, ◌-◌, ◌<◌, ◌≤◌, ℕ, List, [], None, false, ◌∷◌, ap, ◌∙◌, sym, subst, refl, arith, length, get_or, zero-add, All, AllZip, AllZip-get_or, length_all_zip, ext_get_or, get_or-map-range_with_len, length-map-range_with_len, share, shares_after, MOST_CLIENTS, Answer, Enter, Step, Turn, EpochRecord, Network, TakesCommandTo, ByEpochHistories, Epochs, EpochsAgree, history_by_commands, turns_by, lines-by, AreAnsweredAs, IsKept, IsReplayText, IsWithoutCounts}
use Rattle.cn_ledger.specs.declared.answer.Answer.TheVariants.{Replied, Turned, TurnRefused}
use Rattle.cn_ledger.specs.declared.command.Command.{Command}
use Rattle.cn_core.specs.declared.event.Event.{Event}
use Rattle.cn_core.specs.History.{carried_by, enters_of, inside_of}
use Rattle.cn_core.specs.State.{start}
use Rattle.cn_epoch.specs.Turns.{IsTightRecord}
use Rattle.cn_texts.specs.Writing.Replay.{IsShowable, answer_line, counts_or_shares, replay_text}

shares-many : (w k : ℕ) → length (shares_after 0 k w) ≡ w
shares-many w k = length-map-range_with_len (λ i. share (0 + k) w i - share 0 w i) 0 w

-- of a tight record after nobody each count is a share
tight-counts : (w : ℕ) (r : EpochRecord) → IsTightRecord w 0 r → r.counts.items ≡ shares_after 0 r.clients w
tight-counts w r tight =
    ext_get_or 0 r.counts.items (shares_after 0 r.clients w) (omega (arith, tight.exits, many)) each
  where
    many : length (shares_after 0 r.clients w) ≡ w
    many = shares-many w r.clients

    each : (i : ℕ) → i < length r.counts.items → get_or r.counts.items i 0 ≡ get_or (shares_after 0 r.clients w) i 0
    each i within =
        let below : i < w = omega (arith, within, tight.exits) in
        omega (
          arith,
          tight.counts i below,
          get_or-map-range_with_len (λ i. share (0 + r.clients) w i - share 0 w i) 0 w i i 0 below
              (zero-add i),
        )

-- so they are shown as if they were left out
shown-shares : (w clients : ℕ) (counts : List ℕ) → counts ≡ shares_after 0 clients w
    → counts_or_shares w clients counts ≡ shares_after 0 clients w
shown-shares w clients [] is = refl
shown-shares w clients (count ∷ counts) is = is

module _ (w : ℕ) (r kept : EpochRecord) (without : IsWithoutCounts (Turned r) (Turned kept)) (tight : IsTightRecord w 0 r) where
  lines-turned : (command : Command) → answer_line w command (Turned r) ≡ answer_line w command (Turned kept)
  unfolding answer_line
  lines-turned (Enter client entry) = refl
  lines-turned (Step client) = refl
  lines-turned Turn =
      let (number, clients, none, holders) = without in
      rw (number, clients, none, holders, shown-shares w r.clients r.counts.items (tight-counts w r tight)) refl

  turned-kept : r.clients ≤ MOST_CLIENTS → IsKept w (Turned r) (Turned kept)
  turned-kept few =
      let (number, clients, none, holders) = without in
      record {
        lines = lines-turned;
        showable = record {
          counts = ap (λ (counts : List ℕ). length (counts_or_shares w kept.clients counts)) none ∙ shares-many w kept.clients;
          few = λ same. omega (arith, few, clients);
          holders = ap (λ h. length h.items) holders ∙ tight.names ∙ sym clients;
        };
      }

-- of an answer without a record all is kept
itself-kept : (w : ℕ) (answer : Answer) → IsShowable w answer → IsKept w answer answer
itself-kept w answer showable = record { lines = λ command. refl; showable = showable }

-- what is kept of an answer that takes epochs on which nothing is carried
pub is-kept : (old new : Epochs) (command : Command) (answer kept : Answer) → old.core.base ≡ 0 → length old.core.clients ≤ MOST_CLIENTS
    → TakesCommandTo old command answer new → IsWithoutCounts answer kept → IsKept old.core.network.table.width answer kept
is-kept old new command (Replied reply) kept none few takes same =
    rw same (itself-kept old.core.network.table.width (Replied reply) tt)
is-kept old new command (TurnRefused fault) kept none few takes same =
    rw same (itself-kept old.core.network.table.width (TurnRefused fault) tt)
is-kept old new Turn (Turned r) (Turned kept) none few (quiet, said, tight, next) same =
    let w = old.core.network.table.width in
    turned-kept w r kept same (subst (λ base. IsTightRecord w base r) none tight) (omega (arith, few, said.clients))
is-kept old new command answer kept none few takes same = search

-- all that is kept can be shown
pub all-showable : (w : ℕ) (answers kept : List Answer) → AllZip (IsKept w) answers kept → All (IsShowable w) kept
all-showable w answers kept are = λ place default within.
    (AllZip-get_or (IsKept w) answers kept place default default are
    (omega (arith, within, length_all_zip (IsKept w) answers kept are))).showable

-- ---- the text of what is kept

pub replay-is : (network : Network) (old new : Epochs) (commands : List Command) (answers kept : List Answer) (number entered inside : ℕ)
    → old ≡ record { number = 0; carries = false; core = start network }
    → EpochsAgree old 0 [] None → AreAnsweredAs old commands answers kept new → new.core.network ≡ old.core.network
    → ByEpochHistories new (λ turns history carried. number ≡ turns)
    → ByEpochHistories new (λ turns history carried. entered ≡ enters_of history)
    → ByEpochHistories new (λ turns history carried. inside ≡ inside_of new.core.network.table history carried)
    → (text : List ℕ) → text ≡ replay_text network commands kept number entered inside → IsReplayText network commands text
replay-is network old new commands answers kept number entered inside begun agrees given same turned came within text is =
    let (may, after) = given.by_history 0 [] None agrees in
    let history : List Event = history_by_commands [] commands answers in
    let ours : old.core.network ≡ network = ap (λ (e : Epochs). e.core.network) begun in
    let last : inside ≡ inside_of network.table history (carried_by network.table []) =
    within (turns_by 0 answers) history None after
    ∙ ap (λ (n : Network). inside_of n.table history (carried_by n.table [])) (same ∙ ours) in
    let lines = lines-by (IsKept network.table.width) network.table.width (λ answer kept is_kept. is_kept.lines) commands answers kept
    (rw ours at given.are_kept) in
    record {
      answers = answers;
      by_history = rw ours at may;
      memory = given.memory;
      replayed = is
          ∙ rw (sym lines, turned (turns_by 0 answers) history None after, came (turns_by 0 answers) history None after, last) refl;
    }
