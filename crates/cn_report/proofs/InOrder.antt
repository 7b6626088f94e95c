-- A run whose names follow the order of the batch has one text.
use Rattle.cn_report.proofs.Common.{◌≡◌, ℕ, ◌+◌, Bool, List, [], ◌∷◌, ◌++◌, length, map, sum_by, ap, sym, refl, ◌∙◌, AllZip, flat_map, length-map, shares_after, Network, Client, EpochRecord, plain_epoch, BatchEpoch, grant_lines, grants_header, epoch_line, report_end, heading, Description, one-network, Report, Grants, AreServed, IsInOrder, IsRunInOrder, text_in}
use Rattle.std.proofs.lemmas.List.Folds.{flat_map-map, fold-map}
use Rattle.cn_spec.specs.Sums.{when}
use Rattle.cn_texts.specs.Writing.Outcome.{exit_lines, name_lines}
use Rattle.cn_cli.specs.declared.options.Form.{Form}

-- what texts show of a record
record Printed : Type 0 where
  number : ℕ
  clients : ℕ
  counts : List ℕ
  holders : List ℕ

abbrev printed : EpochRecord → Printed
printed r = record { number = r.number; clients = r.clients; counts = r.counts.items; holders = r.holders.items }

abbrev printed-lines : ℕ → Printed → List ℕ
printed-lines width t = epoch_line t.number t.clients ++ (exit_lines width t.counts ++ name_lines t.clients t.holders)

abbrev printed-grants : Printed → List ℕ
printed-grants t = grant_lines t.number t.clients t.holders

abbrev printed-text : Form → Network → List Printed → List ℕ
printed-text Report network ts = heading network ++ flat_map (printed-lines network.table.width) ts
    ++ report_end (length ts) (sum_by (λ (t : Printed). t.clients) ts)
printed-text Grants network ts = grants_header ++ flat_map printed-grants ts

text-printed : (form : Form) (network : Network) (records : List EpochRecord)
    → text_in form network records ≡ printed-text form network (map printed records)
text-printed Report network records =
    let lines = sym (flat_map-map (printed-lines network.table.width) printed records) in
    let clients = sym (fold-map (λ (a : ℕ) (t : Printed). a + t.clients) printed 0 records) in
    λ i. heading network ++ lines i ++ report_end (sym (length-map records printed) i) (clients i)
text-printed Grants network records = ap (λ (xs : List ℕ). grants_header ++ xs)
    (sym (flat_map-map printed-grants printed records))

-- it follows from the batch
abbrev printed-of : Bool → ℕ → ℕ → List (ℕ × List Client) → List Printed
printed-of carry w m [] = []
printed-of carry w m (e ∷ epochs) =
    record { number = e.0; clients = length e.1; counts = shares_after m (length e.1) w; holders = map (λ (c : Client). c.id) e.1 }
    ∷ printed-of carry w (when carry (m + length e.1)) epochs

printed-served : (carry : Bool) (w m : ℕ) (epochs : List BatchEpoch) (records : List EpochRecord) → AreServed carry w m epochs records
    → AllZip IsInOrder epochs records
    → map printed records ≡ printed-of carry w m (map plain_epoch epochs)
unfolding AreServed
printed-served carry w m [] [] served ordered = refl
printed-served carry w m [] (r ∷ records) served ordered = absurd served
printed-served carry w m (e ∷ epochs) [] served ordered = absurd served
printed-served carry w m (e ∷ epochs) (r ∷ records) (one, rest) (order, others) =
    let counts : r.counts.items ≡ shares_after m (length e.clients.items) w = one.counts ∙ ap (λ (k : ℕ). shares_after m k w) one.clients in
    λ i. record { number = one.number i; clients = one.clients i; counts = counts i; holders = order i }
    ∷ printed-served carry w (when carry (m + length e.clients.items)) epochs records rest others i

pub one-text-in-order : (net : Description) (form : Form) (carry large : Bool) (bytes text other : List ℕ)
    (one : IsRunInOrder net form carry large bytes text) (another : IsRunInOrder net form carry large bytes other)
    → map plain_epoch one.run.epochs ≡ map plain_epoch another.run.epochs → text ≡ other
one-text-in-order net form carry large bytes text other one another same =
    let networks = one-network net one.run.network another.run.network one.run.built another.run.built in
    let first = printed-served carry one.run.network.table.width 0 one.run.epochs one.run.records one.run.served one.ordered in
    let second = printed-served carry another.run.network.table.width 0 another.run.epochs another.run.records another.run.served
    another.ordered in
    one.run.written
    ∙ text-printed form one.run.network one.run.records
    ∙ ap (printed-text form one.run.network) first
    ∙ (λ i. printed-text form (networks i) (printed-of carry (networks i).table.width 0 (same i)))
    ∙ sym (ap (printed-text form another.run.network) second)
    ∙ sym (text-printed form another.run.network another.run.records)
    ∙ sym another.run.written
