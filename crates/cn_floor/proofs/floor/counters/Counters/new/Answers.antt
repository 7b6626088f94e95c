use Rattle.cn_floor.proofs.Common.{◌≡◌, ◌*◌, ℕ, List, [], length, sym, ap, ◌∙◌, subst, opening, HoldsAt, IsStart, Start, start_of, word_count, empty_view}
use Rattle.cn_floor.specs.declared.view.Opening.{Opening}
use Rattle.cn_floor.proofs.InStates.Openings.{begins}
use Rattle.cn_floor.proofs.floor.counters.Counters.new.Goals as goal

pub table_of-requires-clause-began : goal.table_of-requires-clause-began
table_of-requires-clause-began c =
    let start : Start = record {
      network = c.args.network.now;
      quota = c.args.quota;
      words = c.args.words.now.items;
      stride = c.args.stride;
    } in
    let words : c.of-2.result.value.items ≡ c.args.words.now.items = λ i. (c.of-2.ensures i).items in
    let same : record { network = c.of.result.value; quota = c.args.quota; words = c.of-2.result.value.items; stride = c.args.stride }
    ≡ start = λ i. record { network = c.of.ensures i; quota = c.args.quota; words = words i; stride = c.args.stride } in
    subst (λ (ws : List ℕ). HoldsAt (start_of record
    { network = c.of.result; quota = c.args.quota; words = c.of-2.result; stride = c.args.stride })
    (opening ws [] (empty_view (start_of record
    { network = c.of.result; quota = c.args.quota; words = c.of-2.result; stride = c.args.stride }) c.args.quota)))
    (words ∙ sym c.as_slice.ensures.value)
    (subst (λ (s : Start). HoldsAt s (opening s.words [] (empty_view s s.quota))) (sym same) (begins start c.requires.began))

pub invariant_of-counters : goal.invariant_of-counters
invariant_of-counters c =
    let start : Start = record {
      network = c.args.network.now;
      quota = c.args.quota;
      words = c.args.words.now.items;
      stride = c.args.stride;
    } in
    let key = c.in_ok-table.ensures.table.1 in
    let same : start_of c.in_ok-table.table.shared.key ≡ start =
    ap start_of key ∙ (λ i. record {
      network = c.of.ensures i;
      quota = c.args.quota;
      words = (c.of-2.ensures i).items;
      stride = c.args.stride;
    }) in
    record {
      words = c.in_ok-table.ensures.words ∙ ap (λ (ws : List ℕ). c.args.stride * length ws) c.as_slice.ensures.value
          ∙ ap (λ (n : ℕ). c.args.stride * n) c.requires.began.carried.words
          ∙ ap (λ (s : Start). c.args.stride * word_count s.network.table) (sym same);
      apart = ap (λ (k : Opening). k.stride) key;
      stride = c.requires.stride;
      slots = c.in_ok-table.ensures.table.0;
      began = subst IsStart (sym same) c.requires.began;
      entries = c.entries.ensures.value ∙ ap (λ (s : Start). s.network.table.entries) (sym same);
      balancers = c.balancers.ensures.value ∙ ap (λ (s : Start). s.network.table.balancers) (sym same);
    }
