use Rattle.cn_texts.proofs.Common.{◌+◌, ◌∙◌, ◌-◌, ap₂, sym, zero-add, share, get_or-map-range_with_len}
use Rattle.cn_texts.proofs.writing.outcome.count_after.Goals as goal

pub returns : goal.returns
returns c =
    let m = c.args.before in
    let all = m + c.args.clients in
    ap₂ (λ a b. a - b) c.expected.ensures c.expected-2.ensures
    ∙ sym (get_or-map-range_with_len (λ i. share all c.args.width i - share m c.args.width i) 0 c.args.width c.args.exit c.args.exit 0
    c.requires.exit (zero-add c.args.exit))
