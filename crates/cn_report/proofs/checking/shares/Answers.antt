use Rattle.cn_report.proofs.Common.{◌≡◌, ◌∙◌, ◌∷◌, ◌++◌, [], true, arith, rules, sym, share, is_ok, map-range_with_len_more}
use Rattle.cn_report.proofs.checking.shares.Goals as goal

pub loop-exit-preserved : goal.loop-exit-preserved
loop-exit-preserved c =
    let good : is_ok c.push.result ≡ true = search rules in
    let items = rw good at c.push.ensures.items in
    let part : c.expected.result ≡ share c.args.clients c.args.width c.loop-exit.exit = rw c.from.ensures at c.expected.ensures in
    record {
      counts = items ∙ (λ i. c.loop-exit.invariant.counts i ++ part i ∷ [])
          ∙ sym (map-range_with_len_more (share c.args.clients c.args.width) 0 c.loop-exit.exit c.loop-exit.exit (omega arith));
    }
