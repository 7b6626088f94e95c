use Rattle.cn_texts.proofs.Common.{◌≡◌, ◌+◌, ◌++◌, ◌∙◌, ℕ, List, [], ap, append_assoc, append-nil, arith, drop, length, refl, subst, sym, take, flat_map, shares_after, when, exit_lines, name_lines, AreRecordsOf, epoch_line, epoch_lines}
use Rattle.cn_texts.proofs.WritingLemmas.Putting.{put-none, put-same, put-then}
use Rattle.cn_texts.proofs.WritingLemmas.RecordLines.{first-clients, first-record, last-record, when-le}
use Rattle.cn_texts.proofs.writing.report.send_epochs.Goals as goal

pub split_at-requires : goal.split_at-requires
split_at-requires g c =
    let e = c.epoch-item.result in
    let all = first-clients c.args.epochs.now c.loop-epoch.epoch-index e c.loop-epoch-test.true c.epoch-item.is in
    omega (arith, c.len.ensures, e.clients.ok.0, c.loop-epoch.invariant.as_many, all)

pub loop-epoch-init : goal.loop-epoch-init
loop-epoch-init g c =
    record {
      as_many = c.requires.as_many;
      few = omega (arith, c.requires.as_many, c.requires.few);
      put = λ records are. (records, are, [], refl, put-none);
    }

pub loop-epoch-preserved : goal.loop-epoch-preserved
loop-epoch-preserved g c =
    let e = c.epoch-item.result in
    let w = c.args.width in
    let m = c.loop-epoch.before in
    let count : c.len.result ≡ length e.clients.items = omega (arith, c.len.ensures, e.clients.ok.0) in
    let front = c.split_at.ensures.front ∙ ap (λ n. take n c.loop-epoch.left.now) count in
    let all = first-clients c.args.epochs.now c.loop-epoch.epoch-index e c.loop-epoch-test.true c.epoch-item.is in
    let back = c.split_at.ensures.back ∙ ap (λ n. drop n c.loop-epoch.left.now) count in
    let many = c.split_at.ensures.front_len ∙ count in
    let next : c.carried-before.result ≡ when c.args.carries (m + length e.clients.items) =
    c.carried-before.ensures ∙ ap (λ n. when c.args.carries (m + n)) many in
    record {
      as_many = omega (arith, count, c.split_at.ensures.back_len, c.loop-epoch.invariant.as_many, all);
      few = omega (
        arith,
        count,
        c.split_at.ensures.back_len,
        c.loop-epoch.invariant.few,
        next,
        when-le c.args.carries (m + length e.clients.items),
      );
      put = λ records are.
          let (later, rest, sofar, whole, puts) = c.loop-epoch.invariant.put records are in
          let n = length c.split_at.result.0.now in
          let own : List ℕ = epoch_line e.number n ++ (exit_lines w (shares_after m n w) ++ name_lines n c.split_at.result.0.now) in
          let f = first-record (epoch_lines w) c.args.carries w m c.args.epochs.now c.loop-epoch.epoch-index e later c.loop-epoch.left.now
          c.loop-epoch-test.true c.epoch-item.is rest in
          let same : epoch_lines w f.first ≡ own =
          rw (f.mine.counts, f.mine.number, f.mine.clients, f.mine.holders, many, front) refl in
          let epochs = drop (c.loop-epoch.epoch-index + 1) c.args.epochs.now in
          let after = subst (λ (t : List ℕ). AreRecordsOf c.args.carries w (when c.args.carries (m + length e.clients.items)) epochs f.later
          t) (sym back) f.rest in (
            f.later,
            subst (λ n. AreRecordsOf c.args.carries w n epochs f.later c.split_at.result.1.now) (sym next) after,
            sofar ++ own,
            whole ∙ ap (λ (t : List ℕ). sofar ++ t)
                (f.parts ∙ ap (λ (t : List ℕ). t ++ flat_map (epoch_lines w) f.later) same)
                ∙ sym (append_assoc sofar own (flat_map (epoch_lines w) f.later)),
            put-then puts c.send_epoch.ensures.puts,
          );
    }

pub returns : goal.returns
returns g c records are =
    let (later, rest, sofar, whole, puts) = c.loop-epoch.invariant.put records are in
    let none = last-record (epoch_lines c.args.width) c.args.carries c.args.width c.loop-epoch.before c.args.epochs.now
    c.loop-epoch.epoch-index later c.loop-epoch.left.now c.loop-epoch-test.false rest in
    put-same (sym (whole ∙ ap (λ (t : List ℕ). sofar ++ t) none ∙ append-nil sofar)) puts
