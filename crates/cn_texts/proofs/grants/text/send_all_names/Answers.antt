use Rattle.cn_texts.proofs.Common.{◌≡◌, ◌+◌, ◌++◌, ◌∙◌, ℕ, Bool, List, [], ap, append_assoc, append-nil, arith, drop, length, refl, subst, sym, take, when, BatchEpoch, EpochRecord, grant_lines, AreRecordsOf}
use Rattle.cn_texts.proofs.WritingLemmas.Putting.{put-none, put-same, put-then}
use Rattle.cn_texts.proofs.WritingLemmas.RecordLines.{FirstRecord, first-clients, first-record, last-record}
use Rattle.cn_texts.proofs.grants.text.send_all_names.Invariants.{lines}
use Rattle.cn_texts.proofs.grants.text.send_all_names.Goals as goal

-- a record, by what is put of it
record-lines : (carry : Bool) (w m : ℕ) (e : BatchEpoch) (epochs : List BatchEpoch) (records : List EpochRecord) (holders own : List ℕ)
    → own ≡ take (length e.clients.items) holders
    → length own ≡ length e.clients.items → (f : FirstRecord (λ r. grant_lines r.number r.clients r.holders.items) carry w m e epochs
    records holders)
    → lines records ≡ grant_lines e.number (length own) own ++ lines f.later
record-lines carry w m e epochs records holders own front many f =
    f.parts ∙ ap (λ (t : List ℕ). t ++ lines f.later) (rw (f.mine.number, f.mine.clients, f.mine.holders, many, front) refl)

pub split_at-requires : goal.split_at-requires
split_at-requires g c =
    let e = c.epoch-item.result in
    let all = first-clients c.args.epochs.now c.loop-epoch.epoch-index e c.loop-epoch-test.true c.epoch-item.is in
    omega (arith, c.len.ensures, e.clients.ok.0, c.loop-epoch.invariant.as_many, all)

pub loop-epoch-init : goal.loop-epoch-init
loop-epoch-init g c = record { as_many = c.requires; put = λ carry width records are. (0, records, are, [], refl, put-none) }

pub loop-epoch-preserved : goal.loop-epoch-preserved
loop-epoch-preserved g c =
    let e = c.epoch-item.result in
    let count : c.len.result ≡ length e.clients.items = omega (arith, c.len.ensures, e.clients.ok.0) in
    let front = c.split_at.ensures.front ∙ ap (λ n. take n c.loop-epoch.left.now) count in
    let all = first-clients c.args.epochs.now c.loop-epoch.epoch-index e c.loop-epoch-test.true c.epoch-item.is in
    let back = c.split_at.ensures.back ∙ ap (λ n. drop n c.loop-epoch.left.now) count in
    record {
      as_many = omega (arith, count, c.split_at.ensures.back_len, c.loop-epoch.invariant.as_many, all);
      put = λ carry width records are.
          let (m, later, rest, sofar, whole, puts) = c.loop-epoch.invariant.put carry width records are in
          let f = first-record (λ r. grant_lines r.number r.clients r.holders.items) carry width m c.args.epochs.now
          c.loop-epoch.epoch-index e later c.loop-epoch.left.now c.loop-epoch-test.true c.epoch-item.is rest in
          let many = c.split_at.ensures.front_len ∙ count in
          let mine : List ℕ = grant_lines e.number (length c.split_at.result.0.now) c.split_at.result.0.now in
          let own : grant_lines f.first.number f.first.clients f.first.holders.items ≡ mine =
          rw (f.mine.number, f.mine.clients, f.mine.holders, many, front) refl in (
            when carry (m + length e.clients.items),
            f.later,
            subst (λ (t : List ℕ). AreRecordsOf carry width (when carry (m + length e.clients.items))
                (drop (c.loop-epoch.epoch-index + 1) c.args.epochs.now) f.later t) (sym back) f.rest,
            sofar ++ mine,
            whole ∙ ap (λ (t : List ℕ). sofar ++ t) (f.parts ∙ ap (λ (t : List ℕ). t ++ lines f.later) own)
                ∙ sym (append_assoc sofar mine (lines f.later)),
            put-then puts c.send_names.ensures,
          );
    }

pub returns : goal.returns
returns g c carry width records are =
    let (m, later, rest, sofar, whole, puts) = c.loop-epoch.invariant.put carry width records are in
    let none = last-record (λ r. grant_lines r.number r.clients r.holders.items) carry width m c.args.epochs.now c.loop-epoch.epoch-index
    later c.loop-epoch.left.now c.loop-epoch-test.false rest in
    put-same (sym (whole ∙ ap (λ (t : List ℕ). sofar ++ t) none ∙ append-nil sofar)) puts
