use Rattle.cn_texts.proofs.Common.{◌≡◌, ◌∷◌, ◌++◌, ◌∙◌, ◌+◌, [], ℕ, ap, arith, decimal, map, sym, range_with_len, flat_map_more, share, map-range_with_len_more, tight_counts}
use Rattle.cn_texts.proofs.WritingLemmas.Putting.{put-none, put-same, put-then}
use Rattle.cn_texts.proofs.grants.tight.send_shares.Goals as goal

pub loop-exit-init : goal.loop-exit-init
loop-exit-init g c = put-none

pub loop-exit-preserved : goal.loop-exit-preserved
loop-exit-preserved g c =
    let part = share c.args.clients c.args.width in
    let i = c.loop-exit.exit in
    let before = map part (range_with_len 0 i) in
    let more : tight_counts before ++ (32 ∷ decimal (part i)) ≡ tight_counts (map part (range_with_len 0 (i + 1))) =
    flat_map_more (λ (count : ℕ). 32 ∷ decimal count) [] before (part i)
    ∙ ap tight_counts (sym (map-range_with_len_more part 0 i i (omega arith))) in
    put-same more (put-then c.loop-exit.invariant (rw (c.expected.ensures, c.from.ensures) at c.send_number.ensures))

pub returns : goal.returns
returns g c =
    put-same (ap (λ n. tight_counts (map (share c.args.clients c.args.width) (range_with_len 0 n)))
    (let all : c.loop-exit.exit ≡ c.args.width = omega arith in all)) c.loop-exit.invariant
