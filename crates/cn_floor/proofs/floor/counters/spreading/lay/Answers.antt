use Rattle.cn_floor.proofs.Common.{◌≡◌, ◌*◌, ◌+◌, suc, ℕ, List, ap, arith, get_or, length, set, sym, ◌∙◌, spread}
use Rattle.cn_floor.proofs.InStates.Spreads.{laid, laid-all, laid-next, spread-zeros, set-spread}
use Rattle.cn_floor.proofs.floor.counters.spreading.lay.Goals as goal

pub loop-word-init : goal.loop-word-init
loop-word-init c = c.requires.zeros ∙ sym (spread-zeros c.args.stride c.requires.stride (length c.args.words.now))

pub loop-word-preserved : goal.loop-word-preserved
loop-word-preserved c =
    let ws : List ℕ = c.args.words.now in
    let n : ℕ = c.loop-word.word in
    let k : ℕ = c.args.stride in
    let next : suc n ≡ n + 1 = omega arith in
    ap (λ (spaced : List ℕ). set spaced (k * n) (get_or ws n 0)) c.loop-word.invariant
    ∙ set-spread k c.requires.stride (laid n ws) n (get_or ws n 0)
    ∙ ap (spread k) (laid-next ws n (omega (arith, c.loop-word-test.true)) ∙ ap (λ (m : ℕ). laid m ws) next)

pub returns : goal.returns
returns c =
    c.loop-word.invariant ∙ ap (spread c.args.stride)
    (laid-all c.args.words.now c.loop-word.word (omega (arith, c.loop-word-test.false, c.loop-word.auto.word-end)))
