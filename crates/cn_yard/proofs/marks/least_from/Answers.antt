use Rattle.cn_yard.proofs.Common.{◌≡◌, ℕ, ◌-◌, ◌<◌, List, drop, length, take, arith, subst, length-drop, take_all, marked}
use Rattle.cn_yard.proofs.Bits.{least-from, none-from}
use Rattle.cn_yard.proofs.marks.least_from.Goals as goal

-- what is read are the words from one on
rest : (words : List ℕ) (at : ℕ) → take (length words - at) (drop at words) ≡ drop at words
rest words at = take_all (length words - at) (drop at words) (omega (arith, length-drop at words))

pub returns-in-None : goal.returns-in-None
returns-in-None c =
    let words : List ℕ = c.args.words.now in
    none-from words c.args.word (subst (λ (ws : List ℕ). (n : ℕ) → marked ws n ≡ 0) (rest words c.args.word) c.in-None.ensures)

pub returns-in-Some : goal.returns-in-Some
returns-in-Some c =
    let words : List ℕ = c.args.words.now in
    let same = rest words c.args.word in
    least-from words c.args.word c.in-Some.number (subst (λ (ws : List ℕ). marked ws c.in-Some.number ≡ 1) same c.in-Some.ensures.0)
    (subst (λ (ws : List ℕ). (n : ℕ) → n < c.in-Some.number → marked ws n ≡ 0) same c.in-Some.ensures.1)
