use Rattle.cn_floor.proofs.Common.{◌≡◌, ℕ, List, ap, sym, ◌∙◌, slots_items, spread, words_in, IsSpaced, rules, arith}
use Rattle.std.proofs.lemmas.Grind.{common_steps}
use Rattle.cn_floor.proofs.InStates.Spreads.{spread-one}
use Rattle.cn_floor.proofs.floor.reading.copy_words.Goals as goal

-- words side by side are all that the table has
side-by-side : (stride : ℕ) (spaced : List ℕ) → IsSpaced stride spaced → stride ≡ 1 → words_in stride spaced ≡ spaced
side-by-side stride spaced is one = sym (is.apart ∙ ap (λ (n : ℕ). spread n (words_in stride spaced)) one
    ∙ spread-one (words_in stride spaced))

pub copy_adjacent-requires-clause-places : goal.copy_adjacent-requires-clause-places
copy_adjacent-requires-clause-places c =
    let same = side-by-side c.args.stride (slots_items c.args.table.now.words) c.requires.spaced c.if-stride-eq1.true in
    rw (← same) (search rules)

pub returns-then-stride-eq1 : goal.returns-then-stride-eq1
returns-then-stride-eq1 c =
    let same = side-by-side c.args.stride (slots_items c.args.table.now.words) c.requires.spaced c.if-stride-eq1.true in
    rw same (grind (arith, common_steps))
