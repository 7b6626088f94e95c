use Rattle.cn_floor.proofs.Common.{◌≡◌, ℕ, ◌+◌, replicate, sym, ap, ◌∙◌, subst, arith, Table, clients_in, word_count, IsCarried}
use Rattle.cn_floor.proofs.InStates.Openings.{carries-nothing, none-came}
use Rattle.cn_floor.proofs.floor.opening.zeros.Goals as goal

module _ (c : goal.In_ok-words) where
  abbrev t : Table
  t = c.args.network.now.table

  words : c.in_ok-words.words.items ≡ replicate (word_count t) 0
  words =
      let count : 1 + c.entries-entries.result + (c.balancers.result + c.width.result) ≡ word_count t =
      omega (arith, c.entries-entries.ensures.value, c.balancers.ensures.value, c.width.ensures.value) in
      c.in_ok-words.ensures.items_if_clones_equal (λ y h. h) ∙ ap (λ (n : ℕ). replicate {A = ℕ} n 0) count

pub returns-clause-carried : goal.returns-clause-carried
returns-clause-carried c = subst (IsCarried c.args.network.now.table) (sym (words c)) (carries-nothing _)

pub returns-clause-nobody : goal.returns-clause-nobody
returns-clause-nobody c = ap (clients_in c.args.network.now.table) (words c) ∙ none-came c.args.network.now.table
