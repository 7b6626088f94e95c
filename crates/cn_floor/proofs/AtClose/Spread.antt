-- What the table of a floor has at the end, where its words lie a stride apart.
use Rattle.cn_floor.proofs.Common.{◌≡◌, ℕ, List, sym, ap, ◌∙◌, subst, Final, Seen, View, spread, start_of, IsEnding, IsCounters, picked}
use Rattle.cn_floor.specs.declared.floor.counters.Counters.TheInside.{Inside}
use Rattle.cn_floor.proofs.AtClose.Closings.{ending-at}
use Rattle.cn_floor.proofs.InStates.Spreads.{Rule, picked-spread}

module _ (c : Inside) (is : IsCounters c) {id : ℕ} {v : View} {spaced : List ℕ} (xs : List (Unit {0}))
    (end : Final (Seen (Rule c is) id v) spaced xs) where
  abbrev words : List ℕ
  words = end.1.0.0

  apart : spaced ≡ spread c.stride words
  apart = sym end.2 ∙ end.1.0.1 ∙ ap (λ (n : ℕ). spread n words) is.apart

  same : picked c.stride 0 spaced ≡ words
  same = ap (λ (ws : List ℕ). picked c.stride 0 ws) apart ∙ picked-spread c.stride is.stride.0 words

  -- those picked are all of them
  pub picked-all : spaced ≡ spread c.stride (picked c.stride 0 spaced)
  picked-all = apart ∙ sym (ap (λ (ws : List ℕ). spread c.stride ws) same)

  pub ending-spread : IsEnding (start_of c.table.shared.key) v (picked c.stride 0 spaced)
  ending-spread =
      subst (λ (w : List ℕ). IsEnding (start_of c.table.shared.key) v w) (sym same)
      (ending-at (start_of c.table.shared.key) (record { words = words; homes = end.0.homes; views = end.0.views }) id v end.1.0.2 end.1.1)
