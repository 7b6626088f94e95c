use Rattle.cn_lists.proofs.Common.{rules, ◌≡◌, ℕ, List, [], length, sym, ap, ◌∙◌, refl, subst, append-nil, times-nil, Grant, View, AreNamesBy, AreNoted, ListFrame, gone_too, placed}
use Rattle.cn_lists.proofs.ByPlace.{by-place}
use Rattle.cn_lists.proofs.listed.TogetherWalkUnit.walk.Goals as goal

-- what was lent to the notes is what they have in the end
from : {X : Type 0} {a b c : X} → b ≡ c → a ≡ b → a ≡ c
from later first = first ∙ later

called : {grants : List Grant} {clients xs ys : List ℕ} → ys ≡ xs → AreNamesBy grants clients xs → AreNamesBy grants clients ys
called {grants} {clients} same is = subst (λ (zs : List ℕ). AreNamesBy grants clients zs) (sym same) is

-- nobody is noted yet
none-noted : (clients names : List ℕ) (before all : List Grant) → all ≡ before → AreNoted before before (λ _. 0) clients all names
none-noted clients names before all same = record {
  items = same;
  places = [];
  often = λ k. times-nil k;
  more = [];
  grew = sym (append-nil before);
  whose = refl;
  called = λ _ _. refl;
}

pub returns-clause-granted : goal.returns-clause-granted
returns-clause-granted c =
    from (c.walk_party.ensures.noted _ _ (none-noted c.args.self.now.clients.now c.args.self.now.names.now c.args.post.now.view.grants
    c.args.grants.now.items c.requires.granted)).items (search rules)

pub returns-clause-walked : goal.returns-clause-walked
returns-clause-walked c =
    let v : View = c.args.post.now.view in
    let w : View = c.walk_party.new.post.view in
    let clients : List ℕ = c.args.self.now.clients.now in
    let kept = c.walk_party.ensures.kept in
    let noted = c.walk_party.ensures.noted v.grants (λ _. 0)
    (none-noted clients c.args.self.now.names.now v.grants c.args.grants.now.items c.requires.granted) in
    let of_list = subst (λ (xs : List ℕ). AreNoted v.grants w.grants (gone_too (λ _. 0) (placed clients 0 1 (length clients))) xs
    c.walk_party.new.notes.grants.now.items c.walk_party.new.notes.list.now.names.now) (ap (λ (f : ListFrame). f.clients) kept) noted in (
      c.walk_party.ensures.walked,
      from (ap (λ (f : ListFrame). f.names) kept) (search rules),
      λ size.
          let (more, grew, named) = by-place of_list (ap (λ (f : ListFrame). f.size) kept ∙ size) in
          (more, grew, called (search rules) named),
    )
