use Rattle.cn_floor.proofs.Common.{◌≡◌, ℕ, ◌-◌, sym, ap, ◌∙◌, subst, arith, FloorValue, Network, base, name_of, IsGranted}
use Rattle.cn_floor.proofs.InLane.Named.{granted, name-fits}
use Rattle.cn_floor.proofs.floor.Floor.grant_one.Goals as goal

pub name_of-requires : goal.name_of-requires
name_of-requires g c =
    let width = c.width.ensures.value ∙ ap (λ (n : Network). n.table.width) c.requires.network in
    omega (
      arith,
      name-fits _ _ _ _ _ _ _ c.start_laws.ensures
          (c.post_laws.ensures.start ∙ ap (λ (h : FloorValue). h.start) c.requires.own)
          c.walk_through-exit.ensures.walked c.requires.quota,
      ap (λ (k : ℕ). name_of k c.walk_through-exit.result.0 c.walk_through-exit.result.1) width,
    )

pub returns-clause-granted : goal.returns-clause-granted
returns-clause-granted g c =
    let width = c.width.ensures.value ∙ ap (λ (n : Network). n.table.width) c.requires.network in
    let came = c.self.invariant.base ∙ ap (λ (h : FloorValue). base h.start) c.self.view_is in
    let named : c.name_of.result - c.self.inside.base
    ≡ name_of c.args.self.now.start.network.table.width c.walk_through-exit.result.0 c.walk_through-exit.result.1 - base
    c.args.self.now.start =
    (λ i. c.name_of.ensures i - came i) ∙ ap
    (λ (k : ℕ). name_of k c.walk_through-exit.result.0 c.walk_through-exit.result.1 - base c.args.self.now.start) width in
    subst (λ (n : ℕ). IsGranted c.args.self.now.start c.args.client c.args.entry
    (record { client = c.args.client; exit = c.walk_through-exit.result.0; visit = c.walk_through-exit.result.1; name = n })
    c.args.post.now.view c.walk_through-exit.new.post.view)
    (sym named) (granted _ _ _ _ _ _ _ c.start_laws.ensures
    (c.post_laws.ensures.start ∙ ap (λ (h : FloorValue). h.start) c.requires.own)
    c.walk_through-exit.ensures.walked c.requires.quota)
