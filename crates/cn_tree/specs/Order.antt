-- The order in which the balancers of a tree are made (Shavit, Zemach, Diffracting Trees, ACM TOCS 1996, section 2).
use Rattle.std.specs.Prelude.{ℕ, zero, suc, List, [], ◌∷◌}
use Rattle.cn_spec.specs.Networks.{interleave}
use Rattle.cn_tables.specs.Plan.{Plan, entries_alone, output, with_balancer}

-- a tree of a level on wire w, in preorder: its root, the tree on the root's output 0, and that on its output 1
unfoldable pub tree_made : ℕ → Plan → ℕ → Plan × List ℕ
tree_made zero d w = (d, w ∷ [])
tree_made (suc level) d w =
    let root = with_balancer d (w ∷ []) in
    let even = tree_made level root (output d d.balancers 0) in
    let odd = tree_made level even.0 (output d d.balancers 1) in
    (odd.0, interleave even.1 odd.1)

-- the whole tree of a level, on the one entry of a new plan
abbrev pub tree_plan : ℕ → Plan × List ℕ
tree_plan level = tree_made level (entries_alone 1) 0
