-- What is made when a part of a network is added to a plan: the plan after it, and the part's outputs, in order.
use Rattle.std.specs.Prelude.{◌≡◌, ℕ, ◌*◌, List, [], ◌∷◌, length}
use Rattle.std.specs.List.{range_with_len}
use Rattle.cn_tables.specs.Plan.{Plan, next_wire, with_balancer}
use Rattle.cn_tables.specs.Table.{Table, EndsInOrder, plan_of_table}

-- the plan with a balancer more for each pair of wires of two lists, in order
unfoldable pub with_layer : Plan → List ℕ → List ℕ → Plan
with_layer d [] ys = d
with_layer d (x ∷ xs) [] = d
with_layer d (x ∷ xs) (y ∷ ys) = with_layer (with_balancer d (x ∷ y ∷ [])) xs ys

-- a layer of balancers over two lists of one length
abbrev pub layer_made : Plan → List ℕ → List ℕ → Plan × List ℕ
layer_made d xs ys = (with_layer d xs ys, range_with_len (next_wire d) (2 * length xs))

-- the table of the plan that is made, in which its outputs end at the exits, in order
pub record IsTableOf (t : Table) (made : Plan × List ℕ) : Type 0 where
  pub plan : plan_of_table t ≡ made.0
  pub width : t.width ≡ length made.1
  pub exits : EndsInOrder t made.1
