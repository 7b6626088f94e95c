-- The only token of a view, on its way from wire to wire.
use Rattle.std.specs.Prelude.{◌≡◌, ℕ, ◌%◌, ◌<◌, List, [], ◌∷◌, length}
use Rattle.cn_tables.specs.declared.end.End.TheVariants.{Balancer}
use Rattle.cn_tables.specs.Table.{end_of, output_wire}
use Rattle.cn_yard.specs.Lists.{Lists, last_on, on}
use Rattle.cn_floor.specs.declared.view.Start.{Start}
use Rattle.cn_floor.specs.declared.view.View.{View}
use Rattle.cn_floor.specs.Plays.{IsLetBy}
use Rattle.cn_floor.specs.Views.{after_step}

-- a token of a client stands on a wire, and nobody else on any
pub record IsAlone (lists : Lists) (token client wire : ℕ) : Type 0 where
  pub inside : wire < length lists
  pub only : (u : ℕ) → on lists u ≡ last_on token client wire u

-- a client's token passes one balancer after the other from a wire on, by one event each, until it stands on a wire: at
-- each it finds the next of these numbers
unfoldable pub PassesOn : Start → ℕ → ℕ → List ℕ → ℕ → View → ℕ → View → Type 0
PassesOn start token client [] wire v to w = (to ≡ wire) × (w ≡ v)
PassesOn start token client (n ∷ rest) wire v to w =
    (b : ℕ) × (end_of start.network.table wire ≡ Balancer b)
    × IsLetBy start v (after_step token client (Balancer b) n v) client (Balancer b) n
    × PassesOn start token client rest (output_wire start.network.table b (n % 2))
    (after_step token client (Balancer b) n v) to w

-- a view passed balancers, and nothing else changed
pub record OnlyPassed (old new : View) : Type 0 where
  pub start : new.start ≡ old.start
  pub quota : new.quota ≡ old.quota
  pub entries : new.entries ≡ old.entries
  pub came : new.came ≡ old.came
  pub wires : length new.tokens ≡ length old.tokens
  pub grants : new.grants ≡ old.grants
  pub seen : new.seen ≡ old.seen
  pub loads : new.loads ≡ old.loads
