-- What a post keeps.
use Rattle.std.specs.Prelude.{◌≡◌, [], length}
use Rattle.cn_floor.specs.declared.floor.post.Post.TheInside.{Inside}
use Rattle.cn_floor.specs.Lane.{PostValue}

-- a post as contracts see it
abbrev pub post_of : Inside → PostValue
post_of p = record {
  home = record { table = p.seat.table_id; start = p.seat.me.0.start };
  view = p.seat.me.0;
}

-- its seat is between two steps, and its quota is that of its view
pub record IsPost (p : Inside) : Type 0 where
  pub no_slot : p.seat.me.1 ≡ []
  pub idle : p.seat.me.0.loads ≡ []
  pub wires : length p.seat.me.0.tokens ≡ length p.seat.me.0.start.network.table.ends
  pub quota : p.quota ≡ p.seat.me.0.quota
