-- What the view of a lane records, and what the lane's steps make of it.
use Rattle.std.specs.Prelude.{ℕ, ◌+◌, ◌-◌, ◌*◌, ◌%◌, ◌&&◌, ◌==◌, nat_eq, Bool, true, false, List, [], ◌∷◌, ◌++◌, length, map, count_by, max, sum, replicate}
use Rattle.std.specs.List.{range_with_len}
use Rattle.cn_spec.specs.Step.{name_of}
use Rattle.cn_spec.specs.Sums.{sum_below}
use Rattle.cn_tables.specs.declared.end.End.{End}
use Rattle.cn_tables.specs.declared.end.End.TheVariants.{Balancer, Exit}
use Rattle.cn_tables.specs.declared.kind.Kind.TheVariants.{Tree}
use Rattle.cn_tables.specs.Table.{output_wire}
use Rattle.cn_yard.specs.Lists.{last_on, on, without}
use Rattle.cn_floor.specs.declared.view.Start.{Start}
use Rattle.cn_floor.specs.declared.view.View.{View}
use Rattle.cn_floor.specs.Words.{clients_in}

-- how many clients came before the floor began: each name is this much less than in the ledger of all clients
abbrev pub base : Start → ℕ
base start = clients_in start.network.table start.words

-- a lane that has done nothing
abbrev pub empty_view : Start → ℕ → View
empty_view start quota = record {
  start = start;
  quota = quota;
  entries = [];
  came = [];
  tokens = replicate (length start.network.table.ends) [];
  passages = [];
  grants = [];
  seen = 0;
  loads = [];
  steps = 0;
}

-- ---- what a view records

-- how many tokens stand on wire u
abbrev pub on_in : ℕ → View → ℕ
on_in u v = length (on v.tokens u)

-- how often the lane was given number n at an end: a passage's at a balancer, a visit's at an exit
abbrev pub given_in : End → ℕ → View → ℕ
given_in (Balancer b) n v = count_by (λ p. (b == p.balancer) && (p.number == n)) v.passages
given_in (Exit i) n v = count_by (λ g. (i == g.exit) && (g.visit == n)) v.grants

-- how often it has this grant; its name here is that of the ledger of all clients, m more than the lane's
abbrev pub granted_in : ℕ → ℕ → ℕ → ℕ → ℕ → View → ℕ
granted_in m c i v name view =
    count_by (λ g. (g.client == c) && ((g.exit == i) && ((g.visit == v) && (g.name + m == name)))) view.grants

-- how often it went by or left at an end
abbrev pub own_count : End → View → ℕ
own_count (Balancer b) v = count_by (λ p. b == p.balancer) v.passages
own_count (Exit i) v = count_by (λ g. i == g.exit) v.grants

-- the levels of those inside, added up
abbrev pub levels_in : (ℕ → ℕ) → View → ℕ
levels_in level v = sum_below (length v.tokens) (λ u. level u * length (on v.tokens u))

-- ---- what steps make of it

-- a token of a client comes in by an entry, last on its wire, in one step
abbrev pub after_enter : ℕ → ℕ → ℕ → View → View
after_enter token client entry v = record v {
  quota = v.quota - 1;
  entries = v.entries ++ entry ∷ [];
  came = v.came ++ record { id = client; entry = entry } ∷ [];
  tokens = map (λ u. on v.tokens u ++ last_on token client entry u) (range_with_len 0 (length v.tokens));
  steps = v.steps + 1;
}

-- a token of a client goes by an end, and gets the number n, in one step: it stands last on the next output, or is
-- gone with a grant
abbrev pub after_step : ℕ → ℕ → End → ℕ → View → View
after_step token client (Balancer b) n v = record v {
  tokens = map
      (λ u. without token (on v.tokens u) ++ last_on token client (output_wire v.start.network.table b (n % 2)) u)
      (range_with_len 0 (length v.tokens));
  passages = v.passages ++ record { balancer = b; number = n } ∷ [];
  steps = v.steps + 1;
}
after_step token client (Exit i) n v = record v {
  tokens = map (λ u. without token (on v.tokens u) ++ []) (range_with_len 0 (length v.tokens));
  grants = v.grants ++ record {
    client = client;
    exit = i;
    visit = n;
    name = name_of v.start.network.table.width i n - base v.start;
  } ∷ [];
  steps = v.steps + 1;
}

-- the number n is loaded from the next entry's word, in one step; the last load gives the answer
abbrev pub after_load_by : Bool → Start → List ℕ → View → View
after_load_by true start ls v = record v { seen = sum ls - base start; loads = []; steps = v.steps + 1 }
after_load_by false start ls v = record v { loads = ls; steps = v.steps + 1 }

-- the number n is loaded from the word of the next entry, of which the last one gives the answer
abbrev pub after_load : Start → ℕ → View → View
after_load start n v =
    after_load_by (nat_eq (length v.loads + 1) start.network.table.entries) start (v.loads ++ n ∷ []) v

-- a lane got an answer, for which it loaded the word of each entry once
abbrev pub after_entered : Start → ℕ → View → View
after_entered start answer v = record v { seen = answer; steps = v.steps + start.network.table.entries }

-- a lane looked once, and keeps nothing of what it saw
abbrev pub after_look : View → View
after_look v = record v { steps = v.steps + 1 }

-- what is left of a view after q of its quota are split off, in one step
abbrev pub after_split : ℕ → View → View
after_split q v = record v { quota = v.quota - q; steps = v.steps + 1 }

-- what the new lane has, with this quota; its steps are those of the other lane, and the split's is counted in both
abbrev pub split_off : ℕ → View → View
split_off q v = record (empty_view v.start q) { seen = v.seen; steps = v.steps + 1 }

-- two views made one, in one step; the second has no tokens
abbrev pub after_join : View → View → View
after_join v w = record v {
  quota = v.quota + w.quota;
  entries = v.entries ++ w.entries;
  came = v.came ++ w.came;
  passages = v.passages ++ w.passages;
  grants = v.grants ++ w.grants;
  seen = max v.seen w.seen;
  steps = v.steps + w.steps + 1;
}

-- a start that no floor has
abbrev pub no_start : Start
no_start = record {
  network = record {
    table = record { entries = 0; width = 0; balancers = 0; ends = [] };
    kind = Tree;
    depth = 0;
  };
  quota = 0;
  words = [];
  stride = 1;
}

-- the view that is left where one was taken into another
abbrev pub nobody : View
nobody = empty_view no_start 0
