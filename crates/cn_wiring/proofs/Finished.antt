-- Drafts of whole networks, and the networks that are finished of them.
use Rattle.cn_wiring.proofs.Common.{◌≡◌, ℕ, ◌+◌, ◌^◌, ◌<◌, List, length, get_or, map, sym, ap, ◌∙◌, subst, arith, zero-add, range_with_len, get_or-map, length-map, fill_by_all, IsRow, IsStep, times, Exit, IsTableOf, Plan, Builds, Each, HasLevel, IsFlow, entries_alone, loose, Table, IsFullFlow, plan_of_table, sum_at, flow-plan}
use Rattle.cn_tables.specs.declared.kind.Kind.{Kind}
use Rattle.cn_wiring.specs.Built.{IsBuilt}
use Rattle.cn_tables.specs.Network.{Network, IsNetwork, exit_flows}

-- ---- by what finish ensures

pub draft-flow : (t : Table) (d : Plan) → plan_of_table t ≡ d → (f : ℕ → ℕ) → IsFullFlow t f → IsFlow d f
draft-flow t d same f full = subst (λ p. IsFlow p f) same (flow-plan t f full)

pub exits-flow : (t : Table) (outs : List ℕ) → t.width ≡ length outs
    → ((i : ℕ) (f : ℕ → ℕ) → i < length outs → sum_at t (Exit i) f ≡ f (get_or outs i 0))
    → (f : ℕ → ℕ) → exit_flows t f ≡ map f outs
exits-flow t outs wide at f =
    ap (λ n. map (λ i. sum_at t (Exit i) f) (range_with_len 0 n)) wide
    ∙ sym (fill_by_all (λ i. sum_at t (Exit i) f) (map f outs) (length outs) 0 (length-map outs f)
    (λ i l. get_or-map f outs i 0 0 l ∙ sym (at i f l)))

-- ---- a draft of a whole network

-- a draft of so many entries, balancers and layers, whose loose wires are a row of a level, outs, and what its flows put on them
pub record Drawn (d : Plan) (outs : List ℕ) (entries size depth level : ℕ) (row : (ℕ → ℕ) → List ℕ) : Type 0 where
  pub ins : d.entries ≡ entries
  pub balancers : d.balancers ≡ size
  pub exits : IsRow level outs
  pub each : (w : ℕ) → times w outs ≡ loose d w
  pub deep : Each (HasLevel d depth) outs
  pub flow : (f : ℕ → ℕ) → IsFlow d f → map f outs ≡ row f

outputs-each : {old new : Plan} {x y : List ℕ} {depth size : ℕ} → Builds old new x y depth size → ((w : ℕ) → loose old w ≡ times w x)
    → (w : ℕ) → times w y ≡ loose new w
outputs-each built all w = let h = built.loosed w in let k = all w in omega arith

-- a part over all entries of a new draft
pub drawn : {old d : Plan} {x outs : List ℕ} {depth size : ℕ} (entries level : ℕ) (row : (ℕ → ℕ) → List ℕ)
    → old ≡ entries_alone entries → ((w : ℕ) → loose old w ≡ times w x) → Each (HasLevel old 0) x
    → Builds old d x outs depth size → IsRow level outs → ((f : ℕ → ℕ) → IsFlow d f → map f outs ≡ row f)
    → Drawn d outs entries size depth level row
drawn {old} {d} {x} {outs} {depth} {size} entries level row new all none built exits flow = record {
  ins = built.entries ∙ ap (λ p. p.entries) new;
  balancers = built.balancers ∙ ap (λ p. p.balancers + size) new ∙ zero-add size;
  exits = exits;
  each = outputs-each built all;
  deep = subst (λ n. Each (HasLevel d n) outs) (zero-add depth) (built.level 0 none);
  flow = flow;
}

pub drawn-counts : {d : Plan} {outs : List ℕ} {entries size depth level : ℕ} {row : (ℕ → ℕ) → List ℕ}
    → Drawn d outs entries size depth level row
    → ((f : ℕ → ℕ) → IsStep (row f)) → (f : ℕ → ℕ) → IsFlow d f → IsStep (map f outs)
drawn-counts drawing step f flow = subst IsStep (sym (drawing.flow f flow)) (step f)

-- ---- the network that is finished of it

pub drawn-built : {d : Plan} {outs : List ℕ} {entries size depth level : ℕ} {row : (ℕ → ℕ) → List ℕ} (n : Network) (kind : Kind) (width : ℕ)
    → width ≡ 2 ^ level → Drawn d outs entries size depth level row
    → IsTableOf n.table (d, outs) → (n.kind ≡ kind) × (n.depth ≡ depth) → IsNetwork n → IsBuilt n kind entries width size depth
drawn-built n kind width wide drawing table named counts = record {
  kind = named.0;
  entries = ap (λ p. p.entries) table.plan ∙ drawing.ins;
  width = table.width ∙ drawing.exits ∙ sym wide;
  balancers = ap (λ p. p.balancers) table.plan ∙ drawing.balancers;
  depth = named.1;
  counts = counts;
}
