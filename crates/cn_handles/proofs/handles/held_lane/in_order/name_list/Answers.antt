use Rattle.cn_handles.proofs.Common.{rules, ◌≡◌, ℕ, ◌+◌, ◌-◌, ◌≤◌, ◌++◌, List, arith, sym, ap, ◌∙◌, subst, drop, length, take, length-map, take_all, LaneValue, HaveNames, all_by, Client}
use Rattle.std.proofs.lemmas.Slice.{take-put_mid}
use Rattle.cn_handles.proofs.InOrder.{as-many-names, both-named, longest, run-ids, run-length}
use Rattle.cn_handles.proofs.Listed.{all-named, run-more, take_both}
use Rattle.cn_handles.proofs.handles.held_lane.in_order.name_list.Goals as goal

pub loop-named-preserved : goal.loop-named-preserved
loop-named-preserved c =
    let ids : List ℕ = c.args.clients.now in
    let entry : ℕ = c.args.entry in
    let i : ℕ = c.loop-named.named in
    let n : ℕ = c.min-count.result in
    let old : LaneValue = c.args.lane.now in
    let mid : LaneValue = c.loop-named.lane in
    let last : LaneValue = c.name_run.new.lane in
    let (was, listed) = c.loop-named.invariant in
    let is = c.name_run.ensures in
    let few : i + n ≤ length ids = omega (arith, c.min-count.ensures, c.loop-named-test.true) in
    let run : List ℕ = take (i + n - i) (drop i ids) in
    let whole : run ≡ take n (drop i ids) = ap (λ (k : ℕ). take k (drop i ids)) (let e : i + n - i ≡ n = omega arith in e) in
    let before : List ℕ = c.loop-named.names in
    let names : List ℕ = c.name_run.new.names in
    let as_long : length before ≡ length ids = omega (arith, c.loop-named.auto.names, c.requires.space) in
    let long : length run ≡ i + n - i = run-length i (i + n - i) ids (omega (arith, few)) in
    let later = is.names (run-length i (i + n - i) before (omega (arith, few, as_long)) ∙ sym long) in
    let many : length names ≡ length run = as-many-names mid.view last.view run names later in
    let written =
    take-put_mid i (i + n - i) before names (i + n) (omega (arith, many, long)) (omega (arith, few, as_long)) in
    let both = take_both i n ids ∙ ap (λ (xs : List ℕ). take i ids ++ xs) (sym whole) in
    let most = longest entry i n 64 ids (omega arith) c.min-count.ensures c.loop-named-test.true in (
      run-more old mid last (all_by entry ids) i n entry run was most (whole ∙ sym (run-ids entry i n ids)) is.named
          is.walked is.in_state,
      subst (λ (x : List ℕ × List ℕ). HaveNames old.view last.view x.0 x.1) (λ j. (sym both j, sym written j))
          (both-named old.view mid.view last.view (take i ids) run (take i before) names listed later),
    )

pub returns : goal.returns
returns c =
    let ids : List ℕ = c.args.clients.now in
    let i : ℕ = c.loop-named.named in
    let all : List Client = all_by c.args.entry ids in
    let old : LaneValue = c.args.lane.now in
    let new : LaneValue = c.loop-named.lane in
    let end : length ids ≤ i = c.loop-named-test.false in
    let long : length all ≡ length ids = length-map ids (λ (id : ℕ). record { client = id; entry = c.args.entry }) in
    let whole : take i ids ≡ ids = take_all i ids end in
    let written : take i c.loop-named.names ≡ c.loop-named.names =
    take_all i c.loop-named.names (omega (arith, end, c.loop-named.auto.names, c.requires.space)) in
    record {
      named = all-named old new all i c.loop-named.invariant.0 (omega (arith, end, long)) (λ stood. search rules);
      listed = subst (λ (x : List ℕ × List ℕ). HaveNames old.view new.view x.0 x.1) (λ j. (whole j, written j))
          c.loop-named.invariant.1;
    }
