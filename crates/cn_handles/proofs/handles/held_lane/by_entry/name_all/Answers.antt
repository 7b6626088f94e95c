use Rattle.cn_handles.proofs.Common.{rules, ◌≡◌, ℕ, ◌-◌, List, arith, drop, length, map, take, ap, ◌∙◌, subst, length-drop, take_all, IsLongestRun, first_entry, Client}
use Rattle.cn_handles.proofs.Listed.{all-named, run-more}
use Rattle.cn_handles.proofs.handles.held_lane.by_entry.name_all.Goals as goal

pub loop-named-preserved : goal.loop-named-preserved
loop-named-preserved c =
    let clients : List Client = c.args.clients.now in
    let i : ℕ = c.loop-named.named in
    let n : ℕ = c.copy_run-count.result in
    let rest : List Client = take (length clients - i) (drop i clients) in
    let whole : rest ≡ drop i clients = take_all (length clients - i) (drop i clients) (omega (arith, length-drop i clients)) in
    let (was, many) = c.loop-named.invariant in
    let made = c.copy_run-count.ensures in
    let run : IsLongestRun (drop i clients) (first_entry rest) 64 n =
    subst (λ (x : List Client × ℕ). IsLongestRun x.0 (first_entry rest) x.1 n) (λ j. (whole j, many j)) made.run in
    let ids = made.ids ∙ ap (λ (cs : List Client). map (λ (d : Client). d.client) (take n cs)) whole in
    let is = c.name_run.ensures in (
      run-more c.args.lane.now c.loop-named.lane c.name_run.new.lane clients i n (first_entry rest) _ was run ids
          is.named is.walked is.in_state,
      made.same ∙ many,
    )

pub returns : goal.returns
returns c =
    all-named c.args.lane.now c.loop-named.lane c.args.clients.now c.loop-named.named c.loop-named.invariant.0
    c.loop-named-test.false (λ stood. search rules)
