use Rattle.cn_handles.proofs.Common.{◌≡◌, ℕ, ◌-◌, ◌<◌, ◌≤◌, get_or, length, map, take, first_entry, Client}
use Rattle.cn_handles.proofs.handles.held_lane.by_entry.copy_run.Given as goal

abbrev pub invariant-loop-count : goal.invariant-loop-count
invariant-loop-count l = record {
  few : l.count ≤ length l.clients;
  space : l.count ≤ length l.ids;
  same : length l.ids ≡ length l.initial.ids;
  run : (i : ℕ) (d : Client) → i < l.count → (get_or l.clients i d).entry ≡ first_entry l.clients;
  are : take l.count l.ids ≡ map (λ c. c.client) (take l.count l.clients);
}

abbrev pub decreases-loop-count : goal.decreases-loop-count
decreases-loop-count l = length l.clients - l.count
