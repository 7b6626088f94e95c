-- What many proofs of this crate import: they import it here.

pub use Rattle.std.proofs.lemmas.Bool.{cases_Bool, cases_eq, cases_lt, eq-eqb, eqb-true, le-ltb, lt-ltb, ltb-true, ne_eqb}
pub use Rattle.std.proofs.lemmas.Bool.Decides.{nat_tests}
pub use Rattle.std.specs.Map.{keys_of, values_of}
pub use Rattle.std.specs.Prelude.{All, AllPairs, Contains, IsSome, count_by, if◌then◌else◌, is_some, nat_lt, option_map, replicate, ◌==◌}
pub use Rattle.cn_names.specs.declared.standing.Standing.TheVariants.{Walking}
pub use Rattle.cn_spec.specs.Step.{name_of, share}
pub use Rattle.cn_spec.specs.Sums.{once_below, one_more, times, when}
pub use Rattle.cn_tables.specs.Network.{IsNetwork, Network}
pub use Rattle.cn_tables.specs.Table.{LeadsOn, Stands, Table, end_of, is_end, sum_at}
pub use Rattle.cn_tables.specs.declared.end.End.{End}
pub use Rattle.cn_tables.specs.declared.end.End.TheVariants.{Balancer, Exit}
pub use Rattle.cn_core.specs.History.{Agrees, AgreesAfter, AreEpochs, ByHistories, Carried, HasOneHolder, IsHistory, MayAnswerAll, carried_by, end_at, enters_of, history_after, inside_of, is_accepted, is_leave, is_same_end, leaves_of, moved_past, position_after, step_answer, steps_before, times_passed}
pub use Rattle.cn_core.specs.InsideClients.{Clients, IsPlaced, StandsFor, position_by, positions, with_position}
pub use Rattle.cn_core.specs.State.{IsState, State, after_carry, came_in, inside_in, is_inside, is_named, name_at, name_in, past, position_in, position_past, start, state_after_enter, state_after_step, times_entered}
pub use Rattle.cn_core.specs.StateLedger.{HasSoundLedger, IsCore, given_in_state, granted_in_state, holds, is_on, state_ledger}
pub use Rattle.cn_core.specs.declared.event.Event.{Event}
pub use Rattle.cn_core.specs.declared.event.Event.TheVariants.{Enter, Step}
pub use Rattle.cn_core.specs.declared.position.Position.{Position}
pub use Rattle.cn_core.specs.declared.position.Position.TheVariants.{Holds, On}
pub use Rattle.std.proofs.Common.{Bool, List, None, Option, Some, [], add-one, add-zero, ap, append-nil, append_assoc, ap₂, arith, cond, drop, drop-cons, eqb, false, get_or, inl, inr, length, length-append, length-set, map, nat_eq, nat_le, refl, rules, slice_index, subst, suc, sym, true, vec_len, zero, zero-add, ℕ, ◌%◌, ◌&&◌, ◌*◌, ◌++◌, ◌+◌, ◌-◌, ◌/◌, ◌<◌, ◌∙◌, ◌∷◌, ◌≡◌, ◌≢◌, ◌≤◌}
pub use Rattle.cn_spec.proofs.CallerLemmas.{each_below, exit_of-name_of, name-below, name_of-exit_of, one_more-at, sum-below-change, sum-below-part, sum-below-zero, times-cons, times-nil, total-where-agree, zero_at}
pub use Rattle.cn_spec.specs.declared.limits.TheConstants.{MOST_ARRIVALS, MOST_CARRIED, MOST_CLIENTS}
pub use Rattle.cn_yard.proofs.CallerLemmas.{count-pair-found, count-pair-push, count-pair-set, count-push, count-set, lookup-push, lookup-set, times-absent, times-push, times-set}
pub use Rattle.std.proofs.lemmas.List.{get_or-map, get_or_past, length-map, length-replicate, map-append}
pub use Rattle.cn_core.specs.Tight.{HasShares, IsBoundedState, IsTightState, ListsStateHolders, grants_of_clients}
pub use Rattle.cn_core.specs.InsideCore.{state_of}
pub use Rattle.cn_ledger.specs.Ledger.{IsQuiescent, IsSound, Ledger, put, times_given}
pub use Rattle.std.proofs.lemmas.List.Sums.{sum_by-cons}
pub use Rattle.cn_names.specs.Names.{is_walking, standing_of_client, with_standing}
pub use Rattle.cn_ledger.specs.declared.reply.Reply.TheVariants.{EnterRefused, Entered, StepRefused, Stepped}
pub use Rattle.cn_core.specs.Calls.{AnswersByHistory, EntersTo, IsLedgerEvent, RunsByHistory, RunsTo, StepsTo, TakesTo}
pub use Rattle.cn_ledger.proofs.CallerLemmas.{bounded, counts-few, eqb-sym, is_end-sym, names-differ, sound-enters, sound-leaves, sound-nothing, sound-passes, tight}
pub use Rattle.cn_yard.specs.Lists.{Admits, Lists, Moves, Releases, Yard, standing, tokens_in}
pub use Rattle.cn_names.specs.declared.standing.Standing.{Standing}
pub use Rattle.cn_ledger.specs.declared.reply.EnterFault.TheVariants.{AlreadyIn, EpochFull, Memory, NoSuchEntry}
pub use Rattle.std.proofs.lemmas.Map.{length-set_value}
pub use Rattle.cn_ledger.specs.declared.reply.Reply.{Reply}
pub use Rattle.cn_names.specs.Grants.{IsRising, ListsByName, grants_in}
pub use Rattle.cn_ledger.specs.Events.{Enters, Leaves, Passes}
