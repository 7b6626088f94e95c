-- What many proofs of this crate import: they import it here.
use Rattle.std.specs.Prelude.{◌==◌}
pub use Rattle.std.proofs.lemmas.Bool.{cases_eq, cases_lt, eq-eqb, eqb-true, le-ltb, lt-ltb, ltb-true, ne_eqb}
pub use Rattle.std.proofs.lemmas.List.{append_assoc, get_or-append-add, get_or-drop, get_or-map, get_or-replicate, get_or-set_other, get_or-set_same, get_or_append_left, get_or_past, length-drop, length-map, length-replicate, length_push, nil_from_length, set-get_or, set-set, take_all, take_more, take_more_set}
pub use Rattle.std.proofs.lemmas.List.FromFn.{fill_by_all, get_or-map-range_with_len, length-map-range_with_len, map-range_with_len_more}
pub use Rattle.std.proofs.lemmas.List.Sums.{count_by-le-length, get_or-le-sum_by, sum_by-append, sum_by-cons, sum_by_push}
pub use Rattle.std.specs.Mem.Slots.{slots_counts, slots_items, slots_len, slots_small}
pub use lib.ListN.{get_elem?}
pub use mathlib.Core.Option.{some, some-injective, some-ne-none}
pub use Rattle.atomic_table.proofs.Lists.{at_set, at_snoc, set_else}
pub use Rattle.atomic_table.specs.Table.{Act, Allows, Final, Joins, Me, Seen, Splits, State, Valid, carried_after, keeps, opening, stepped}
pub use Rattle.cn_ledger.specs.Ledger.{IsQuiescent, IsSound, IsTight, Ledger, all_entered, put, times_given}
pub use Rattle.cn_spec.proofs.CallerLemmas.{at_most_once, exit_of-name_of, name-below, name_of-exit_of, once-in, once-there, once_each, one_more-at, sum-below-fewer, sum-below-front, sum-below-le, sum-below-next, sum-below-none, sum-below-one, sum-below-part, sum-below-plus, sum-below-same, sum-below-shift, sum-below-total, sum-below-zero, sum-by-same, times-append, times-below, times-map, times-member, times-nil, times-place, times-two, total-where-agree, zero_at}
pub use Rattle.cn_spec.specs.Step.{IsEachBelow, name_of, share}
pub use Rattle.cn_spec.specs.Sums.{once_below, when}
unfoldable pub use Rattle.cn_spec.specs.Sums.{sum_below, times}
pub use Rattle.cn_tables.specs.Network.{Counts, IsNetwork, Network}
pub use Rattle.cn_tables.specs.Table.{IsWellFormed, LeadsOn, Stands, Table, end_of, is_end, output_wire, sum_at}
pub use Rattle.cn_tables.specs.declared.end.End.{End}
pub use Rattle.cn_tables.specs.declared.end.End.TheVariants.{Balancer, Exit}
pub use Rattle.cn_yard.specs.Lists.{Admits, IsLowest, IsThere, Lists, Moves, Releases, Yard, empty, first_of, here_or, last_on, on, standing, times_in, tokens_in, without}
unfoldable pub use Rattle.cn_yard.specs.Lists.{standing_below}
pub use Rattle.cn_floor.specs.Alone.{IsAlone, OnlyPassed}
unfoldable pub use Rattle.cn_floor.specs.Alone.{PassesOn}
pub use Rattle.cn_floor.specs.Carried.{AreTight, IsClosed, WordsValue, client_count, start_after, words_before}
pub use Rattle.cn_floor.specs.InsideLane.{IsLane, lane_of}
pub use Rattle.cn_floor.specs.Lane.{FloorValue, LaneValue, PostValue, PutsOn, StepsOn}
pub use Rattle.cn_floor.specs.Plays.{ComesIn, Coming, GoesOn, Going, IsLetBy, IsLoad, Loads, Looks}
pub use Rattle.cn_floor.specs.Rule.{FitsLanes, FloorState, HoldsAt, IsAccounted, IsCarried, IsFresh, IsReached, IsStart, KeepsRule, ledger_of, load_bound, start_of}
pub use Rattle.cn_floor.specs.Spread.{HoldsSpread, IsSpaced, picked, spread, words_in}
pub use Rattle.cn_floor.specs.Steps.{IsAnswer, IsAtomicStep, StoodInState, answer_at}
pub use Rattle.cn_floor.specs.Sweeps.{AllGoOn, AreLetBy, PutsAll, Sweeping, SweepsOn, after_sweep, sweep_at}
unfoldable pub use Rattle.cn_floor.specs.Sweeps.{GoInTurn, after_steps, grants_out}
pub use Rattle.cn_floor.specs.Views.{after_enter, after_entered, after_join, after_load, after_load_by, after_look, after_split, after_step, base, empty_view, given_in, granted_in, levels_in, nobody, on_in, own_count, split_off}
pub use Rattle.cn_floor.specs.Words.{IsDifference, NoneWent, clients_in, count_in, end_word, entered_in, word_count}
pub use Rattle.cn_floor.specs.declared.view.Grant.{Grant}
pub use Rattle.cn_floor.specs.declared.view.Start.{Start}
pub use Rattle.cn_floor.specs.declared.view.View.{View}
pub use Rattle.std.proofs.Common.{All, Bool, Global, List, None, Option, Some, Vec, [], ap, append-nil, arith, cond, count_by, drop, eqb, false, get_or, inl, inr, length, length-append, length-set, ltb, map, max, refl, replicate, rules, set, slice_index, subst, suc, sum, sum_by, sym, take, true, vec_capacity, zero, ℕ, ⊎_elim, ◌%◌, ◌&&◌, ◌*◌, ◌++◌, ◌+◌, ◌-◌, ◌/◌, ◌<◌, ◌^◌, ◌∙◌, ◌∷◌, ◌≡◌, ◌≢◌, ◌≤◌, ◌⊎◌}
pub use Rattle.cn_ledger.proofs.CallerLemmas.{IsNothing, between, bounded, counts-few, entering, granted-once, leaving-there, missing, names-differ, names-each, near-shares, passing-there, smooth, sound-enters, sound-leaves, sound-nothing, sound-passes, tight}
pub use Rattle.cn_yard.proofs.CallerLemmas.{IsFirst, first-is, first-there, last_on-sum, nobody-on, none-first, once-gone, once-moved, others-on, rest-on, there-alike}
pub use Rattle.cn_floor.specs.Ends.{HasRisen, IsClosedFloor, ListsHolders, NobodyInside, QuietValue, counts_by_exit, passes_of}
pub use Rattle.std.specs.Prelude.{IfSome, IsPermutation, IsSome, nat_eq}
pub use Rattle.cn_ledger.specs.Events.{Enters, Goes, Leaves, Passes, one_at}
pub use Rattle.cn_floor.specs.History.{Enter, Event, GoesFrom, Happens, Step}
unfoldable pub use Rattle.cn_floor.specs.History.{LeadsTo}
pub use Rattle.std.proofs.lemmas.Nat.{mod_below}
pub use Rattle.std.proofs.lemmas.List.Elements.{All-append, All-cons, All-nil, All-push}
pub use Rattle.cn_floor.specs.Laws.{TakesItsSteps, ledger_at}
pub use Rattle.std.specs.List.{range_with_len}
pub use Rattle.cn_floor.specs.Closing.{IsEnding, IsMissing}
pub use Rattle.cn_tables.proofs.CallerLemmas.{levels}
pub use Rattle.cn_floor.specs.EntersAll.{AllComeIn, EnteringAll, after_enter_all}
unfoldable pub use Rattle.cn_floor.specs.EntersAll.{EnterInTurn, after_enters}
pub use Rattle.cn_floor.specs.declared.view.Passage.{Passage}
pub use Rattle.cn_floor.specs.Named.{IsGranted, WalksThrough}
pub use Rattle.cn_ledger.specs.Moves.{IsMoveOf}
pub use Rattle.cn_floor.specs.declared.floor.lane.Lane.TheInside.{Inside}
pub use Rattle.std.proofs.Math.Nat.{mul-le-mul_left}
pub use Rattle.cn_yard.specs.Deals.{IsCleared, IsDealt, out_of}
unfoldable pub use Rattle.cn_yard.specs.Deals.{Deals, Frees}
pub use Rattle.cn_floor.specs.Together.{HaveDistinctNames, Pair, both_of, cut_first, cut_second, first_after}
pub use Rattle.cn_floor.specs.InsideCounters.{IsCounters}
pub use Rattle.cn_tables.specs.Levels.{IsLevel}
pub use Rattle.cn_ledger.specs.declared.moved.Moved.{Moved}
pub use Rattle.std.proofs.Math.Seq.{get_or-append_seam, take-append_seam}
pub use Rattle.cn_ledger.specs.declared.moved.Moved.TheVariants.{On, Out}
pub use Rattle.std.proofs.lemmas.Bool.Decides.{nat_tests}
pub use Rattle.cn_floor.specs.Consistent.{IsQuiescentlyConsistent, KeepsRealTimeOrder, client_of}

-- what follows from an order, turned
pub turned : (a b c d : ℕ) → (a < b → c < d) → d ≤ c → b ≤ a
turned a b c d less h = elim (cases_lt a b) [ inl l ↦ absurd (omega (arith, h, less l)) | inr l ↦ l ]

-- how many tokens on wire u are client c
abbrev pub standing_in : ℕ → ℕ → View → ℕ
standing_in u c v = count_by (λ e. e.1 == c) (on v.tokens u)
