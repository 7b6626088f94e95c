-- What many proofs of this crate import: they import it here.
pub use Rattle.std.proofs.Common.{All, Bool, Global, List, None, Option, Some, Vec, [], ap, append-nil, append_assoc, arith, drop, false, get_or, inl, inr, length, map, refl, rules, subst, sym, take, true, vec_capacity, vec_len, zero-add, ℕ, ◌*◌, ◌++◌, ◌+◌, ◌-◌, ◌<◌, ◌^◌, ◌∙◌, ◌∷◌, ◌≡◌, ◌≤◌}
pub use Rattle.std.specs.Prelude.{Err, IfOk, IfSome, Ok, is_some, string_bytes, ◌≢◌, ◌⊎◌}
pub use Rattle.cn_texts.proofs.CallerLemmas.{known-map, lines-by, written-map}
pub use Rattle.cn_texts.specs.Writing.Written.{First, HasWritten, Whole, Written, written_by}
pub use Rattle.cn_texts.specs.Reading.Batch.{AreServable, IsBatch, IsBatchFault, MayCome, clients_of_epochs}
pub use Rattle.cn_renamer.specs.Floors.{HaveWalked, IsOfFloor, IsRunOnFloors, WalkedOn, new_runner, runner_after}
unfoldable pub use Rattle.cn_renamer.specs.Floors.{AreOfRunner}
pub use Rattle.cn_tables.specs.Network.{Network}
pub use Rattle.cn_floor.specs.Ends.{ListsHolders, QuietValue, counts_by_exit}
pub use Rattle.cn_texts.specs.Reading.Bounds.{bounds_of}
pub use Rattle.cn_texts.specs.declared.reading.batch.BatchEpoch.{BatchEpoch}
pub use Rattle.std.proofs.lemmas.Result.{err_from_is_err_and}
pub use Rattle.cn_renamer.specs.Headline.{IsInOrder, IsRunInOrder, IsRunInOrderOfKnown, IsRunOf, IsRunOfKnown, IsServed, ids_of, text_in}
unfoldable pub use Rattle.cn_renamer.specs.Headline.{AreServed}
pub use Rattle.cn_renamer.specs.Running.{MayRunAll, crew_of, of_one_worker, walkers, walkers_asked, walkers_by}
pub use Rattle.std.proofs.lemmas.List.{drop_at, ext_get_or, get_or-map, length-drop, length-map, length-take-le, take_at}
pub use Rattle.cn_ledger.specs.declared.record.EpochRecord.{EpochRecord}
pub use Rattle.cn_renamer.specs.Replay.{AreAnsweredAs, IsKept, IsReplayOfCommands, IsReplayText, IsWithoutCounts}
pub use Rattle.std.specs.List.{AllZip, flat_map}
pub use Rattle.std.proofs.lemmas.List.Elements.{All-drop, All-head, All-push, All-tail, All-take, All-weaker, AllZip-get_or, AllZip-push, length_all_zip}
pub use Rattle.std.proofs.lemmas.List.Sums.{sum_by-cons, sum_by-take-drop, sum_by-take-le, sum_by_push}
pub use Rattle.cn_spec.specs.declared.limits.TheConstants.{MOST_CLIENTS, MOST_ENDS, MOST_NAMED}
pub use Rattle.cn_floor.specs.Carried.{WordsValue, client_count, words_before, zero_words}
pub use Rattle.cn_spec.specs.Sums.{times, when}
pub use Rattle.cn_walk.specs.Runner.{RunnerValue, next_runner, next_words}
pub use Rattle.cn_walk.specs.Runs.{IsRunAfter}
unfoldable pub use Rattle.cn_texts.specs.Writing.EpochRecords.{AreRecordsOf}
pub use Rattle.cn_epoch.specs.History.{ByEpochHistories, Epochs, EpochsAgree, history_by_commands, turns_by}
pub use Rattle.cn_texts.specs.Reading.Records.{records_of}
pub use Rattle.cn_nets.specs.Net.{Description, IsNetworkOf, entries_of}
pub use Rattle.cn_ledger.specs.declared.client.Client.{Client}
pub use Rattle.std.proofs.lemmas.Grind.{common_steps, same_number_lists}
pub use Rattle.cn_renamer.specs.Outputs.{until_output}
pub use Rattle.cn_ledger.specs.Answers.{HadMemory}
pub use Rattle.cn_renamer.specs.Performing.{IsBuiltFor, IsTextOf}
pub use Rattle.cn_walk.specs.declared.crew.Crew.{Crew}
pub use Rattle.std.proofs.lemmas.List.FromFn.{get_or-map-range_with_len, get_or-range_with_len, length-map-range_with_len}
pub use Rattle.cn_spec.specs.Step.{share, shares_after}
pub use Rattle.cn_ledger.specs.declared.answer.Answer.{Answer}
pub use Rattle.cn_ledger.specs.declared.command.Command.TheVariants.{Enter, Step, Turn}
pub use Rattle.cn_epoch.specs.Calls.{RunsCommandsByHistory, TakesCommandTo}
pub use Rattle.cn_renamer.specs.Serve.{IsServeFault, fault_of_batch, fault_of_cause, until_serve}
pub use Rattle.cn_walk.specs.Walks.{AreFor, AreInOrder}
