-- The names that most proofs cite, passed on from one place. It declares nothing.
pub use Rattle.std.proofs.Common.{◌≡◌, ◌<◌, ◌≤◌, ◌+◌, ℕ, Bool, List, [], ◌∷◌, ◌++◌, true, false, Option, Some, None, length, refl, arith, suc, sym, ap, ◌∙◌, inl, inr, map, subst, length-append, if◌then◌else◌, drop, take, get_or, zero, ap₂, append_assoc, ◌^◌, rules, ◌*◌, ◌-◌, ◌%◌, length-drop, add-one, zero-add, length-take, slice_index, vec_len}
pub use Rattle.std.specs.Prelude.{All, Err, IfErr, IfOk, IfSome, MatchOption, MatchResult, Ok, Result, codes, decimal, nat_eq, nat_le, nat_lt, option_map, slice_get, ◌&&◌, ◌==◌, ◌||◌, ◌≢◌, ◌⊎◌}
pub use Rattle.std.specs.List.{AllByRecursion, list_any, cons_option, sum_by, flat_map, range_with_len, list_all, AllZip, zip, enumerate_from}
pub use Rattle.std.proofs.lemmas.Bool.{lt-ltb, le-ltb, le-leb, lt-leb, ne_eqb, eq-eqb}
pub use Rattle.std.proofs.lemmas.Bool.Decides.{leb_tells, eqb_tells, nat_tests}
pub use Rattle.std.proofs.lemmas.List.{append-nil, drop_more, flat_map_more, get_or-map, get_or-take, length-map, length-take-le, map-append, take-append-drop, take-append-le, take-take, take_all, take_more, take_rest, with_items_is}
pub use Rattle.std.proofs.lemmas.List.Elements.{All-from_get_or, All-from_recursion, All-get_or, All-nil, All-push, filter-append, filter_map-append}
pub use Rattle.std.proofs.lemmas.List.Sums.{fold-append, sum_by-cons, sum_by_push, sum_by-drop_more}
pub use Rattle.cn_spec.specs.Step.{counts_of, shares, shares_after, share}
pub use Rattle.cn_spec.specs.declared.limits.TheConstants.{MOST_NAMED, MOST_RECORDS}
pub use Rattle.cn_texts.specs.Reading.Records.{HasRead, HasStopped, IsPlain, IsTold, Record, fault_by, records_of}
pub use Rattle.cn_texts.specs.Writing.Pieces.{IsOnItsWay, Pending, Puts, nothing_put}
pub use Rattle.cn_texts.specs.Reading.Batch.{AreEpochsOf, AreServable, IsBatch, IsBatchFault, MayCome, arrivals_of, batch_cause_of_fault, cause_of_heading, clients_of_epochs, header_cause, record_cause}
unfoldable pub use Rattle.cn_texts.specs.Reading.Batch.{AreRising}
pub use Rattle.cn_texts.specs.Writing.Replay.{IsShowable, answer_line, answer_lines, replay_text}
unfoldable pub use Rattle.cn_texts.specs.Writing.Replay.{end_line, enter_line, moved_line, step_line}
pub use Rattle.cn_texts.specs.Grants.TightList.{AreTightGrants, IsEndFlaw, IsFirstWithCause, IsFlaw, IsFlawTold, IsOutside, IsRepeatFlaw, IsTightList, Lacks, flaw_of, grant_cause_of_fault, grants_cause, record_form}
pub use Rattle.cn_spec.proofs.CallerLemmas.{all_below, at_most_once, counts-shares, once-there, once_each, range_more, times-append, times-cons, times-inside, times-nil, times-order, times-place, times-two}
pub use Rattle.cn_texts.specs.Grants.TightText.{tight_counts, tight_line, tight_text}
unfoldable pub use Rattle.cn_texts.specs.Grants.TightText.{tight_end, tight_head}
pub use Rattle.csv.specs.Records.{fields_of}
unfoldable pub use Rattle.csv.specs.Records.{field_at}
pub use Rattle.cn_texts.specs.Writing.Outcome.{exit_line, exit_lines, name_line, name_lines}
pub use Rattle.cn_texts.specs.Grants.Printed.{IsNamedList, epoch_numbers, named_epoch, plain_named, with_number, with_shares}
pub use Rattle.cn_texts.specs.declared.grants.record.Granted.{Granted}
pub use Rattle.cn_spec.specs.Sums.{times, when}
pub use Rattle.cn_texts.specs.Reading.Gathered.{HoldsArrivals, IsGathered, StaysServable, adding_cause, ended_after}
pub use Rattle.cn_texts.specs.Reading.Stretch.{AreSpelled, AreRead, EndsAfter, Gathers, HasHeader, HasSameHeader, HasStretch, ReadsStretch}
pub use Rattle.cn_texts.specs.declared.reading.batch.BatchEpoch.{BatchEpoch}
pub use Rattle.std.proofs.lemmas.Result.{IfOk-weaker, err_from_is_err_and}
pub use Rattle.cn_texts.specs.Grants.Occurrences.{IsFirstRepeat, IsRepeat, has_number, numbers_of}
unfoldable pub use Rattle.cn_texts.specs.Grants.Occurrences.{occurrences_from}
pub use Rattle.cn_texts.specs.Grants.Granted.{first_cause, grants_spelled, has_client, has_name, last_epoch, of_epoch, spelled_cause, spelled_form}
unfoldable pub use Rattle.cn_texts.specs.Grants.Granted.{form_cause, grant_spelled, twice_cause}
pub use Rattle.std.proofs.Math.Seq.{get_or-append_seam, take-add, take-append_seam, take-length}
pub use Rattle.csv.specs.declared.reader.Reader.{Reader}
pub use Rattle.cn_texts.specs.declared.reading.bounds.Bounds.{Bounds}
pub use Rattle.cn_texts.specs.declared.reading.batch.arrival.Arrival.{Arrival}
pub use Rattle.std.specs.Result.{is_ok, result_ok}
pub use Rattle.cn_texts.specs.Reading.Schedule.{IsSchedule, cause_of_fault, command_cause}
pub use Rattle.cn_ledger.specs.declared.record.EpochRecord.{EpochRecord}
pub use Rattle.cn_texts.specs.Writing.EpochRecords.{IsRecordOfEpoch}
unfoldable pub use Rattle.cn_texts.specs.Writing.EpochRecords.{AreRecordsOf}
pub use Rattle.cn_texts.specs.Writing.Report.{clients_of_records, epoch_line, epoch_lines, report_text}
unfoldable pub use Rattle.cn_texts.specs.Writing.Report.{report_end}
pub use Rattle.cn_texts.specs.Grants.ListText.{grant_line, grant_lines, grants_text}
pub use Rattle.cn_texts.specs.Grants.Checked.{AreFresh, AreFreshBefore, AreSeen, HoldsGrants, IsChecked, IsGapBelow, IsTwice, Tells, count_of, latest_number, latest_seen}
pub use Rattle.cn_texts.specs.declared.grants.occurrences.Occurrence.{Occurrence}
pub use Rattle.cn_texts.specs.declared.reading.batch.gathering.Gathering.{Gathering}
pub use Rattle.cn_texts.specs.declared.reading.batch.arrival.Heading.{Heading}
pub use Rattle.cn_texts.specs.declared.reading.batch_fault.BatchCause.{BatchCause}
pub use Rattle.cn_texts.specs.Reading.Arrival.{arrival_in, arrivals_in}
unfoldable pub use Rattle.cn_texts.specs.Reading.Arrival.{arrival_cause}
pub use Rattle.std.specs.Char.{digit_value, is_ascii_digit}
pub use Rattle.cn_texts.specs.declared.reading.batch_fault.BatchCause.TheVariants.{Memory}
pub use Rattle.std.specs.Io.KnownBytes.{Appends, Keeps}
pub use Rattle.std.proofs.Math.Dec.{leb}
pub use Rattle.std.proofs.lemmas.List.Folds.{list_all_more, list_any_at, list_any_none}
pub use Rattle.std.proofs.lemmas.Option.{get_or_from_slice_get, none-some, slice_get-get_or, slice_get_within}
pub use Rattle.cn_texts.specs.declared.grants.record.Flaw.TheVariants.{DuplicateClient, DuplicateName, Form, Gap, Read}
pub use Rattle.cn_texts.specs.declared.grants.record.GrantCause.{GrantCause}
pub use Rattle.cn_texts.specs.declared.grants.record.Flaw.{Flaw}
pub use Rattle.csv.specs.Reading.{ReadRecord, default_config, has_failed, reader_config, reader_source, reader_state, source_of, strip_bom}
unfoldable pub use Rattle.csv.specs.Reading.{Reached, records_from}
pub use Rattle.cn_ledger.specs.declared.command.Command.{Command}
pub use Rattle.std.proofs.lemmas.List.FromFn.{get_or-enumerate_from, get_or-map-range_with_len, length-enumerate_from, map-range_with_len_more}
pub use Rattle.cn_texts.specs.Writing.Wiring.{wire_line, wiring_text}
pub use Rattle.cn_texts.specs.declared.grants.epochs.NamedEpoch.{NamedEpoch}
pub use Rattle.std.proofs.lemmas.List.Sorted.{All-permutation, IsPermutation-map, length_permutation, list_any-IsPermutation, ranks_by, sorted_far}
pub use Rattle.cn_texts.specs.Reading.Faults.{IsClean, IsCleanBefore, IsFirstFault}
unfoldable pub use Rattle.cn_texts.specs.Reading.Faults.{cause_by}
pub use Rattle.cn_texts.specs.Writing.Text.{line}
unfoldable pub use Rattle.cn_texts.specs.Writing.Text.{heading}
pub use Rattle.cn_texts.specs.Reading.Heading.{heading_of, heading_or}
pub use Rattle.std.specs.Str.Parse.{digits_value, digits_value_after}
pub use Rattle.std.proofs.lemmas.Grind.{flat_map-append}
pub use Rattle.cn_texts.specs.Reading.Number.{value_in}
pub use Rattle.std.proofs.Math.ListN.{drop_of_length-le, get_or-append}
pub use Rattle.cn_ledger.specs.declared.client.Client.{Client}
unfoldable pub use Rattle.cn_texts.specs.Reading.Command.{command_in}
pub use Rattle.cn_texts.specs.Reading.Bounds.{AreBounds, bounds_of}
pub use Rattle.cn_ledger.specs.declared.answer.Answer.{Answer}
pub use Rattle.cn_ledger.specs.declared.reply.Reply.TheVariants.{EnterRefused, StepRefused}
